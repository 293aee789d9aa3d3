use Rattle.std.proofs.Common.{◌≡◌, ◌*◌, ◌^◌, ◌≤◌, take}
use Rattle.shared_book.specs.Audits.{admitted_points}
use Rattle.shared_book.proofs.audit.points_admitted.Given as goal

abbrev pub invariant-loop-entry : goal.invariant-loop-entry
invariant-loop-entry l =
    (l.total ≡ admitted_points (take l.entry-index l.entries)) × (l.total ≤ l.entry-index * 2 ^ 64)
