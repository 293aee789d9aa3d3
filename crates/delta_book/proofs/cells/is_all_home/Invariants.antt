use Rattle.std.proofs.Common.{◌≡◌, List, drop}
use Rattle.std.specs.List.{list_all}
use Rattle.metric_events.specs.Legal.{is_batch_home}
use Rattle.metric_events.specs.declared.accepted.Accepted.{Accepted}
use Rattle.delta_book.specs.Tables.{AreCells}
use Rattle.delta_book.specs.inner.Tables.{IsEntered}
use Rattle.delta_book.proofs.Entered.{is_home_at}
use Rattle.delta_book.proofs.cells.is_all_home.Given as goal

abbrev pub invariant-loop-p : goal.invariant-loop-p
invariant-loop-p l = (qs : List Accepted) → AreCells l.cells qs → IsEntered qs l.number l.batch
    → list_all (is_home_at qs l.number) (drop l.p-index l.batch) ≡ is_batch_home l.number qs
