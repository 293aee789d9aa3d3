use Rattle.std.proofs.Common.{◌≡◌, ℕ, List, ◌++◌, map, drop}
use Rattle.metric_events.specs.Points.{admitted}
use Rattle.metric_events.specs.Legal.{is_too_large}
use Rattle.metric_events.specs.declared.accepted.Accepted.{Accepted}
use Rattle.delta_book.specs.Tables.{AreCells}
use Rattle.delta_book.specs.inner.AtHome.{AreAccepted}
use Rattle.delta_book.proofs.limits.is_large.Given as goal

abbrev pub invariant-loop-p : goal.invariant-loop-p
invariant-loop-p l = (b : ℕ) (s : List ℕ) (qs : List Accepted) → AreAccepted qs
    → AreCells l.cells qs → is_too_large (qs ++ map (admitted b s) l.batch) (drop l.p-index l.batch)
    ≡ is_too_large (qs ++ map (admitted b s) l.batch) l.batch
