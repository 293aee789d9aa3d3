use Rattle.std.proofs.Common.{◌≡◌, ℕ, List, take, map}
use Rattle.metric_events.specs.Standing.{series_standing}
use Rattle.metric_events.specs.Close.{handed_on}
use Rattle.metric_events.specs.declared.accepted.Accepted.{Accepted}
use Rattle.delta_book.specs.Tables.{AreCells, id_of}
use Rattle.delta_book.proofs.opening.hand_on_all.Given as goal

abbrev pub invariant-loop-cell : goal.invariant-loop-cell
invariant-loop-cell l = (held : List (List ℕ)) (qs : List Accepted) → AreCells l.cells qs
    → l.all.items ≡ map (λ d. handed_on l.before.series (series_standing qs held (id_of d)))
    (take l.cell-index l.cells)
