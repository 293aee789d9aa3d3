use Rattle.std.proofs.Common.{◌∙◌, ap, map}
use Rattle.metric_events.specs.Points.{points}
use Rattle.metric_events.specs.Running.{held_senders}
use Rattle.metric_events.specs.Standing.{all_series}
use Rattle.delta_book.specs.Journal.{journal_of, history}
use Rattle.delta_book.specs.CellTotals.{cell_totals, standing_totals}
use Rattle.delta_book.proofs.CellTotals.{totals_of_all}
use Rattle.delta_book.proofs.book.Book.cells.Goals as goal

pub returns : goal.returns
returns c =
    let b = c.self.inside in
    ap (map cell_totals) c.as_slice.ensures.value
    ∙ (totals_of_all b.cells.items (points (history (journal_of b.opening b.entries.items)))
    (held_senders (history (journal_of b.opening b.entries.items))) c.self.invariant.cells
    ∙ ap (λ xs. map standing_totals (all_series (points (history xs)) (held_senders (history xs))))
    c.self.view_is)
