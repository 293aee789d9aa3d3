use Rattle.std.proofs.Common.{◌∙◌, ap, arith, length}
use Rattle.metric_events.specs.Points.{points}
use Rattle.metric_events.specs.Running.{held_senders}
use Rattle.metric_events.specs.Standing.{standing}
use Rattle.delta_book.specs.Journal.{journal_of, history}
use Rattle.delta_book.specs.Totals.{first_words, acknowledged_points}
use Rattle.delta_book.proofs.Acknowledging.{counted}
use Rattle.delta_book.proofs.Counting.{few_cells}
use Rattle.delta_book.proofs.Stored.{booked_cells}
use Rattle.delta_book.proofs.book.Book.acknowledged.Goals as goal

pub acknowledged_words-requires : goal.acknowledged_words-requires
acknowledged_words-requires c =
    let b = c.self.inside in
    omega (
      arith,
      ap length c.deref.ensures.value,
      few_cells b.cells.items
          (booked_cells b c.self.invariant),
    )

pub returns : goal.returns
returns c =
    let b = c.self.inside in
    let E = history (journal_of b.opening b.entries.items) in
    c.acknowledged_words.ensures
    ∙ (ap first_words c.deref.ensures.value
    ∙ (counted b.cells.items (points E) (held_senders E) c.self.invariant.cells
    ∙ ap (λ xs. acknowledged_points (standing (history xs)).series) c.self.view_is))
