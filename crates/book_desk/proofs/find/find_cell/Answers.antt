use Rattle.std.proofs.Common.{◌∙◌, sym, subst}
use Rattle.series_id.specs.Identity.{Identity}
use Rattle.delta_book.specs.inner.Puts.{IsGap}
use Rattle.delta_book.proofs.NewCell.{gap_absent}
use Rattle.delta_book.proofs.Tables.{id_at}
use Rattle.book_desk.proofs.find.find_cell.Goals as goal

pub returns-then-is_same : goal.returns-then-is_same
returns-then-is_same c =
    let cell = c.index-cells-hint.result in (
      c.if-hint-cells.true,
      id_at c.args.cells.now c.place-hint.result cell c.args.series.now c.if-hint-cells.true
          c.index-cells-hint.is
          (sym c.shared_id.ensures ∙ sym (c.is_same.ensures.exact.0 c.if-is_same.true)),
    )

pub returns-in-Err : goal.returns-in-Err
returns-in-Err c = λ u. gap_absent c.args.cells.now c.in-Err.field-0 c.args.series.now u
    (subst (λ (x : Identity). IsGap c.args.cells.now c.in-Err.field-0 x) c.as_series.ensures
    (c.in-Err.ensures.1 u))
