use Rattle.std.proofs.Common.{◌∙◌, sym}
use Rattle.delta_book.proofs.Tables.{id_at}
use Rattle.delta_book.proofs.cells.find_place.Goals as goal

pub returns-then-is_same : goal.returns-then-is_same
returns-then-is_same c =
    let cell = c.index-cells-hint.result in (
      c.if-hint-cells.true,
      id_at c.args.cells.now c.place-hint.result cell c.args.series.now c.if-hint-cells.true
          c.index-cells-hint.is
          (sym c.shared_id.ensures ∙ sym (c.is_same.ensures.exact.0 c.if-is_same.true)),
    )
