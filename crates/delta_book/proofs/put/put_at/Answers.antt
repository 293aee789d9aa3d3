use Rattle.std.proofs.Common.{◌∙◌, ap, sym, get_or}
use Rattle.series_cell.specs.Cells.{CellView}
use Rattle.delta_book.proofs.Asked.{cell_of}
use Rattle.delta_book.proofs.PutIn.{fault_is, clear, row_long, fits_at, rejects_at, put_one}
use Rattle.delta_book.proofs.PutIn.{then_ok, then_rejection, any_ok}
use Rattle.delta_book.proofs.Searching.{same_at}
use Rattle.delta_book.proofs.Tables.{at_id}
use Rattle.delta_book.proofs.put.put_at.Goals as goal

pub returns-in-Some-clause-rejection : goal.returns-in-Some-clause-rejection
returns-in-Some-clause-rejection c = λ qs h.
    let cell : CellView = get_or c.args.cells.now c.args.i c.index-cells-i.result in
    sym (fault_is cell qs c.args.sender.now c.args.place c.args.point.now
    (cell_of c.args.cells.now qs c.args.i cell c.args.point.now.series h c.requires.inside
    (ap (get_or c.args.cells.now c.args.i) c.index-cells-i.is) c.requires.there))
    ∙ sym c.in-Some.ensures

pub put_part-requires-clause-series : goal.put_part-requires-clause-series
put_part-requires-clause-series c =
    sym (at_id c.args.cells.now c.args.i (get_or c.args.cells.now c.args.i c.index-cells-i-2.result)
    c.args.point.now.series c.requires.there
    (ap (get_or c.args.cells.now c.args.i) c.index-cells-i-2.is))

pub put_part-requires-clause-long : goal.put_part-requires-clause-long
put_part-requires-clause-long c = row_long c.args.cells.now c.args.i
    (get_or c.args.cells.now c.args.i c.index-cells-i-2.result) c.requires.inside
    (ap (get_or c.args.cells.now c.args.i) c.index-cells-i-2.is) c.requires.some

pub returns-clause-put : goal.returns-clause-put
returns-clause-put c =
    let old : CellView = get_or c.args.cells.now c.args.i c.index-cells-i.result in
    let cell : CellView = get_or c.args.cells.now c.args.i c.index-cells-i-2.result in
    let e = ap (get_or c.args.cells.now c.args.i) c.index-cells-i-2.is in
    let same = same_at c.args.cells.now c.args.i old cell c.requires.inside
    (ap (get_or c.args.cells.now c.args.i) c.index-cells-i.is) e in
    let owner = (clear old cell c.args.sender.now c.args.place c.args.point.now same
    c.in_default.ensures).owner in
    then_ok c.put_part.result _ _
    (λ k. put_one c.args.cells.now c.args.i cell c.put_part.new.cell c.args.number c.args.sender.now
    c.args.fill c.args.point.now c.requires.inside e c.requires.there owner
    c.put_part.ensures.same k)
    c.put_part.ensures.put

pub returns-clause-within : goal.returns-clause-within
returns-clause-within c =
    let cell : CellView = get_or c.args.cells.now c.args.i c.index-cells-i-2.result in
    then_ok c.put_part.result _ _
    (λ k w qs h. sym (fits_at cell qs c.args.point.now
    (cell_of c.args.cells.now qs c.args.i cell c.args.point.now.series h c.requires.inside
    (ap (get_or c.args.cells.now c.args.i) c.index-cells-i-2.is) c.requires.there).sum)
    ∙ k w)
    c.put_part.ensures.within

pub returns-clause-next : goal.returns-clause-next
returns-clause-next c =
    let cell : CellView = get_or c.args.cells.now c.args.i c.index-cells-i.result in
    any_ok c.put_part.result _
    (λ qs h. sym (fault_is cell qs c.args.sender.now c.args.place c.args.point.now
    (cell_of c.args.cells.now qs c.args.i cell c.args.point.now.series h c.requires.inside
    (ap (get_or c.args.cells.now c.args.i) c.index-cells-i.is) c.requires.there))
    ∙ sym c.in_default.ensures)

pub returns-clause-rejection : goal.returns-clause-rejection
returns-clause-rejection c =
    let cell : CellView = get_or c.args.cells.now c.args.i c.index-cells-i-2.result in
    then_rejection c.put_part.result _ _
    (λ e k qs h. rejects_at e c.args.fill _ qs c.args.sender.now c.args.place c.args.point.now
    (fits_at cell qs c.args.point.now
    (cell_of c.args.cells.now qs c.args.i cell c.args.point.now.series h c.requires.inside
    (ap (get_or c.args.cells.now c.args.i) c.index-cells-i-2.is) c.requires.there).sum)
    k)
    c.put_part.ensures.rejection
