use Rattle.std.proofs.Common.{◌∙◌, ap, get_or, refl}
use Rattle.series_cell.specs.Cells.{CellView}
use Rattle.delta_book.specs.inner.Parts.{part_of}
use Rattle.delta_book.proofs.Removing.{has_home, removed, not_absent}
use Rattle.delta_book.proofs.Sweeping.{found, missed}
use Rattle.delta_book.proofs.Tables.{at_id, set_ids}
use Rattle.delta_book.proofs.cells.remove_one.Goals as goal

pub remove_part-requires : goal.remove_part-requires
remove_part-requires c =
    let f = found c.args.cells.now c.args.cells.now c.in-Some.i c.shared_series.result.now
    c.args.point.now.series refl c.shared_series.ensures c.in-Some.ensures in
    has_home c.args.cells.now c.in-Some.i
    (get_or c.args.cells.now c.in-Some.i c.index-cells-i.result) c.args.number
    (part_of c.args.fill c.args.point.now) f.0
    (ap (get_or c.args.cells.now c.in-Some.i) c.index-cells-i.is) f.1 c.requires

pub returns-in-Some-clause-removed : goal.returns-in-Some-clause-removed
returns-in-Some-clause-removed c = λ s before after h.
    let f = found c.args.cells.now c.args.cells.now c.in-Some.i c.shared_series.result.now
    c.args.point.now.series refl c.shared_series.ensures c.in-Some.ensures in
    removed c.args.cells.now c.in-Some.i
    (get_or c.args.cells.now c.in-Some.i c.index-cells-i.result) c.remove_part.new.cell
    c.args.number s (part_of c.args.fill c.args.point.now) before after f.0
    (ap (get_or c.args.cells.now c.in-Some.i) c.index-cells-i.is) f.1
    c.remove_part.ensures.same.id c.remove_part.ensures.stands h

pub returns-in-Some-clause-series : goal.returns-in-Some-clause-series
returns-in-Some-clause-series c =
    let f = found c.args.cells.now c.args.cells.now c.in-Some.i c.shared_series.result.now
    c.args.point.now.series refl c.shared_series.ensures c.in-Some.ensures in
    let old : CellView = get_or c.args.cells.now c.in-Some.i c.index-cells-i.result in
    set_ids c.args.cells.now c.in-Some.i c.remove_part.new.cell c.args.point.now.series f.1
    (c.remove_part.ensures.same.id ∙ at_id c.args.cells.now c.in-Some.i old
    c.args.point.now.series f.1
    (ap (get_or c.args.cells.now c.in-Some.i) c.index-cells-i.is))

pub returns-in_default-clause-removed : goal.returns-in_default-clause-removed
returns-in_default-clause-removed c = λ s before after h.
    absurd (not_absent c.args.cells.now c.args.number s (part_of c.args.fill c.args.point.now)
    before after (missed c.args.cells.now c.args.cells.now c.shared_series.result.now
    c.args.point.now.series refl c.shared_series.ensures c.in_default.ensures h.ascending)
    h)
