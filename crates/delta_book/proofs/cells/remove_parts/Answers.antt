use Rattle.std.proofs.Common.{◌∙◌, ◌++◌, ap, length, map, subst, sym}
use Rattle.metric_events.specs.Points.{admitted}
use Rattle.series_cell.proofs.ByPlace.{written_back}
use Rattle.delta_book.specs.Tables.{AreCells, id_of}
use Rattle.delta_book.specs.inner.Parts.{parts_of}
use Rattle.delta_book.specs.inner.Removals.{AreCellsFor}
use Rattle.delta_book.proofs.Removing.{table_of, left_for}
use Rattle.delta_book.proofs.cells.remove_parts.Goals as goal

pub remove_points-requires : goal.remove_points-requires
remove_points-requires c =
    let r = c.requires in (
      r.0,
      (
        r.1.0,
        (
          r.1.1.0,
          table_of c.deref_mut.result.now
              _ (subst (λ ks. AreCells ks (r.1.0
              ++ (map (admitted c.args.number r.0) (parts_of c.args.fill c.args.batch.now)
              ++ r.1.1.0))) (sym c.deref_mut.ensures.value) r.1.1.1),
        ),
      ),
    )

pub returns : goal.returns
returns c = λ s before after h.
    let v = c.deref_mut.ensures.value in
    let new = c.remove_points.new.cells in
    let ps = c.args.batch.now in
    let all = before ++ (map (admitted c.args.number s) (parts_of c.args.fill ps) ++ after) in
    let t = c.remove_points.ensures.removed s before after
    (table_of c.deref_mut.result.now all (subst (λ ks. AreCells ks all) (sym v) h)) in
    c.sweep_cells.ensures (before ++ after)
    (subst (λ ks. AreCellsFor ks (before ++ after) ps)
    (sym (written_back c.args.cells.now.items new c.args.cells.now.len
    (c.remove_points.auto.cells ∙ ap length v) c.args.cells.now.ok.0))
    (left_for c.args.cells.now.items new c.args.number s c.args.fill before after ps
    (c.remove_points.ensures.series ∙ ap (map id_of) v) t h))
