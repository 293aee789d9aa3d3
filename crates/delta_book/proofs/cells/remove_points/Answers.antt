use Rattle.std.proofs.Common.{◌∙◌, ◌++◌, ◌+◌, ◌-◌, length, map, take, subst}
use Rattle.std.proofs.lemmas.List.{append_assoc}
use Rattle.metric_events.specs.Points.{admitted}
use Rattle.delta_book.specs.inner.Parts.{parts_of}
use Rattle.delta_book.specs.inner.Tables.{IsTable}
use Rattle.delta_book.proofs.Removing.{last_out}
use Rattle.delta_book.proofs.cells.remove_points.Goals as goal

pub remove_one-requires : goal.remove_one-requires
remove_one-requires c =
    let r = c.requires in
    let ps = c.args.batch.now in
    let last = subst (IsTable c.loop-k.cells)
    (last_out c.args.fill c.args.number r.0 r.1.0 r.1.1.0 ps c.loop-k.k c.index-batch-i.result
    c.loop-k-test.true c.index-batch-i.is)
    (c.loop-k.invariant.removed r.0 r.1.0 r.1.1.0 r.1.1.1) in (
      r.0,
      (
        r.1.0 ++ map (admitted c.args.number r.0)
            (parts_of c.args.fill (take (length ps - (c.loop-k.k + 1)) ps)),
        (r.1.1.0, last),
      ),
    )

pub loop-k-preserved : goal.loop-k-preserved
loop-k-preserved c = record {
  removed = λ s before after h.
      let ps = c.args.batch.now in
      let left = map (admitted c.args.number s)
      (parts_of c.args.fill (take (length ps - (c.loop-k.k + 1)) ps)) in
      let last = subst (IsTable c.loop-k.cells)
      (last_out c.args.fill c.args.number s before after ps c.loop-k.k c.index-batch-i.result
      c.loop-k-test.true c.index-batch-i.is) (c.loop-k.invariant.removed s before after h)
      in
      subst (IsTable c.remove_one.new.cells) (append_assoc before left after)
      (c.remove_one.ensures.removed s (before ++ left) after last);
  series = c.remove_one.ensures.series ∙ c.loop-k.invariant.series;
}
