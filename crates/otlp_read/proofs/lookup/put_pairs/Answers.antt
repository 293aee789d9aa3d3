use Rattle.std.proofs.Common.{◌≡◌, arith, length, Some, ap, refl, sym, map, take, ◌∙◌}
use Rattle.otlp_read.specs.Attributes.{pair_of}
use Rattle.otlp_read.specs.inner.RefViews.{pair_data}
use Rattle.otlp_read.proofs.LookupLemmas.{put_more}
use Rattle.otlp_read.proofs.ListLemmas.{all_done}
use Rattle.otlp_read.proofs.lookup.put_pairs.Goals as goal

pub loop-i-preserved : goal.loop-i-preserved
loop-i-preserved c =
    put_more c.args.values.now c.loop-i.room c.loop-i.i c.index-values-i.result c.in_ok-room.field-0
    _ c.loop-i-test.true (omega arith) c.index-values-i.is c.in_ok-room.ensures
    c.loop-i.invariant

pub returns : goal.returns
returns c =
    let whole : c.loop-i.i ≡ length c.args.values.now = omega arith in
    sym (c.loop-i.invariant) ∙ all_done pair_of c.args.values.now c.loop-i.i
    (map pair_data (take c.loop-i.i c.loop-i.room)) _ c.loop-i-test.false refl
    ∙ ap (λ n. Some (map pair_data (take n c.loop-i.room))) whole
