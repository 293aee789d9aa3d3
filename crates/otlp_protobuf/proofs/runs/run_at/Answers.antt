use Rattle.std.proofs.Common.{◌/◌, ap, drop, length-drop, subst, sym, take, ◌∙◌}
use Rattle.std.proofs.Math.Seq.{take-length}
use Rattle.otlp_protobuf.specs.inner.Runs.{IsAttribute}
use Rattle.otlp_protobuf.proofs.RunLemmas.{run_more}
use Rattle.otlp_protobuf.proofs.runs.run_at.Goals as goal

pub loop-more-preserved : goal.loop-more-preserved
loop-more-preserved c =
    let behind = drop c.loop-more.size c.args.bytes.now in
    let whole = ap (λ n. take n behind) (sym (length-drop c.loop-more.size c.args.bytes.now))
    ∙ take-length behind in
    run_more (c.args.key / 8) c.loop-more.size c.loop-more.count c.in-Some.more c.args.bytes.now
    c.loop-more.invariant
    (subst (λ xs. IsAttribute (c.args.key / 8) c.in-Some.more xs) whole c.in-Some.ensures)
