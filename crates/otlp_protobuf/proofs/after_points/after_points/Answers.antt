use Rattle.std.proofs.Common.{◌-◌, None, ap, drop, length, length-drop, sym, take, ◌∙◌}
use Rattle.std.proofs.Math.Seq.{take-length}
use Rattle.otlp_protobuf.specs.Wire.{fields_from}
use Rattle.otlp_protobuf.specs.Fields.{gathered, newer}
use Rattle.otlp_protobuf.proofs.RunLemmas.{last_after}
use Rattle.otlp_protobuf.proofs.after_points.after_points.Goals as goal

pub returns : goal.returns
returns c = λ number other.
    let size = c.run_at-size.result.0 in
    let count = c.run_at-size.result.1 in
    let after = drop size c.args.bytes.now in
    let whole =
    ap (λ n. take n after) (sym (length-drop size c.args.bytes.now)) ∙ take-length after in
    ap (λ xs. gathered (newer number) None (fields_from (length c.args.bytes.now - count) xs)) whole
    ∙ last_after 1 number size count c.args.bytes.now c.run_at-size.ensures other
