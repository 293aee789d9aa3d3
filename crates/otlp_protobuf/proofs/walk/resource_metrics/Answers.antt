use Rattle.std.proofs.lemmas.Result.{on_ok_weaker}
use Rattle.otlp_protobuf.proofs.KeptLemmas.{sets_of}
use Rattle.otlp_protobuf.proofs.RequestLemmas.{resource_read}
use Rattle.otlp_protobuf.proofs.walk.resource_metrics.Goals as goal

pub returns : goal.returns
returns c =
    on_ok_weaker c.each.result (λ h.
    resource_read c.args.bytes.now _ _
    (rw (
      ← c.in_ok-whole.ensures,
      ← c.bytes_or_none-resource.ensures,
      ← c.in_ok-attributes.ensures,
      ← sets_of _ _ c.as_ref.ensures.value,
      ← c.resource_in.ensures,
    ) h)) c.each.ensures
