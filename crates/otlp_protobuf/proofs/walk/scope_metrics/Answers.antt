use Rattle.std.proofs.lemmas.Result.{on_ok_weaker}
use Rattle.otlp_protobuf.proofs.KeptLemmas.{sets_of}
use Rattle.otlp_protobuf.proofs.RequestLemmas.{scope_read}
use Rattle.otlp_protobuf.proofs.walk.scope_metrics.Goals as goal

pub returns : goal.returns
returns c =
    on_ok_weaker c.each.result (λ h.
    scope_read _ c.args.bytes.now _ _
    (rw (
      ← c.in_ok-whole.ensures,
      ← c.bytes_or_none-scope.ensures,
      ← c.in_ok-attributes.ensures,
      ←
          sets_of _ _ c.as_ref.ensures.value,
      ← c.scope_in-scope.ensures,
    ) h)) c.each.ensures
