use Rattle.std.proofs.lemmas.Option.{IfSome_then}
use Rattle.otlp_protobuf.specs.inner.KindViews.{attributes_data}
use Rattle.otlp_protobuf.proofs.identity_cache.share_of.Goals as goal

pub returns : goal.returns
returns c = IfSome_then c.share_if.result c.share_if.ensures
    (λ s known. known (attributes_data c.args.attributes) (λ t. c.have_run-is_known.ensures.only t))
