use Rattle.std.proofs.Common.{◌∙◌}
use Rattle.otlp_read.specs.Attributes.{set_of}
use Rattle.otlp_read.proofs.PointLemmas.{allowed}
use Rattle.otlp_read.proofs.attributes.set_of.Goals as goal

pub returns : goal.returns
unfolding set_of
returns c =
    c.in_ok-set.ensures.set ∙ allowed c.from_pairs.result _ _ _ c.from_pairs.ensures.set
    c.from_pairs.ensures.none c.from_pairs.ensures.fault c.in_ok-set.ensures.ok
