use Rattle.std.proofs.Common.{arith, refl, subst, sym}
use Rattle.otlp_protobuf.specs.declared.schema.Message.TheVariants.{NumberPoint, HistogramPoint}
use Rattle.otlp_protobuf.specs.Schema.{kind_of}
use Rattle.otlp_protobuf.specs.inner.Runs.{IsKey}
use Rattle.otlp_protobuf.proofs.known_runs.attribute_key.Goals as goal

number_key : IsKey NumberPoint 58
unfolding kind_of
number_key = record { known = omega arith; short = omega arith; content = refl; is = refl }

histogram_key : IsKey HistogramPoint 74
unfolding kind_of
histogram_key = record { known = omega arith; short = omega arith; content = refl; is = refl }

pub returns-in-NumberPoint : goal.returns-in-NumberPoint
returns-in-NumberPoint c = subst (λ m. IsKey m 58) (sym c.in-NumberPoint.is) number_key

pub returns-in-HistogramPoint : goal.returns-in-HistogramPoint
returns-in-HistogramPoint c = subst (λ m. IsKey m 74) (sym c.in-HistogramPoint.is) histogram_key
