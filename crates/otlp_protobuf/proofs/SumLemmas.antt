-- A sum's point, from its fields and its series.
use Rattle.std.proofs.Common.{◌≡◌, ℕ, List, Option, Some, None, refl, ap, sym, ◌∙◌}
use Rattle.std.specs.Prelude.{codes}
use Rattle.serde_json.specs.Data.{Data}
use Rattle.series_id.specs.Identity.{Identity}
use Rattle.series_id.specs.declared.kinds.Kind.TheVariants.{Sum}
use Rattle.metric_events.specs.DataPoint.{DataPoint}
use Rattle.metric_events.specs.NewPoints.{point_of_sum}
use Rattle.metric_events.specs.PointFaults.{sum_fault}
use Rattle.otlp_read.specs.Fields.{field}
use Rattle.otlp_read.specs.Rules.{unless}
use Rattle.otlp_read.specs.Streams.{SumStream, series_of}
use Rattle.otlp_read.specs.Sums.{SumFields, sum_fields, sum_point}
use Rattle.otlp_protobuf.specs.declared.number_point.NumberPoint.{NumberPoint}
use Rattle.otlp_protobuf.specs.Members.{list_data}
use Rattle.otlp_protobuf.specs.Wire.{fields}
use Rattle.otlp_protobuf.specs.Fields.{gathered}
use Rattle.otlp_protobuf.specs.Points.{take_number, no_number, number_point_of, number_point_data}
use Rattle.otlp_protobuf.specs.inner.SumViews.{sum_fields_of}
use Rattle.otlp_protobuf.proofs.PointLemmas.{sum_fields_are}

-- the fields that were read are those of the point
pub fields_said : (bytes : List ℕ) (p : NumberPoint) (o : Option SumFields) (attributes : List Data)
    → p ≡ gathered take_number no_number (fields bytes) → o ≡ sum_fields_of p
    → o ≡ sum_fields (number_point_data (number_point_of bytes) attributes)
fields_said bytes p o attributes said read =
    read ∙ ap sum_fields_of said ∙ sym (sum_fields_are (number_point_of bytes) attributes)

attributes_of : (p : NumberPoint) (attributes : List Data)
    → field (codes "attributes") (number_point_data p attributes) ≡ Some (list_data attributes)
unfolding field number_point_data
attributes_of p attributes = refl

pub no_fields : (sum : SumStream) (p : NumberPoint) (attributes : List Data)
    → None ≡ sum_fields (number_point_data p attributes)
    → None ≡ sum_point sum (number_point_data p attributes)
unfolding sum_point
no_fields sum p attributes read = rw (← read) refl

pub no_series : (sum : SumStream) (p : NumberPoint) (attributes : List Data) (f : SumFields)
    → Some f ≡ sum_fields (number_point_data p attributes)
    → series_of sum.stream (Sum sum.monotonic) (Some (list_data attributes)) ≡ None
    → None ≡ sum_point sum (number_point_data p attributes)
unfolding sum_point
no_series sum p attributes f read none = rw (← read, attributes_of p attributes, none) refl

pub has_series : (sum : SumStream) (p : NumberPoint) (attributes : List Data) (f : SumFields)
    (s : Identity) (r : Option DataPoint) → Some f ≡ sum_fields (number_point_data p attributes)
    → series_of sum.stream (Sum sum.monotonic) (Some (list_data attributes)) ≡ Some s
    → r ≡ unless (sum_fault s.kind f.start f.end f.value) (point_of_sum s f.start f.end f.value)
    → r ≡ sum_point sum (number_point_data p attributes)
unfolding sum_point
has_series sum p attributes f s r read known is = rw (← read, attributes_of p attributes, known) is
