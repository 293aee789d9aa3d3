-- The kind and the attributes of a point's series, by what its bytes say.
use Rattle.std.specs.Prelude.{◌≡◌, ℕ, List, [], ◌++◌, map, Option, Some, option_and_then}
use Rattle.std.specs.Result.{result_ok}
use Rattle.serde_json.specs.Data.{Data}
use Rattle.series_id.specs.Ascending.{histogram_of}
use Rattle.series_id.specs.declared.kinds.Kind.{Kind}
use Rattle.series_id.specs.declared.kinds.Kind.TheVariants as kinds
use Rattle.series_id.specs.declared.limits.TheConstants.{MAX_BOUND}
use Rattle.otlp_read.specs.Integers.{signed_in}
use Rattle.otlp_read.specs.Lists.{all_of}
use Rattle.otlp_protobuf.specs.declared.kind_ref.KindRef.{KindRef}
use Rattle.otlp_protobuf.specs.declared.kind_ref.KindRef.TheVariants.{Sum, Histogram}
use Rattle.otlp_protobuf.specs.declared.point_attributes.PointAttributes.{PointAttributes}
use Rattle.otlp_protobuf.specs.Wire.{fields}
use Rattle.otlp_protobuf.specs.Fields.{contents, numbers, packed}
use Rattle.otlp_protobuf.specs.Members.{double_data}

-- the kind that bounds make
abbrev pub bounds_kind : List Data → Option Kind
bounds_kind bounds =
    option_and_then (λ found. result_ok (histogram_of found))
    (all_of (signed_in MAX_BOUND MAX_BOUND) bounds)

abbrev pub kind_data : KindRef → Option Kind
kind_data (Sum monotonic) = Some (kinds.Sum monotonic)
kind_data (Histogram list) =
    bounds_kind (map double_data (numbers list.number (fields list.bytes.now)))

-- the messages of a point's attributes
abbrev pub attributes_data : PointAttributes → List (List ℕ)
attributes_data a = contents a.number (fields a.bytes.now)

-- these packed bounds make this kind
abbrev pub says_kind : List ℕ → Kind → Type 0
says_kind bounds k = bounds_kind (map double_data (packed bounds ++ [])) ≡ Some k
