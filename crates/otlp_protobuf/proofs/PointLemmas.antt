-- The members of a point, found again.
use Rattle.std.proofs.Common.{◌≡◌, ℕ, suc, List, Option, Some, None, option_map, refl, true, w64}
use Rattle.std.proofs.Common.{arith}
use Rattle.std.proofs.lemmas.Bool.{le-leb}
use Rattle.std.proofs.lemmas.Int.{ints}
use Rattle.std.specs.Prelude.{ℤ, pos, negsuc, codes, is_some, nat_le, FitsSigned}
use Rattle.serde_json.specs.Data.{Data}
use Rattle.otlp_read.specs.Fields.{field, present}
use Rattle.otlp_read.specs.Integers.{signed_in, signed_64}
use Rattle.otlp_read.specs.Sums.{number_in, is_whole_value, sum_fields}
use Rattle.otlp_protobuf.specs.declared.number_point.NumberPoint.{NumberPoint}
use Rattle.otlp_protobuf.specs.Doubles.{whole_double}
use Rattle.otlp_protobuf.specs.Members.{or_null, unsigned_data, signed_data, number_data}
use Rattle.otlp_protobuf.specs.Members.{double_data}
use Rattle.otlp_protobuf.specs.Points.{number_point_data}
use Rattle.otlp_protobuf.specs.inner.SumViews.{sum_fields_of}

pub unsigned_shown : (o : Option ℕ)
    → present (Some (or_null (option_map unsigned_data o))) ≡ option_map unsigned_data o
unsigned_shown None = refl
unsigned_shown (Some n) = refl

signed_shown : (o : Option ℤ)
    → present (Some (or_null (option_map signed_data o))) ≡ option_map signed_data o
signed_shown None = refl
signed_shown (Some (pos n)) = refl
signed_shown (Some (negsuc n)) = refl

pub whole_there : (bits : ℕ) (z : Option ℤ) → is_some (present (Some (number_data bits z))) ≡ true
whole_there bits None = refl
whole_there bits (Some z) = refl

double_shown : (o : Option ℕ)
    → is_some (present (Some (or_null (option_map double_data o)))) ≡ is_some o
double_shown None = refl
double_shown (Some bits) = whole_there bits (whole_double bits)

start_of : (p : NumberPoint) (attributes : List Data)
    → field (codes "startTimeUnixNano") (number_point_data p attributes)
    ≡ option_map unsigned_data p.start
unfolding field number_point_data
start_of p attributes = unsigned_shown p.start

end_of : (p : NumberPoint) (attributes : List Data)
    → field (codes "timeUnixNano") (number_point_data p attributes) ≡ option_map unsigned_data p.end
unfolding field number_point_data
end_of p attributes = unsigned_shown p.end

double_of : (p : NumberPoint) (attributes : List Data)
    → is_some (field (codes "asDouble") (number_point_data p attributes)) ≡ is_some p.double
unfolding field number_point_data
double_of p attributes = double_shown p.double

int_of : (p : NumberPoint) (attributes : List Data)
    → field (codes "asInt") (number_point_data p attributes) ≡ option_map signed_data p.int
unfolding field number_point_data
int_of p attributes = signed_shown p.int

flags_of : (p : NumberPoint) (attributes : List Data)
    → field (codes "flags") (number_point_data p attributes) ≡ option_map unsigned_data p.flags
unfolding field number_point_data
flags_of p attributes = unsigned_shown p.flags

pub sum_fields_are : (p : NumberPoint) (attributes : List Data)
    → sum_fields (number_point_data p attributes) ≡ sum_fields_of p
unfolding sum_fields is_whole_value
sum_fields_are p attributes = rw (
  start_of p attributes,
  end_of p attributes,
  int_of p attributes,
  flags_of p attributes,
  double_of p attributes,
) refl

small : (n : ℕ) → FitsSigned w64 (pos n) → nat_le n 9223372036854775807 ≡ true
small n f = le-leb n 9223372036854775807 (omega (arith, ints))

low : (n : ℕ) → FitsSigned w64 (negsuc n) → nat_le (suc n) 9223372036854775808 ≡ true
low n f = le-leb (suc n) 9223372036854775808 (omega (arith, ints))

-- a number of 64 bits is read
pub signed_read : (z : ℤ) → FitsSigned w64 z → signed_64 (signed_data z) ≡ Some z
unfolding signed_in
signed_read (pos n) f = rw (small n f) refl
signed_read (negsuc n) f = rw (low n f) refl

pub number_read : (z : ℤ) → FitsSigned w64 z → number_in (Some (signed_data z)) ≡ Some z
unfolding number_in
number_read z f = signed_read z f
