-- Steps of the readers that count what is left.
use Rattle.std.proofs.Common.{◌≡◌, ◌<◌, ℕ, zero, suc, ◌-◌, ◌/◌, ◌%◌, ◌==◌, List, [], Ok, Err, refl}
use Rattle.std.proofs.Common.{arith}
use Rattle.std.specs.Prelude.{if◌then◌else◌}
use Rattle.otlp_protobuf.specs.declared.malformed.Malformed.TheVariants.{Cut, WireType, Deep}
use Rattle.otlp_protobuf.specs.Wire.{◌>>=◌, key, passed, group_from, field_at, with_field}
use Rattle.otlp_protobuf.specs.Wire.{fields_from}

-- one field or group of a group
pub group_step : (left levels number : ℕ) (bytes : List ℕ) → 0 < left
    → group_from left levels number bytes
    ≡ (key bytes >>= λ k. if k.0 % 8 == 4 then (if k.0 / 8 == number then Ok k.1 else Err WireType)
    else (passed (λ n bs. if levels == 0 then Err Deep else group_from (left - 1) (levels - 1) n bs)
    k.0 k.1
    >>= λ rest. group_from (left - 1) levels number rest))
unfolding group_from
group_step zero levels number bytes some = absurd (omega arith)
group_step (suc left) levels number bytes some = let e : suc left - 1 ≡ left = omega arith in
    rw e refl

-- one field of a message
pub fields_step : (left : ℕ) (bytes : List ℕ) → 0 < left
    → fields_from left bytes ≡ with_field (λ rest. fields_from (left - 1) rest) (field_at bytes)
unfolding fields_from
fields_step zero bytes some = absurd (omega arith)
fields_step (suc left) bytes some = let e : suc left - 1 ≡ left = omega arith in rw e refl

-- no field is left
pub no_fields : (left : ℕ) (bytes : List ℕ) → left ≡ 0 → fields_from left bytes ≡ []
unfolding fields_from
no_fields zero bytes none = refl
no_fields (suc left) bytes none = absurd (omega arith)

-- no field or group of a group is left
pub group_none : (left levels number : ℕ) (bytes : List ℕ) → left ≡ 0
    → group_from left levels number bytes ≡ Err Cut
unfolding group_from
group_none zero levels number bytes none = refl
group_none (suc left) levels number bytes none = absurd (omega arith)
