-- Steps of the check of a message.
use Rattle.std.proofs.Common.{◌≡◌, ◌<◌, ◌≤◌, ℕ, zero, suc, ◌-◌, ◌+◌, ◌==◌, Bool, true, false, List}
use Rattle.std.proofs.Common.{length, Option, Some, None, Result, Ok, Err, refl, sym, ap, ◌∙◌}
use Rattle.std.proofs.Common.{arith}
use Rattle.std.specs.Prelude.{if◌then◌else◌, ⊤}
use Rattle.otlp_protobuf.specs.declared.malformed.Malformed.{Malformed}
use Rattle.otlp_protobuf.specs.declared.schema.Kind.{Kind}
use Rattle.otlp_protobuf.specs.declared.malformed.Malformed.TheVariants.{Cut, Deep}
use Rattle.otlp_protobuf.specs.declared.schema.Message.{Message}
use Rattle.otlp_protobuf.specs.Wire.{◌>>=◌, Value, field_at}
use Rattle.otlp_protobuf.specs.Schema.{kind_of}
use Rattle.otlp_protobuf.specs.Checks.{nested, plain_checked, value_checked, checked_from}

-- one field of a message
pub check_step : (left levels : ℕ) (m : Message) (bytes : List ℕ) → 0 < left
    → checked_from left levels m bytes
    ≡ (if length bytes == 0 then Ok tt else (field_at bytes >>= λ f.
    value_checked
    (λ n bs. if levels == 0 then Err Deep else checked_from (left - 1) (levels - 1) n bs)
    (kind_of m f.0.number) f.0.value >>= λ _. checked_from (left - 1) levels m f.1))
unfolding checked_from
check_step zero levels m bytes some = absurd (omega arith)
check_step (suc left) levels m bytes some = let e : suc left - 1 ≡ left = omega arith in rw e refl

-- no field is left
pub check_none : (left levels : ℕ) (m : Message) (bytes : List ℕ) → left ≡ 0
    → checked_from left levels m bytes ≡ (if length bytes == 0 then Ok tt else Err Cut)
unfolding checked_from
check_none zero levels m bytes none = refl
check_none (suc left) levels m bytes none = absurd (omega arith)

-- ---- with more fields at most, what passes passes too

-- a step, and then the rest
passes : {A : Type 0} (r : Result A Malformed) (next more : A → Result ⊤ Malformed)
    → ((x : A) → next x ≡ Ok tt → more x ≡ Ok tt) → (r >>= next) ≡ Ok tt → (r >>= more) ≡ Ok tt
passes (Ok x) next more on is = on x is
passes (Err e) next more on is = absurd cc

both_pass : (r s : Result ⊤ Malformed) (next more : Result ⊤ Malformed) → (r ≡ Ok tt → s ≡ Ok tt)
    → (next ≡ Ok tt → more ≡ Ok tt) → (r >>= λ _. next) ≡ Ok tt → (s >>= λ _. more) ≡ Ok tt
both_pass (Ok x) s next more first on is = ap (λ t. t >>= λ _. more) (first refl) ∙ on is
both_pass (Err e) s next more first on is = absurd cc

value_passes : (inner outer : Message → List ℕ → Result ⊤ Malformed) (k : Kind) (v : Value)
    → ((m : Message) (bs : List ℕ) → inner m bs ≡ Ok tt → outer m bs ≡ Ok tt)
    → value_checked inner k v ≡ Ok tt → value_checked outer k v ≡ Ok tt
value_passes inner outer k v on is = by (nested k v) is
  where
    by : (o : Option (Message × List ℕ))
        → ◌≡◌ {A = Result ⊤ Malformed}
        (elim o [ None ↦ plain_checked k v | Some m ↦ inner m.0 m.1 ]) (Ok tt)
        → ◌≡◌ {A = Result ⊤ Malformed}
        (elim o [ None ↦ plain_checked k v | Some m ↦ outer m.0 m.1 ]) (Ok tt)
    by None is = is
    by (Some m) is = on m.0 m.1 is

pub deep_passes : (none : Bool) (a b : Result ⊤ Malformed) → (a ≡ Ok tt → b ≡ Ok tt)
    → (if none then Err Deep else a) ≡ Ok tt → (if none then Err Deep else b) ≡ Ok tt
deep_passes true a b on is = is
deep_passes false a b on is = on is

ended_passes : (ended : Bool) (a b : Result ⊤ Malformed) → (a ≡ Ok tt → b ≡ Ok tt)
    → (if ended then Ok tt else a) ≡ Ok tt → (if ended then Ok tt else b) ≡ Ok tt
ended_passes true a b on is = refl
ended_passes false a b on is = on is

one_longer : (left levels : ℕ) (m : Message) (bytes : List ℕ)
    → checked_from left levels m bytes ≡ Ok tt → checked_from (suc left) levels m bytes ≡ Ok tt
unfolding checked_from
one_longer zero levels m bytes is = ended_passes (length bytes == 0) _ _ (λ e. absurd cc) is
one_longer (suc left) levels m bytes is =
    ended_passes (length bytes == 0) _ _
    (passes (field_at bytes) _ _
    (λ f. both_pass (value_checked (λ n bs. if levels == 0 then Err Deep else checked_from left
    (levels - 1) n bs) (kind_of m f.0.number) f.0.value)
    (value_checked (λ n bs. if levels == 0 then Err Deep else checked_from (suc left) (levels - 1) n
    bs) (kind_of m f.0.number) f.0.value)
    (checked_from left levels m f.1) (checked_from (suc left) levels m f.1)
    (value_passes _ _ (kind_of m f.0.number) f.0.value
    (λ n bs. deep_passes (levels == 0) _ _ (one_longer left (levels - 1) n bs)))
    (one_longer left levels m f.1)))
    is

-- so many more
pub checked_longer : (k left more levels : ℕ) (m : Message) (bytes : List ℕ) → more ≡ left + k
    → checked_from left levels m bytes ≡ Ok tt → checked_from more levels m bytes ≡ Ok tt
checked_longer zero left more levels m bytes far is =
    let same : more ≡ left = omega arith in
    ap (λ n. checked_from n levels m bytes) same ∙ is
checked_longer (suc k) left more levels m bytes far is =
    let next : more ≡ suc (left + k) = omega arith in
    ap (λ n. checked_from n levels m bytes) next
    ∙ one_longer (left + k) levels m bytes
    (checked_longer k left (left + k) levels m bytes refl is)

-- what is kept of a message that has passed
pub checked_again : (left levels more_left same_levels : ℕ) (m : Message)
    (bytes same_bytes : List ℕ) → levels ≡ same_levels → left ≤ more_left → bytes ≡ same_bytes
    → checked_from left levels m bytes ≡ Ok tt
    → checked_from more_left same_levels m same_bytes ≡ Ok tt
checked_again left levels more_left same_levels m bytes same_bytes same more equal is =
    let far : more_left ≡ left + (more_left - left) = omega arith in
    ap (λ l. checked_from more_left l m same_bytes) (sym same)
    ∙ ap (checked_from more_left levels m) (sym equal)
    ∙ checked_longer (more_left - left) left more_left levels m bytes far is
