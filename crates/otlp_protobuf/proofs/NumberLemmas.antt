-- Numbers of 8 bytes, one after the other.
use Rattle.std.proofs.Common.{◌≡◌, ◌<◌, ◌≤◌, ℕ, zero, suc, ◌-◌, ◌/◌, List, [], ◌∷◌, ◌++◌, length}
use Rattle.std.proofs.Common.{take, drop, Bool, true, false, Option, Some, None, Result, Ok, Err}
use Rattle.std.proofs.Common.{refl, ap, ◌∙◌, arith, length-drop}
use Rattle.std.specs.Prelude.{nat_lt, if◌then◌else◌, MatchOption}
use Rattle.std.specs.Int.{w64, from_le_bytes}
use Rattle.std.proofs.lemmas.Bool.{ltb-true, ltb-false}
use Rattle.otlp_protobuf.specs.declared.malformed.Malformed.{Malformed}
use Rattle.otlp_protobuf.specs.declared.malformed.Malformed.TheVariants.{Cut}
use Rattle.otlp_protobuf.specs.Wire.{Field, fixed64}
use Rattle.otlp_protobuf.specs.Fields.{packed_from, packed, numbers_at, numbers}

one_packed : (left : ℕ) (bytes : List ℕ) → 0 < left
    → packed_from left bytes
    ≡ from_le_bytes w64 (take 8 bytes) ∷ packed_from (left - 1) (drop 8 bytes)
unfolding packed_from
one_packed zero bytes some = absurd (omega arith)
one_packed (suc left) bytes some = let e : suc left - 1 ≡ left = omega arith in rw e refl

none_packed : (left : ℕ) (bytes : List ℕ) → left ≡ 0 → packed_from left bytes ≡ []
unfolding packed_from
none_packed zero bytes none = refl
none_packed (suc left) bytes none = absurd (omega arith)

packed_more : (bytes : List ℕ) → 8 ≤ length bytes
    → packed bytes ≡ from_le_bytes w64 (take 8 bytes) ∷ packed (drop 8 bytes)
packed_more bytes long =
    let some : 0 < length bytes / 8 = omega arith in
    let fewer : length bytes / 8 - 1 ≡ length (drop 8 bytes) / 8 =
    omega (arith, length-drop 8 bytes) in
    one_packed (length bytes / 8) bytes some
    ∙ ap (λ n. from_le_bytes w64 (take 8 bytes) ∷ packed_from n (drop 8 bytes)) fewer

packed_over : (bytes : List ℕ) → length bytes < 8 → packed bytes ≡ []
packed_over bytes short = none_packed (length bytes / 8) bytes (omega arith)

-- the first number, if there are 8 bytes
abbrev first_if : Bool → List ℕ → Result (ℕ × List ℕ) Malformed
first_if short bytes =
    if short then Err Cut else Ok (from_le_bytes w64 (take 8 bytes), drop 8 bytes)

first_by : (bytes : List ℕ) (short : Bool) (p : ℕ × List ℕ) → nat_lt (length bytes) 8 ≡ short
    → first_if short bytes ≡ Ok p → packed bytes ≡ p.0 ∷ packed p.1
first_by bytes true p is h = absurd cc
first_by bytes false p is h =
    let e : (from_le_bytes w64 (take 8 bytes), drop 8 bytes) ≡ p = cc in
    packed_more bytes (ltb-false (length bytes) 8 is) ∙ ap (λ (q : ℕ × List ℕ). q.0 ∷ packed q.1) e

-- the first of packed numbers is there
pub first_packed : (bytes : List ℕ) (p : ℕ × List ℕ) → fixed64 bytes ≡ Ok p
    → packed bytes ≡ p.0 ∷ packed p.1
first_packed bytes p h = first_by bytes (nat_lt (length bytes) 8) p refl h

none_by : (bytes : List ℕ) (short : Bool) (e : Malformed) → nat_lt (length bytes) 8 ≡ short
    → first_if short bytes ≡ Err e → packed bytes ≡ []
none_by bytes true e is h = packed_over bytes (ltb-true (length bytes) 8 is)
none_by bytes false e is h = absurd cc

-- it is not
pub no_packed : (bytes : List ℕ) (e : Malformed) → fixed64 bytes ≡ Err e → packed bytes ≡ []
no_packed bytes e h = none_by bytes (nat_lt (length bytes) 8) e refl h

-- ---- the numbers of a field after those that are packed

pub packed_step : (bytes rest : List ℕ) (n : ℕ) (others : List ℕ) → packed bytes ≡ n ∷ packed rest
    → packed bytes ++ others ≡ n ∷ (packed rest ++ others)
packed_step bytes rest n others h = ap (λ ns. ns ++ others) h

-- none are packed: those of the fields behind are left
pub packed_end : (r : Option ℕ) (bytes others : List ℕ) (rest : ℕ → List ℕ) → packed bytes ≡ []
    → MatchOption r (others ≡ []) (λ n. others ≡ rest n)
    → MatchOption r (packed bytes ++ others ≡ []) (λ n. packed bytes ++ others ≡ rest n)
packed_end None bytes others rest none h = ap (λ ns. ns ++ others) none ∙ h
packed_end (Some n) bytes others rest none h = ap (λ ns. ns ++ others) none ∙ h

pub field_step : (number : ℕ) (fs rest : List Field) (f : Field) (n : ℕ) (others total : List ℕ)
    → fs ≡ f ∷ rest → numbers_at number f ≡ n ∷ others → total ≡ numbers number fs
    → total ≡ n ∷ (others ++ numbers number rest)
unfolding numbers
field_step number fs rest f n others total is first so_far =
    so_far ∙ ap (numbers number) is ∙ ap (λ ns. ns ++ numbers number rest) first

pub field_skip : (number : ℕ) (fs rest : List Field) (f : Field) (total : List ℕ) → fs ≡ f ∷ rest
    → numbers_at number f ≡ [] → total ≡ numbers number fs → total ≡ numbers number rest
unfolding numbers
field_skip number fs rest f total is none so_far =
    so_far ∙ ap (numbers number) is ∙ ap (λ ns. ns ++ numbers number rest) none

pub fields_over : (number : ℕ) (fs : List Field) (total : List ℕ) → fs ≡ []
    → total ≡ numbers number fs → total ≡ []
unfolding numbers
fields_over number fs total none so_far = so_far ∙ ap (numbers number) none
