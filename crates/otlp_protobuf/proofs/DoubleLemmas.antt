-- Whole doubles, by their bits.
use Rattle.std.proofs.Common.{◌≡◌, ◌≢◌, ◌<◌, ◌≤◌, ℕ, zero, suc, ◌-◌, ◌*◌, ◌/◌, ◌%◌, ◌^◌, Bool, true}
use Rattle.std.proofs.Common.{false, Option, Some, None, option_map, refl, ap, sym, ◌∙◌, arith, w64}
use Rattle.std.proofs.Common.{◌-ℤ◌, to_z, of_z}
use Rattle.std.specs.Prelude.{FitsSigned, pos, negsuc, neg_ℤ, nat_lt, option_and_then}
use Rattle.std.proofs.lemmas.Bool.{lt-ltb, le-ltb, le-leb, lt-leb, ltb-false, ne_eqb, eq-eqb}
use Rattle.std.proofs.lemmas.Int.{ints, to_z_pos, to_z-of_z, fits_signed_from_abs}
use Rattle.std.proofs.lemmas.Nat.{mul-le, shl_whole, shr_le}
use Rattle.std.proofs.Math.Nat.{pow-le-pow_right}
use Rattle.series_id.specs.declared.limits.TheConstants.{MAX_BOUND}
use Rattle.otlp_read.specs.Integers.{unsigned_in, unsigned_64, signed_in}
use Rattle.otlp_protobuf.specs.Doubles.{exponent, digits, whole_size, signed_size}
use Rattle.otlp_protobuf.specs.Members.{number_data, double_data}
use Rattle.otlp_protobuf.specs.inner.NumberViews.{if_below, small_size}

-- ---- its size

pub no_size : (size : ℕ) → size ≡ 0 → small_size size ≡ Some 0
unfolding whole_size
no_size size none = rw none refl

pub too_low : (size : ℕ) → size ≢ 0 → exponent size < 1023 → small_size size ≡ None
unfolding whole_size
too_low size some low = rw (ne_eqb size 0 some, lt-ltb (exponent size) 1023 low) refl

fits_53 : (size : ℕ) → digits size < 2 ^ 53
fits_53 size = omega arith

-- a product that has 64 bits at least
long_product : (d k : ℕ) → 2 ^ 52 ≤ d → 12 ≤ k → 2 ^ 64 ≤ d * 2 ^ k
long_product d k large more =
    mul-le (2 ^ 52) (2 ^ 12) d (2 ^ k) large (pow-le-pow_right (omega arith) more)

pub too_high : (size : ℕ) → size ≢ 0 → 1086 < exponent size → small_size size ≡ None
unfolding whole_size
too_high size some high = by_end size some high (nat_lt (exponent size) 2047) refl
  where
    by_end : (size : ℕ) → size ≢ 0 → 1086 < exponent size → (number : Bool)
        → nat_lt (exponent size) 2047 ≡ number → small_size size ≡ None
    by_end size some high true is =
        let long : 2 ^ 64 ≤ digits size * 2 ^ (exponent size - 1075) =
        long_product (digits size) (exponent size - 1075) (omega arith) (omega arith) in
        rw (
          ne_eqb size 0 some,
          le-ltb (exponent size) 1023 (omega arith),
          le-ltb (exponent size)
              1075 (omega arith),
          is,
          le-ltb (digits size * 2 ^ (exponent size - 1075)) (2 ^ 64) long,
        )
        refl
    by_end size some high false is =
        rw (
          ne_eqb size 0 some,
          le-ltb (exponent size) 1023 (omega arith),
          le-ltb (exponent size)
              1075 (omega arith),
          is,
        ) refl

pub within : (size : ℕ) → size ≢ 0 → 1075 ≤ exponent size → exponent size ≤ 1086
    → small_size size ≡ Some (digits size * 2 ^ (exponent size - 1075) % 2 ^ 64)
unfolding whole_size
within size some low high =
    let k = exponent size - 1075 in
    let whole : digits size * 2 ^ k % 2 ^ 64 ≡ digits size * 2 ^ k =
    shl_whole (digits size) 53 k 64 (fits_53 size) (omega arith) in
    let fits : digits size * 2 ^ k < 2 ^ 64 = omega (arith, whole) in
    rw (
      ne_eqb size 0 some,
      le-ltb (exponent size) 1023 (omega arith),
      le-ltb (exponent size) 1075
          low,
      lt-ltb (exponent size) 2047 (omega arith),
      lt-ltb (digits size * 2 ^ k) (2 ^ 64) fits,
    )
    (ap (λ n. Some n) (sym whole))

pub exact : (size : ℕ) → size ≢ 0 → 1023 ≤ exponent size → exponent size < 1075
    → digits size % 2 ^ (1075 - exponent size) ≡ 0
    → small_size size ≡ Some (digits size / 2 ^ (1075 - exponent size))
unfolding whole_size
exact size some low high even =
    let fits : digits size / 2 ^ (1075 - exponent size) < 2 ^ 64 =
    omega (arith, shr_le (digits size) (1075 - exponent size), fits_53 size) in
    rw (
      ne_eqb size 0 some,
      le-ltb (exponent size) 1023 low,
      lt-ltb (exponent size) 1075 high,
      eq-eqb (digits size % 2 ^ (1075 - exponent size)) 0 even,
      lt-ltb
          (digits size / 2 ^ (1075 - exponent size)) (2 ^ 64) fits,
    ) refl

pub broken : (size : ℕ) → size ≢ 0 → 1023 ≤ exponent size → exponent size < 1075
    → digits size % 2 ^ (1075 - exponent size) ≢ 0 → small_size size ≡ None
unfolding whole_size
broken size some low high odd =
    rw (
      ne_eqb size 0 some,
      le-ltb (exponent size) 1023 low,
      lt-ltb (exponent size) 1075 high,
      ne_eqb (digits size % 2 ^ (1075 - exponent size)) 0 odd,
    ) refl

-- ---- the number with its sign

small_there : (o : Option ℕ) (n : ℕ) → option_and_then if_below o ≡ Some n → o ≡ Some n
small_there None n h = absurd cc
small_there (Some m) n h = by_test (nat_lt m (2 ^ 64)) refl h
  where
    by_test : (small : Bool) → nat_lt m (2 ^ 64) ≡ small → if_below m ≡ Some n → Some m ≡ Some n
    by_test true is h = sym (rw is refl) ∙ h
    by_test false is h = let e : if_below m ≡ None = rw is refl in absurd cc

double_is : (bits n : ℕ) → Some n ≡ small_size (bits % 2 ^ 63)
    → double_data bits ≡ number_data bits (Some (signed_size bits n))
double_is bits n h = ap (λ o. number_data bits (option_map (signed_size bits) o))
    (small_there (whole_size (bits % 2 ^ 63)) n (sym h))

pub unsigned_above : (bits n : ℕ) → Some n ≡ small_size (bits % 2 ^ 63) → bits < 2 ^ 63 → n < 2 ^ 64
    → Some n ≡ unsigned_64 (double_data bits)
unfolding unsigned_in
unsigned_above bits n h above fits =
    rw (double_is bits n h, lt-ltb bits (2 ^ 63) above, le-leb n (2 ^ 64 - 1) (omega arith)) refl

pub unsigned_zero : (bits n : ℕ) → Some n ≡ small_size (bits % 2 ^ 63) → n ≡ 0
    → Some n ≡ unsigned_64 (double_data bits)
unfolding unsigned_in
unsigned_zero bits n h none = rw (double_is bits n h, none) (by_sign (nat_lt bits (2 ^ 63)) refl)
  where
    by_sign : (above : Bool) → nat_lt bits (2 ^ 63) ≡ above
        → Some 0 ≡ unsigned_64 (number_data bits (Some (signed_size bits 0)))
    by_sign true is = rw is refl
    by_sign false is = rw is refl

pub unsigned_below : (bits n : ℕ) → Some n ≡ small_size (bits % 2 ^ 63) → n ≢ 0 → 2 ^ 63 ≤ bits
    → None ≡ unsigned_64 (double_data bits)
unfolding unsigned_in
unsigned_below bits zero h some below = absurd (some refl)
unsigned_below bits (suc n) h some below =
    rw (double_is bits (suc n) h, le-ltb bits (2 ^ 63) below) refl

large_unsigned : (bits n : ℕ) (above : Bool) → nat_lt bits (2 ^ 63) ≡ above → 2 ^ 64 ≤ n
    → unsigned_64 (number_data bits (Some (signed_size bits n))) ≡ None
unfolding unsigned_in
large_unsigned bits zero above is large = absurd (omega arith)
large_unsigned bits (suc n) true is large = rw (is, lt-leb (suc n) (2 ^ 64 - 1) (omega arith)) refl
large_unsigned bits (suc n) false is large = rw is refl

no_unsigned : (bits : ℕ) (o : Option ℕ) → option_and_then if_below o ≡ None
    → unsigned_64 (number_data bits (option_map (signed_size bits) o)) ≡ None
unfolding unsigned_in
no_unsigned bits None h = refl
no_unsigned bits (Some n) h = by_test (nat_lt n (2 ^ 64)) refl h
  where
    by_test : (small : Bool) → nat_lt n (2 ^ 64) ≡ small → if_below n ≡ None
        → unsigned_64 (number_data bits (Some (signed_size bits n))) ≡ None
    by_test true is h = let e : if_below n ≡ Some n = rw is refl in absurd cc
    by_test false is h = large_unsigned bits n (nat_lt bits (2 ^ 63)) refl (ltb-false n (2 ^ 64) is)

pub unsigned_none : (bits : ℕ) → None ≡ small_size (bits % 2 ^ 63)
    → None ≡ unsigned_64 (double_data bits)
unsigned_none bits h = sym (no_unsigned bits (whole_size (bits % 2 ^ 63)) (sym h))

out_by : (bits n : ℕ) (above : Bool) → nat_lt bits (2 ^ 63) ≡ above → MAX_BOUND < n
    → signed_in MAX_BOUND MAX_BOUND (number_data bits (Some (signed_size bits n))) ≡ None
unfolding signed_in
out_by bits zero above is out = absurd (omega arith)
out_by bits (suc n) true is out = rw (is, lt-leb (suc n) MAX_BOUND out) refl
out_by bits (suc n) false is out = rw (is, lt-leb (suc n) MAX_BOUND out) refl

pub bound_out : (bits n : ℕ) → Some n ≡ small_size (bits % 2 ^ 63) → MAX_BOUND < n
    → None ≡ signed_in MAX_BOUND MAX_BOUND (double_data bits)
bound_out bits n h out =
    sym (rw (double_is bits n h) (out_by bits n (nat_lt bits (2 ^ 63)) refl out))

pub bound_above : (bits n : ℕ) → Some n ≡ small_size (bits % 2 ^ 63) → n ≤ MAX_BOUND → bits < 2 ^ 63
    → Some (pos n) ≡ signed_in MAX_BOUND MAX_BOUND (double_data bits)
unfolding signed_in
bound_above bits n h fits above =
    rw (double_is bits n h, lt-ltb bits (2 ^ 63) above, le-leb n MAX_BOUND fits) refl

pub bound_below : (bits n : ℕ) → Some n ≡ small_size (bits % 2 ^ 63) → n ≤ MAX_BOUND → 2 ^ 63 ≤ bits
    → Some (neg_ℤ (pos n)) ≡ signed_in MAX_BOUND MAX_BOUND (double_data bits)
unfolding signed_in
bound_below bits zero h fits below = rw (double_is bits zero h, le-ltb bits (2 ^ 63) below) refl
bound_below bits (suc n) h fits below =
    rw (double_is bits (suc n) h, le-ltb bits (2 ^ 63) below, le-leb (suc n) MAX_BOUND fits) refl

less_of : (n : ℕ) → pos 0 -ℤ pos n ≡ neg_ℤ (pos n)
less_of zero = refl
less_of (suc n) = omega (arith, ints)

fits_below : (n : ℕ) → n ≤ MAX_BOUND → FitsSigned w64 (neg_ℤ (pos n))
fits_below zero fits = fits_signed_from_abs w64 (pos 0) (omega arith)
fits_below (suc n) fits = fits_signed_from_abs w64 (negsuc n) (omega arith)

-- a bound of 64 bits, below zero
pub negated : (n : ℕ) → n ≤ MAX_BOUND → to_z w64 (of_z w64 (pos 0 -ℤ to_z w64 n)) ≡ neg_ℤ (pos n)
negated n fits =
    rw (to_z_pos w64 n (omega arith), less_of n) (to_z-of_z w64 (neg_ℤ (pos n)) (fits_below n fits))

no_bound : (bits : ℕ) (o : Option ℕ) → option_and_then if_below o ≡ None
    → signed_in MAX_BOUND MAX_BOUND (number_data bits (option_map (signed_size bits) o)) ≡ None
unfolding signed_in
no_bound bits None h = refl
no_bound bits (Some n) h = by_test (nat_lt n (2 ^ 64)) refl h
  where
    by_test : (small : Bool) → nat_lt n (2 ^ 64) ≡ small → if_below n ≡ None
        → signed_in MAX_BOUND MAX_BOUND (number_data bits (Some (signed_size bits n))) ≡ None
    by_test true is h = let e : if_below n ≡ Some n = rw is refl in absurd cc
    by_test false is h = let large = ltb-false n (2 ^ 64) is in
        out_by bits n (nat_lt bits (2 ^ 63)) refl (omega arith)

pub bound_none : (bits : ℕ) → None ≡ small_size (bits % 2 ^ 63)
    → None ≡ signed_in MAX_BOUND MAX_BOUND (double_data bits)
bound_none bits h = sym (no_bound bits (whole_size (bits % 2 ^ 63)) (sym h))
