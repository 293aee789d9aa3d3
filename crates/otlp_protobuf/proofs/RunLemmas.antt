-- Runs of attributes.
use Rattle.std.proofs.Common.{◌≡◌, ◌<◌, ◌≤◌, ℕ, zero, suc, ◌-◌, ◌+◌, ◌*◌, ◌/◌, ◌%◌, ◌^◌, ◌==◌, List}
use Rattle.std.proofs.Common.{[], ◌∷◌, ◌++◌, length, map, get_or, take, drop, Option, Some, None}
use Rattle.std.proofs.Common.{Result, Ok, Err, refl, sym, ap, subst, ◌∙◌, append_assoc, append-nil}
use Rattle.std.proofs.Common.{zero-add, true, false, ◌⊎◌, inl, inr, arith, length-append}
use Rattle.std.proofs.Common.{length-drop}
use Rattle.std.specs.Prelude.{if◌then◌else◌, nat_lt, nat_le, ⊤}
use Rattle.std.proofs.Math.Seq.{take-append_seam, take-append-add, drop-append_seam, take-add}
use Rattle.std.proofs.lemmas.Bool.{lt-ltb, le-ltb, eq-eqb, ne_eqb, cases_eq}
use Rattle.std.proofs.lemmas.List.{take-append-drop, length-take-le}
use Rattle.otlp_protobuf.specs.declared.malformed.Malformed.{Malformed}
use Rattle.otlp_protobuf.specs.declared.malformed.Malformed.TheVariants.{Cut, Deep, LongNumber}
use Rattle.otlp_protobuf.specs.declared.malformed.Malformed.TheVariants.{NoNumber}
use Rattle.otlp_protobuf.specs.declared.schema.Message.{Message}
use Rattle.otlp_protobuf.specs.declared.schema.Message.TheVariants.{KeyValue}
use Rattle.otlp_protobuf.specs.declared.schema.Kind.TheVariants.{Inner}
use Rattle.otlp_protobuf.specs.Wire.{◌>>=◌, Value, Field, bytes_value, varint, varint_from, weighed}
use Rattle.otlp_protobuf.specs.Wire.{key, taken, counted, plain, payload_at, field_at, with_field}
use Rattle.otlp_protobuf.specs.Wire.{fields_from, fields}
use Rattle.otlp_protobuf.specs.Fields.{bits, contents, content, gathered, last, newer, numbers}
use Rattle.otlp_protobuf.specs.Fields.{numbers_at, numbers_of, with_first}
use Rattle.otlp_protobuf.specs.declared.number_point.NumberPoint.{NumberPoint}
use Rattle.otlp_protobuf.specs.declared.histogram_point.HistogramPoint.{HistogramPoint}
use Rattle.otlp_protobuf.specs.Points.{take_number, take_histogram}
use Rattle.std.specs.Int.{w64, cast_signed}
use Rattle.otlp_protobuf.specs.Schema.{kind_of}
use Rattle.otlp_protobuf.specs.Checks.{value_checked, checked_from}
use Rattle.otlp_protobuf.specs.inner.Runs.{attribute, IsAttribute, IsField, AreFields, run_bytes}
use Rattle.otlp_protobuf.specs.inner.Runs.{IsRun, Passes, others, SaysRun}
use Rattle.otlp_protobuf.specs.declared.others.Seen.{Seen}
use Rattle.otlp_protobuf.specs.inner.RunViews.{Sees}
use Rattle.otlp_protobuf.proofs.WireLemmas.{fields_step}
use Rattle.otlp_protobuf.proofs.CheckLemmas.{check_step, checked_longer, deep_passes}

-- ---- the field of an attribute

weighed_fits : (b unit sum value : ℕ) → (b % 128) * unit + sum ≡ value → value < 2 ^ 64
    → weighed b unit sum ≡ Some value
weighed_fits b unit sum value is fits =
    ap (λ n. if nat_lt n (2 ^ 64) then Some n else None) is
    ∙ ap (λ t. if t then Some value else None) (lt-ltb value (2 ^ 64) fits)

-- the last byte of a number
ended : (b unit sum value : ℕ) (bs : List ℕ) → weighed b unit sum ≡ Some value → b < 128
    → varint_from unit sum (b ∷ bs) ≡ Ok (value, bs)
unfolding varint_from
ended b unit sum value bs is last =
    ap (λ (o : Option ℕ). elim o as (λ o. Result (ℕ × List ℕ) Malformed) [
      | None ↦ Err LongNumber
      | Some v ↦ (if nat_lt b 128 then Ok (v, bs) else
          (if nat_le unit (2 ^ 56) then varint_from (unit * 128) v bs else Err LongNumber))
    ]) is
    ∙ ap (λ t. if t then Ok (value, bs) else
    (if nat_le unit (2 ^ 56) then varint_from (unit * 128) value bs else Err LongNumber))
    (lt-ltb b 128 last)

-- its first byte, which another follows
goes_on : (b value : ℕ) (bs : List ℕ) → weighed b 1 0 ≡ Some value → 128 ≤ b
    → varint (b ∷ bs) ≡ varint_from 128 value bs
unfolding varint_from
goes_on b value bs is more =
    ap (λ (o : Option ℕ). elim o as (λ o. Result (ℕ × List ℕ) Malformed) [
      | None ↦ Err LongNumber
      | Some v ↦ (if nat_lt b 128 then Ok (v, bs) else
          (if nat_le 1 (2 ^ 56) then varint_from (1 * 128) v bs else Err LongNumber))
    ]) is
    ∙ ap (λ t. if t then Ok (value, bs) else varint_from 128 value bs) (le-ltb b 128 more)

varint_short : (b : ℕ) (bs : List ℕ) → b < 128 → varint (b ∷ bs) ≡ Ok (b, bs)
varint_short b bs short = ended b 1 0 b bs (weighed_fits b 1 0 b (omega arith) (omega arith)) short

varint_two : (low high n : ℕ) (bs : List ℕ) → 128 ≤ low → high < 128 → n ≡ low % 128 + high * 128
    → varint (low ∷ high ∷ bs) ≡ Ok (n, bs)
varint_two low high n bs more last is =
    goes_on low (low % 128) (high ∷ bs)
    (weighed_fits low 1 0 (low % 128) (omega arith) (omega arith)) more
    ∙ ended high 128 (low % 128) n bs
    (weighed_fits high 128 (low % 128) n (omega arith) (omega arith)) last

key_short : (k : ℕ) (bs : List ℕ) → 8 ≤ k → k < 128 → key (k ∷ bs) ≡ Ok (k, bs)
unfolding key
key_short k bs known short =
    ap (λ r. r >>= λ (n : ℕ × List ℕ). if nat_lt (2 ^ 32 - 1) n.0 then Err LongNumber else
    (if nat_lt n.0 8 then Err NoNumber else Ok n)) (varint_short k bs short)
    ∙ ap (λ t. if t then Err LongNumber else (if nat_lt k 8 then Err NoNumber else Ok (k, bs)))
    (le-ltb (2 ^ 32 - 1) k (omega arith))
    ∙ ap (λ t. if t then Err NoNumber else Ok (k, bs)) (le-ltb k 8 known)

taken_front : (n : ℕ) (m rest : List ℕ) → n ≡ length m → taken n (m ++ rest) ≡ Ok (m, rest)
taken_front n m rest is =
    let fits : n ≤ length (m ++ rest) = omega (arith, length-append m rest) in
    let front : take n (m ++ rest) ≡ m =
    ap (λ k. take k (m ++ rest)) is ∙ take-append_seam m rest in
    let after : drop n (m ++ rest) ≡ rest =
    ap (λ k. drop k (m ++ rest)) is ∙ drop-append_seam m rest in
    ap (λ t. if t then Err Cut else Ok (take n (m ++ rest), drop n (m ++ rest)))
    (le-ltb (length (m ++ rest)) n fits)
    ∙ ap (λ (xs : List ℕ). Ok (xs, drop n (m ++ rest))) front
    ∙ ap (λ (xs : List ℕ). Ok (m, xs)) after

counted_front : (n : ℕ) (bytes m rest : List ℕ) → varint bytes ≡ Ok (n, m ++ rest) → n ≡ length m
    → counted bytes ≡ Ok (m, rest)
unfolding counted
counted_front n bytes m rest size is = rw size (taken_front n m rest is)

field_front : (k : ℕ) (bytes m rest : List ℕ) → 8 ≤ k → k < 128 → k % 8 ≡ 2
    → counted bytes ≡ Ok (m, rest) → field_at (k ∷ bytes) ≡ Ok (attribute (k / 8) m, rest)
unfolding field_at payload_at plain
field_front k bytes m rest known short content is =
    rw (key_short k bytes known short) (rw content (rw is refl))

front_two : (bytes : List ℕ) → 2 ≤ length bytes
    → bytes ≡ get_or bytes 0 0 ∷ get_or bytes 1 0 ∷ drop 2 bytes
front_two [] long = absurd (omega arith)
front_two (a ∷ []) long = absurd (omega arith)
front_two (a ∷ b ∷ bs) long = refl

front_three : (bytes : List ℕ) → 3 ≤ length bytes
    → bytes ≡ get_or bytes 0 0 ∷ get_or bytes 1 0 ∷ get_or bytes 2 0 ∷ drop 3 bytes
front_three [] long = absurd (omega arith)
front_three (a ∷ []) long = absurd (omega arith)
front_three (a ∷ b ∷ []) long = absurd (omega arith)
front_three (a ∷ b ∷ c ∷ bs) long = refl

-- its size has one byte
pub short_field : (k s : ℕ) (bytes : List ℕ) → 8 ≤ k → k < 128 → k % 8 ≡ 2 → 2 ≤ length bytes
    → get_or bytes 0 0 ≡ k → get_or bytes 1 0 < 128 → s ≡ get_or bytes 1 0
    → s ≤ length (drop 2 bytes) → IsAttribute (k / 8) (s + 2) bytes
short_field k s bytes known short content long first small is fits =
    let bs : List ℕ = drop 2 bytes in
    let whole : bytes ≡ k ∷ s ∷ bs = front_two bytes long
    ∙ ap (λ x. x ∷ get_or bytes 1 0 ∷ bs) first ∙ ap (λ x. k ∷ x ∷ bs) (sym is) in
    let size : s ≡ length (take s bs) = sym (length-take-le s bs fits) in
    let order : s + 2 ≡ length (k ∷ s ∷ []) + s = omega arith in
    let front : take (s + 2) bytes ≡ k ∷ s ∷ take s bs =
    ap (take (s + 2)) whole ∙ ap (λ n. take n (k ∷ s ∷ bs)) order
    ∙ take-append-add (k ∷ s ∷ []) bs s in
    let behind : length (drop 2 bytes) ≡ length bytes - 2 = length-drop 2 bytes in
    let few : s < 128 = subst (λ x. x < 128) (sym is) small in
    record {
      some = omega arith;
      fits = omega arith;
      message = take s bs;
      says = λ rest.
          ap (λ xs. field_at (xs ++ rest)) front
          ∙ field_front k (s ∷ (take s bs ++ rest)) (take s bs) rest known short content
          (counted_front s (s ∷ (take s bs ++ rest)) (take s bs) rest
          (varint_short s (take s bs ++ rest) few) size);
    }

-- it has two
pub long_field : (k s : ℕ) (bytes : List ℕ) → 8 ≤ k → k < 128 → k % 8 ≡ 2 → 3 ≤ length bytes
    → get_or bytes 0 0 ≡ k → 128 ≤ get_or bytes 1 0 → get_or bytes 2 0 < 128
    → s ≡ get_or bytes 1 0 % 128 + get_or bytes 2 0 * 128 → s ≤ length (drop 3 bytes)
    → IsAttribute (k / 8) (s + 3) bytes
long_field k s bytes known short content long first more last is fits =
    let bs : List ℕ = drop 3 bytes in
    let low : ℕ = get_or bytes 1 0 in
    let high : ℕ = get_or bytes 2 0 in
    let whole : bytes ≡ k ∷ low ∷ high ∷ bs =
    front_three bytes long ∙ ap (λ x. x ∷ low ∷ high ∷ bs) first in
    let size : s ≡ length (take s bs) = sym (length-take-le s bs fits) in
    let order : s + 3 ≡ length (k ∷ low ∷ high ∷ []) + s = omega arith in
    let front : take (s + 3) bytes ≡ k ∷ low ∷ high ∷ take s bs =
    ap (take (s + 3)) whole ∙ ap (λ n. take n (k ∷ low ∷ high ∷ bs)) order
    ∙ take-append-add (k ∷ low ∷ high ∷ []) bs s in
    let behind : length (drop 3 bytes) ≡ length bytes - 3 = length-drop 3 bytes in
    record {
      some = omega arith;
      fits = omega arith;
      message = take s bs;
      says = λ rest.
          ap (λ xs. field_at (xs ++ rest)) front
          ∙ field_front k (low ∷ high ∷ (take s bs ++ rest)) (take s bs) rest known short content
          (counted_front s (low ∷ high ∷ (take s bs ++ rest)) (take s bs) rest
          (varint_two low high s (take s bs ++ rest) more last is) size);
    }

-- ---- several

are_more : (n : ℕ) (fs : List (List ℕ × List ℕ)) (f : List ℕ × List ℕ) → AreFields n fs
    → IsField n f → AreFields n (fs ++ f ∷ [])
are_more n [] f are is = (is, tt)
are_more n (g ∷ fs) f are is = (are.0, are_more n fs f are.1 is)

bytes_more : (fs : List (List ℕ × List ℕ)) (f : List ℕ × List ℕ)
    → run_bytes (fs ++ f ∷ []) ≡ run_bytes fs ++ f.0
bytes_more [] f = append-nil f.0
bytes_more (g ∷ fs) f =
    ap (λ xs. g.0 ++ xs) (bytes_more fs f) ∙ sym (append_assoc g.0 (run_bytes fs) f.0)

-- none yet
pub run_none : (n : ℕ) (bytes : List ℕ) → IsRun n 0 0 bytes
run_none n bytes = record {
  few = omega arith;
  fits = omega arith;
  found = [];
  are = tt;
  all =
      refl;
  counted = refl;
}

-- one more
pub run_more : (n size count more : ℕ) (bytes : List ℕ) → IsRun n size count bytes
    → IsAttribute n more (drop size bytes) → IsRun n (size + more) (count + 1) bytes
run_more n size count more bytes run is =
    let field : List ℕ × List ℕ = (take more (drop size bytes), is.message) in
    let long : length (take more (drop size bytes)) ≡ more =
    length-take-le more (drop size bytes) is.fits in
    let left : length (drop size bytes) ≡ length bytes - size = length-drop size bytes in
    let some : 0 < more = is.some in
    let fits : more ≤ length (drop size bytes) = is.fits in
    let few : count ≤ size = run.few in
    let counted : length run.found ≡ count = run.counted in
    record {
      few = omega arith;
      fits = omega arith;
      found = run.found ++ field ∷ [];
      are = are_more n run.found field run.are (record { some = omega arith; says = is.says });
      all = bytes_more run.found field ∙ ap (λ xs. xs ++ take more (drop size bytes)) run.all
          ∙ sym (take-add size more bytes);
      counted = length-append run.found (field ∷ []) ∙ ap (λ k. k + 1) counted;
    }

-- ---- their check

-- a first field is an attribute
attribute_step : (n left levels : ℕ) (m : Message) (f : List ℕ × List ℕ) (rest : List ℕ) → 0 < left
    → kind_of m n ≡ Inner KeyValue → IsField n f
    → checked_from left levels m (f.0 ++ rest)
    ≡ ((if levels == 0 then Err Deep else checked_from (left - 1) (levels - 1) KeyValue f.1) >>=
    λ _. checked_from (left - 1) levels m rest)
attribute_step n left levels m f rest some kind is =
    let long : 0 < length (f.0 ++ rest) = omega (arith, length-append f.0 rest, is.some) in
    check_step left levels m (f.0 ++ rest) some
    ∙ ap (λ t. if t then Ok tt else (field_at (f.0 ++ rest) >>= λ g.
    value_checked
    (λ k bs. if levels == 0 then Err Deep else checked_from (left - 1) (levels - 1) k bs)
    (kind_of m g.0.number) g.0.value >>= λ _. checked_from (left - 1) levels m g.1))
    (not_none (length (f.0 ++ rest)) long)
    ∙ ap (λ r. r >>= λ g.
    value_checked
    (λ k bs. if levels == 0 then Err Deep else checked_from (left - 1) (levels - 1) k bs)
    (kind_of m g.0.number) g.0.value >>= λ _. checked_from (left - 1) levels m g.1) (is.says rest)
    ∙ ap (λ k. value_checked (λ k bs. if levels == 0 then Err Deep else checked_from (left - 1)
    (levels - 1) k bs) k (bytes_value f.1) >>= λ _. checked_from (left - 1) levels m rest) kind
  where
    not_none : (k : ℕ) → 0 < k → (k == 0) ≡ false
    not_none k some = ne_eqb k 0 (λ e. omega arith)

first_passes : (r s : Result ⊤ Malformed) → (r >>= λ _. s) ≡ Ok tt → r ≡ Ok tt
first_passes (Ok x) s is = refl
first_passes (Err e) s is = absurd cc

then_passes : (r s : Result ⊤ Malformed) → (r >>= λ _. s) ≡ Ok tt → s ≡ Ok tt
then_passes (Ok x) s is = is
then_passes (Err e) s is = absurd cc

-- what has passed, passes with other fields behind it
run_passes : (fs : List (List ℕ × List ℕ)) (n left levels : ℕ) (m : Message) (rest : List ℕ)
    → length fs ≤ left → kind_of m n ≡ Inner KeyValue → AreFields n fs
    → checked_from left levels m (run_bytes fs ++ rest) ≡ Ok tt
    → Passes m (run_bytes fs) (length fs) levels (left - length fs)
run_passes [] n left levels m rest fits kind are is =
    λ more few after. ap (λ k. checked_from k levels m after) (zero-add more)
run_passes (f ∷ fs) n left levels m rest fits kind are is = λ more few after.
    let longer : length (f ∷ fs) ≡ suc (length fs) = refl in
    let first = sym (attribute_step n left levels m f (run_bytes fs ++ rest) (omega arith) kind
    are.0) ∙ ap (checked_from left levels m) (sym (append_assoc f.0 (run_bytes fs) rest))
    ∙ is in
    let content = deep_passes (levels == 0)
    _ _ (checked_longer (length fs + more - (left - 1)) (left - 1) (length fs + more)
    (levels - 1) KeyValue f.1 (omega arith)) (first_passes _ _ first) in
    let behind : length (f ∷ fs) + more - 1 ≡ length fs + more = omega arith in
    ap (checked_from (length (f ∷ fs) + more) levels m) (append_assoc f.0 (run_bytes fs) after)
    ∙ attribute_step n (length (f ∷ fs) + more) levels m f (run_bytes fs ++ after) (omega arith)
    kind are.0
    ∙ ap (λ k. (if levels == 0 then Err Deep else checked_from k (levels - 1) KeyValue f.1) >>= λ _.
    checked_from k levels m (run_bytes fs ++ after)) behind
    ∙ ap (λ r. r >>= λ _. checked_from (length fs + more) levels m (run_bytes fs ++ after)) content
    ∙ run_passes fs n (left - 1) levels m rest (omega arith) kind are.1 (then_passes _ _ first) more
    (omega arith) after

-- the attributes at the front of what has passed
pub front_passes : (n size count left levels : ℕ) (m : Message) (bytes run : List ℕ)
    → IsRun n size count bytes → run ≡ take size bytes → count ≤ left → kind_of m n ≡ Inner KeyValue
    → checked_from left levels m bytes ≡ Ok tt → Passes m run count levels (left - count)
front_passes n size count left levels m bytes run found is fits kind passed =
    subst (λ k. Passes m run k levels (left - k)) found.counted
    (subst (λ xs. Passes m xs (length found.found) levels (left - length found.found))
    (found.all ∙ sym is)
    (run_passes found.found n left levels m (drop size bytes)
    (subst (λ k. k ≤ left) (sym found.counted) fits) kind found.are
    (ap (λ xs. checked_from left levels m (xs ++ drop size bytes)) found.all
    ∙ ap (checked_from left levels m) (take-append-drop size bytes) ∙ passed)))

-- nothing is left to check
pub none_left : (left levels : ℕ) (m : Message) (bytes : List ℕ) → length bytes ≡ 0
    → checked_from left levels m bytes ≡ Ok tt
unfolding checked_from
none_left zero levels m [] none = refl
none_left (suc left) levels m [] none = refl
none_left left levels m (b ∷ bs) none = absurd (omega arith)

-- ---- the fields of known attributes

run_fields : (n : ℕ) (fs : List (List ℕ × List ℕ)) → AreFields n fs → (left : ℕ) (rest : List ℕ)
    → fields_from (length fs + left) (run_bytes fs ++ rest)
    ≡ map (attribute n) (map (λ (f : List ℕ × List ℕ). f.1) fs) ++ fields_from left rest
run_fields n [] are left rest = ap (λ k. fields_from k rest) (zero-add left)
run_fields n (f ∷ fs) are left rest =
    let longer : length (f ∷ fs) + left - 1 ≡ length fs + left =
    let e : length (f ∷ fs) ≡ suc (length fs) = refl in omega arith in
    ap (fields_from (length (f ∷ fs) + left)) (append_assoc f.0 (run_bytes fs) rest)
    ∙ fields_step (length (f ∷ fs) + left) (f.0 ++ (run_bytes fs ++ rest))
    (let e : length (f ∷ fs) ≡ suc (length fs) = refl in omega arith)
    ∙ ap (λ r. with_field (λ after. fields_from (length (f ∷ fs) + left - 1) after) r)
    (are.0.says (run_bytes fs ++ rest))
    ∙ ap (λ k. attribute n f.1 ∷ fields_from k (run_bytes fs ++ rest)) longer
    ∙ ap (λ xs. attribute n f.1 ∷ xs) (run_fields n fs are.1 left rest)

eqb_same : (n : ℕ) → (n == n) ≡ true
eqb_same n = eq-eqb n n refl

pub contents_run : (n : ℕ) (ms : List (List ℕ)) (fs : List Field)
    → contents n (map (attribute n) ms ++ fs) ≡ ms ++ contents n fs
unfolding contents
contents_run n [] fs = refl
contents_run n (m ∷ ms) fs =
    ap (λ t. with_first (if t then Some m else None) (contents n (map (attribute n) ms ++ fs)))
    (eqb_same n) ∙ ap (λ xs. m ∷ xs) (contents_run n ms fs)

pub others_run : (n : ℕ) (ms : List (List ℕ)) (fs : List Field)
    → others n (map (attribute n) ms ++ fs) ≡ others n fs
others_run n [] fs = refl
others_run n (m ∷ ms) fs =
    ap (λ t. if t then others n (map (attribute n) ms ++ fs) else attribute n m
    ∷ others n (map (attribute n) ms ++ fs)) (eqb_same n) ∙ others_run n ms fs

run_long : (n : ℕ) (fs : List (List ℕ × List ℕ)) → AreFields n fs
    → length fs ≤ length (run_bytes fs)
run_long n [] are = omega arith
run_long n (f ∷ fs) are =
    let rest : length fs ≤ length (run_bytes fs) = run_long n fs are.1 in
    let e : length (f ∷ fs) ≡ suc (length fs) = refl in
    let some : 0 < length f.0 = are.0.some in
    omega (arith, length-append f.0 (run_bytes fs))

fields_none : (left : ℕ) → fields_from left [] ≡ []
unfolding fields_from field_at key varint_from
fields_none zero = refl
fields_none (suc left) = refl

no_contents : (n : ℕ) (ms : List (List ℕ)) → ms ++ contents n [] ≡ ms
unfolding contents
no_contents n ms = append-nil ms

-- by themselves they are the same
run_alone : (n : ℕ) (fs : List (List ℕ × List ℕ)) → AreFields n fs
    → contents n (fields (run_bytes fs)) ≡ map (λ (f : List ℕ × List ℕ). f.1) fs
run_alone n fs are =
    let ms : List (List ℕ) = map (λ (f : List ℕ × List ℕ). f.1) fs in
    let long : length fs ≤ length (run_bytes fs) = run_long n fs are in
    let more : length (run_bytes fs) ≡ length fs + (length (run_bytes fs) - length fs) =
    omega arith in
    ap (λ k. contents n (fields_from k (run_bytes fs))) more
    ∙ ap (λ xs. contents n (fields_from (length fs + (length (run_bytes fs) - length fs)) xs))
    (sym (append-nil (run_bytes fs)))
    ∙ ap (contents n) (run_fields n fs are (length (run_bytes fs) - length fs) [])
    ∙ contents_run n ms (fields_from (length (run_bytes fs) - length fs) [])
    ∙ ap (λ xs. ms ++ contents n xs) (fields_none (length (run_bytes fs) - length fs))
    ∙ no_contents n ms

pub run_says : (n size count : ℕ) (bytes run : List ℕ) → IsRun n size count bytes
    → run ≡ take size bytes → SaysRun n count run
run_says n size count bytes run found is = λ left rest.
    ap (λ k. fields_from (k + left) (run ++ rest)) (sym found.counted)
    ∙ ap (λ xs. fields_from (length found.found + left) (xs ++ rest)) (is ∙ sym found.all)
    ∙ run_fields n found.found found.are left rest
    ∙ ap (λ ms. map (attribute n) ms ++ fields_from left rest)
    (sym (run_alone n found.found found.are)
    ∙ ap (λ xs. contents n (fields xs)) (found.all ∙ sym is))

-- ---- the last value of another number

newer_run : (n k : ℕ) (found : Option Value) (ms : List (List ℕ)) (fs : List Field) → (k ≡ n → ⊥)
    → gathered (newer k) found (map (attribute n) ms ++ fs) ≡ gathered (newer k) found fs
newer_run n k found [] fs other = refl
newer_run n k found (m ∷ ms) fs other =
    ap (λ t. gathered (newer k) (if t then Some (bytes_value m) else found)
    (map (attribute n) ms ++ fs)) (ne_eqb n k (λ e. other (sym e)))
    ∙ newer_run n k found ms fs other

pub last_after : (n k size count : ℕ) (bytes : List ℕ) → IsRun n size count bytes → (k ≡ n → ⊥)
    → gathered (newer k) None (fields_from (length bytes - count) (drop size bytes)) ≡ last k bytes
last_after n k size count bytes run other =
    let few : count ≤ size = run.few in
    let fits : size ≤ length bytes = run.fits in
    let left : ℕ = length bytes - count in
    let all : count + left ≡ length bytes = omega arith in
    let front : List ℕ = take size bytes in
    let after : List ℕ = drop size bytes in
    sym (ap (λ xs. gathered (newer k) None (fields_from (length bytes) xs))
    (sym (take-append-drop size bytes))
    ∙ ap (λ m. gathered (newer k) None (fields_from m (front ++ after))) (sym all)
    ∙ ap (gathered (newer k) None) (run_says n size count bytes front run refl left after)
    ∙ newer_run n k None (contents n (fields front)) (fields_from left after) other)

-- ---- the other fields

number_ignored : (p : NumberPoint) (f : Field) → f.number ≡ 7 → take_number p f ≡ p
unfolding take_number
number_ignored p f is =
    ap (λ n. if n == 2 then record p { start = Some (bits f.value) }
    else (if n == 3 then record p { end = Some (bits f.value) }
    else (if n == 4 then record p { double = Some (bits f.value); int = None }
    else (if n == 6
    then record p { double = None; int = Some (cast_signed w64 (bits f.value)) }
    else (if n == 8 then record p { flags = Some (bits f.value % 2 ^ 32) } else p))))) is

histogram_ignored : (p : HistogramPoint) (f : Field) → f.number ≡ 9 → take_histogram p f ≡ p
unfolding take_histogram
histogram_ignored p f is =
    ap (λ n. if n == 2 then record p { start = Some (bits f.value) }
    else (if n == 3 then record p { end = Some (bits f.value) }
    else (if n == 4 then record p { count = Some (bits f.value) }
    else (if n == 5 then record p { total = Some (bits f.value) }
    else (if n == 10 then record p { flags = Some (bits f.value % 2 ^ 32) } else p))))) is

pub others_is : (n : ℕ) (f : Field) (fs : List Field) → f.number ≡ n
    → others n (f ∷ fs) ≡ others n fs
others_is n f fs is = ap (λ t. if t then others n fs else f ∷ others n fs) (eq-eqb f.number n is)

pub others_not : (n : ℕ) (f : Field) (fs : List Field) → (f.number ≡ n → ⊥)
    → others n (f ∷ fs) ≡ f ∷ others n fs
others_not n f fs not = ap (λ t. if t then others n fs else f ∷ others n fs) (ne_eqb f.number n not)

pub contents_not : (n : ℕ) (f : Field) (fs : List Field) → (f.number ≡ n → ⊥)
    → contents n (f ∷ fs) ≡ contents n fs
unfolding contents
contents_not n f fs not = ap (λ t. with_first (if t then content f.value else None) (contents n fs))
    (ne_eqb f.number n not)

gathered_others : {A : Type 0} (takes : A → Field → A) (n : ℕ)
    → ((a : A) (f : Field) → f.number ≡ n → takes a f ≡ a) → (fs : List Field) (a : A)
    → gathered takes a (others n fs) ≡ gathered takes a fs
gathered_others takes n ignores [] a = refl
gathered_others {A} takes n ignores (f ∷ fs) a =
    by (cases_eq f.number n) (λ b. gathered_others takes n ignores fs b)
  where
    by : (f.number ≡ n) ⊎ (f.number ≡ n → ⊥)
        → ((b : A) → gathered takes b (others n fs) ≡ gathered takes b fs)
        → gathered takes a (others n (f ∷ fs)) ≡ gathered takes (takes a f) fs
    by (inl is) more = ap (gathered takes a) (others_is n f fs is) ∙ more a
        ∙ ap (λ b. gathered takes b fs) (sym (ignores a f is))
    by (inr not) more = ap (gathered takes a) (others_not n f fs not) ∙ more (takes a f)

pub number_others : (fs : List Field) (p : NumberPoint)
    → gathered take_number p (others 7 fs) ≡ gathered take_number p fs
number_others fs p = gathered_others take_number 7 ignored fs p
  where
    ignored : (a : NumberPoint) (f : Field) → f.number ≡ 7 → take_number a f ≡ a
    ignored a f is = number_ignored a f is

pub histogram_others : (fs : List Field) (p : HistogramPoint)
    → gathered take_histogram p (others 9 fs) ≡ gathered take_histogram p fs
histogram_others fs p = gathered_others take_histogram 9 (λ a f is. histogram_ignored a f is) fs p

pub numbers_others : (n k : ℕ) → (n ≡ k → ⊥) → (fs : List Field)
    → numbers k (others n fs) ≡ numbers k fs
unfolding numbers
numbers_others n k not [] = refl
numbers_others n k not (f ∷ fs) = by (cases_eq f.number n) (numbers_others n k not fs)
  where
    by : (f.number ≡ n) ⊎ (f.number ≡ n → ⊥) → numbers k (others n fs) ≡ numbers k fs
        → numbers k (others n (f ∷ fs)) ≡ numbers_at k f ++ numbers k fs
    by (inl is) more =
        ap (numbers k) (others_is n f fs is) ∙ more
        ∙ sym (ap (λ t. (if t then numbers_of f.value else []) ++ numbers k fs)
        (ne_eqb f.number k (λ e. not (sym is ∙ e))))
    by (inr other) more =
        ap (numbers k) (others_not n f fs other) ∙ ap (λ ns. numbers_at k f ++ ns) more

-- ---- what is seen of attributes

pub sees_not : (n : ℕ) (known : List (List ℕ)) (seen : Seen) (fs : List Field) (f : Field)
    (rest : List Field) (all : List (List ℕ)) → fs ≡ f ∷ rest → (f.number ≡ n → ⊥)
    → Sees known seen (contents n fs) all → Sees known seen (contents n rest) all
sees_not n known seen fs f rest all is not so_far =
    subst (λ ms. Sees known seen ms all) (ap (contents n) is ∙ contents_not n f rest not) so_far

pub sees_done : (n : ℕ) (known : List (List ℕ)) (seen : Seen) (fs : List Field)
    (all : List (List ℕ)) → fs ≡ [] → Sees known seen (contents n fs) all → Sees known seen [] all
unfolding contents
sees_done n known seen fs all none so_far =
    subst (λ ms. Sees known seen ms all) (ap (contents n) none) so_far
