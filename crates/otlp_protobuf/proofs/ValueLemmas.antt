-- The members of a value, found again.
use Rattle.std.proofs.Common.{◌≡◌, ◌≢◌, ◌<◌, ◌^◌, ℕ, zero, suc, Bool, true, false, cond, List, []}
use Rattle.std.proofs.Common.{◌∷◌, map, Option, Some, None, option_map}
use Rattle.std.proofs.Common.{refl, ap, sym, subst, ◌∙◌, arith, w64}
use Rattle.std.specs.Prelude.{◌==◌, codes, FitsSigned, Result, Ok, Err, IfOk}
use Rattle.std.specs.Int.{cast_signed}
use Rattle.std.proofs.Math.Facts.{sfits_to_z}
use Rattle.std.proofs.lemmas.Bool.{eqb-true}
use Rattle.std.proofs.lemmas.Bool.Decides.{nat_tests}
use Rattle.serde_json.specs.Data.{Data, Members, no_members, string, object}
use Rattle.series_id.specs.declared.scalars.Scalar.TheVariants as scalars
use Rattle.series_id.specs.declared.values.AttrValue.TheVariants.{One, Many}
use Rattle.otlp_read.specs.Attributes.{pair_of, key_and_value}
use Rattle.otlp_read.specs.Containers.{elements}
use Rattle.otlp_read.specs.Fields.{field, present}
use Rattle.otlp_read.specs.Integers.{signed_64}
use Rattle.otlp_read.specs.Lists.{all_of, elements_in, list_in}
use Rattle.otlp_read.specs.Values.{fields_of, has_other, only_of, scalar_of, scalar_in, scalars_of}
use Rattle.otlp_read.specs.Values.{many_of, value_of, value_of_fields}
use Rattle.otlp_protobuf.specs.Wire.{Value, varint_value, fixed64_value, bytes_value, group_value}
use Rattle.otlp_protobuf.specs.Wire.{fixed32_value, Field, fields}
use Rattle.otlp_protobuf.specs.Doubles.{whole_double}
use Rattle.otlp_protobuf.specs.Fields.{bits, text_of, text_at, contents, whole_at}
use Rattle.otlp_protobuf.specs.Members.{or_null, signed_data, items, list_data}
use Rattle.otlp_protobuf.specs.Values.{any_of, any_value, array_members, list_of, single_value}
use Rattle.otlp_protobuf.specs.Values.{chosen, key_value}
use Rattle.otlp_protobuf.specs.inner.RefViews.{text_scalar, scalar_at, scalar_chosen}
use Rattle.otlp_protobuf.specs.inner.PairViews.{is_list, value_chosen, pair_from}
use Rattle.otlp_protobuf.proofs.PointLemmas.{signed_read, whole_there}

-- what is not one of the fields of a value
pub record IsOther (n : ℕ) : Type 0 where
  pub text : (n == 1) ≡ false
  pub truth : (n == 2) ≡ false
  pub int : (n == 3) ≡ false
  pub double : (n == 4) ≡ false
  pub list : (n == 5) ≡ false
  pub map : (n == 6) ≡ false
  pub bytes : (n == 7) ≡ false

pub unequal : (n k : ℕ) → n ≢ k → (n == k) ≡ false
unequal n k h = grind (arith, nat_tests)

pub other : (n : ℕ) → IsOther (suc (suc (suc (suc (suc (suc (suc (suc n))))))))
other n = record {
  text = unequal _ 1 (omega arith);
  truth = unequal _ 2 (omega arith);
  int = unequal _ 3 (omega arith);
  double = unequal _ 4 (omega arith);
  list = unequal _ 5 (omega arith);
  map = unequal _ 6 (omega arith);
  bytes = unequal _ 7 (omega arith);
}

text_read : (t : Option (List ℕ))
    → only_of (present (Some (or_null (option_map string t)))) None None ≡ Some (text_scalar t)
text_read None = refl
text_read (Some s) = refl

bits_fit : (v : Value) → bits v < 2 ^ 64
bits_fit (varint_value n) = omega arith
bits_fit (fixed64_value n) = omega arith
bits_fit (bytes_value b) = omega arith
bits_fit group_value = omega arith
bits_fit (fixed32_value n) = omega arith

int_fits : (n : ℕ) → n < 2 ^ 64 → FitsSigned w64 (cast_signed w64 n)
int_fits n h = sfits_to_z {w = w64} (record { fits = h })

int_read : (n : ℕ) → n < 2 ^ 64 → option_map scalars.Int
    (signed_64 (signed_data (cast_signed w64 n))) ≡ Some (scalars.Int (cast_signed w64 n))
int_read n h = ap (option_map scalars.Int) (signed_read (cast_signed w64 n) (int_fits n h))

by_number : (list : Members) (n : ℕ) (v : Value)
    → scalar_of (fields_of (any_of list (Some (record { number = n; value = v })))) ≡ scalar_at n v
unfolding scalar_of fields_of has_other field any_of
by_number list zero v = refl
by_number list (suc zero) v = text_read (text_of v)
by_number list (suc (suc zero)) v = refl
by_number list (suc (suc (suc zero))) v = int_read (bits v) (bits_fit v)
by_number list (suc (suc (suc (suc zero)))) v =
    rw (whole_there (bits v) (whole_double (bits v))) refl
by_number list (suc (suc (suc (suc (suc zero))))) v = refl
by_number list (suc (suc (suc (suc (suc (suc zero)))))) v = refl
by_number list (suc (suc (suc (suc (suc (suc (suc zero))))))) v = refl
by_number list (suc (suc (suc (suc (suc (suc (suc (suc n)))))))) v =
    let o = other n in rw (o.text, o.truth, o.int, o.double, o.list, o.map, o.bytes) refl

-- the single value of a value
pub scalar_is : (list : Members) (o : Option Field)
    → scalar_of (fields_of (any_of list o)) ≡ scalar_chosen o
unfolding scalar_of fields_of has_other field any_of
scalar_is list None = refl
scalar_is list (Some f) = by_number list f.number f.value

-- without a list
one_value : (list : Members) (o : Option Field) → (fields_of (any_of list o)).list ≡ None
    → value_of (any_of list o) ≡ option_map One (scalar_of (fields_of (any_of list o)))
unfolding value_of any_of
one_value list o none = ap (value_of_fields (fields_of (any_of list o))) none

no_list : (list : Members) (n : ℕ) (v : Value) → (n == 5) ≡ false
    → (fields_of (any_of list (Some (record { number = n; value = v })))).list ≡ None
unfolding fields_of field any_of
no_list list n v other = rw other refl

listed : (list : Members) (v : Value)
    → value_of (any_of list (Some (record { number = 5; value = v })))
    ≡ option_map Many (scalars_of (object list))
unfolding value_of fields_of has_other field any_of many_of
listed list v = refl

value_by : (list : Members) (n : ℕ) (v : Value) (is : Bool) → (n == 5) ≡ is
    → value_of (any_of list (Some (record { number = n; value = v })))
    ≡ cond is (option_map Many (scalars_of (object list))) (option_map One (scalar_at n v))
value_by list n v true h = let e : n ≡ 5 = eqb-true n 5 h in
    subst (λ k. value_of (any_of list (Some (record { number = k; value = v })))
    ≡ option_map Many (scalars_of (object list))) (sym e) (listed list v)
value_by list n v false h =
    one_value list _ (no_list list n v h) ∙ ap (option_map One) (by_number list n v)

-- a value
pub value_is : (list : Members) (o : Option Field) → value_of (any_of list o) ≡ value_chosen list o
unfolding value_of fields_of has_other field any_of scalar_of
value_is list None = refl
value_is list (Some f) = value_by list f.number f.value (f.number == 5) refl

pub elements_are : (ds : List Data) → elements (items ds) ≡ ds
elements_are [] = refl
elements_are (d ∷ ds) = ap (λ es. d ∷ es) (elements_are ds)

-- a list that is there, each element read
pub list_read : {A : Type 0} (reads : Data → Option A) (ds : List Data)
    → list_in reads (Some (list_data ds)) ≡ all_of reads ds
unfolding elements_in
list_read reads ds = ap (all_of reads) (elements_are ds)

pub scalars_are : (bytes : List ℕ)
    → scalars_of (object (array_members bytes))
    ≡ all_of scalar_in (map single_value (contents 1 (fields bytes)))
unfolding scalars_of field
scalars_are bytes = list_read scalar_in (map single_value (contents 1 (fields bytes)))

pub scalar_in_list : (bytes : List ℕ)
    → scalar_in (single_value bytes) ≡ scalar_chosen (chosen bytes)
unfolding scalar_in any_of
scalar_in_list bytes = scalar_is no_members (chosen bytes)

pub text_shown : (t : Option (List ℕ))
    → present (Some (or_null (option_map string t))) ≡ option_map string t
text_shown None = refl
text_shown (Some s) = refl

value_shown : (w : Option (List ℕ))
    → present (Some (or_null (option_map any_value w))) ≡ option_map any_value w
unfolding any_of
value_shown None = refl
value_shown (Some b) = refl

key_of : (bytes : List ℕ)
    → field (codes "key") (key_value bytes) ≡ option_map string (text_at 1 bytes)
unfolding field key_value
key_of bytes = text_shown (text_at 1 bytes)

value_at : (bytes : List ℕ)
    → field (codes "value") (key_value bytes) ≡ option_map any_value (whole_at 2 bytes)
unfolding field key_value
value_at bytes = value_shown (whole_at 2 bytes)

is_pair : (bytes : List ℕ) → pair_of (key_value bytes) ≡ key_and_value (key_value bytes)
unfolding pair_of key_value
is_pair bytes = refl

-- an attribute
pub pair_is : (bytes : List ℕ)
    → pair_of (key_value bytes) ≡ pair_from (text_at 1 bytes) (whole_at 2 bytes)
pair_is bytes = is_pair bytes ∙ rw (key_of bytes, value_at bytes) refl

chosen_list : (list : Members) (o : Option Field) → is_list o ≡ true
    → value_chosen list o ≡ option_map Many (scalars_of (object list))
chosen_list list None h = absurd cc
chosen_list list (Some f) h = rw h refl

chosen_single : (list : Members) (o : Option Field) → is_list o ≡ false
    → value_chosen list o ≡ option_map One (scalar_chosen o)
chosen_single list None h = refl
chosen_single list (Some f) h = rw h refl

-- a list, by its bytes
pub listed_value : (bytes joined : List ℕ) → is_list (chosen bytes) ≡ true → joined ≡ list_of bytes
    → option_map Many (scalars_of (object (array_members joined))) ≡ value_of (any_value bytes)
listed_value bytes joined h e =
    ap (λ b. option_map Many (scalars_of (object (array_members b)))) e
    ∙ sym (value_is (array_members (list_of bytes)) (chosen bytes)
    ∙ chosen_list (array_members (list_of bytes)) (chosen bytes) h)

-- another value
pub single_of : (bytes : List ℕ) (o : Option Field) → o ≡ chosen bytes → is_list o ≡ false
    → option_map One (scalar_chosen o) ≡ value_of (any_value bytes)
single_of bytes o e h =
    sym (chosen_single (array_members (list_of bytes)) o h)
    ∙ ap (value_chosen (array_members (list_of bytes))) e
    ∙ sym (value_is (array_members (list_of bytes)) (chosen bytes))

pub ok_along : {T E : Type 0} (r : Result (Option T) E) (a b : Option T) → a ≡ b
    → IfOk r (λ o. o ≡ a) → IfOk r (λ o. o ≡ b)
ok_along (Ok o) a b e h = h ∙ e
ok_along (Err x) a b e h = tt
