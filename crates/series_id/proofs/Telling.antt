-- What is written is read in one way: two identities that are written alike are one.
use Rattle.std.proofs.Common.{◌≡◌, ℕ, ℤ, pos, negsuc, Bool, true, false, ◌+◌, ◌/◌, ◌%◌, ◌^◌, ◌<◌}
use Rattle.std.proofs.Common.{◌≤◌, cond, List, [], ◌∷◌, ◌++◌, length, refl, sym, ap, ◌∙◌, arith}
use Rattle.std.proofs.Common.{append_assoc}
use Rattle.std.specs.Prelude.{nat_lt, All, FitsSigned}
use Rattle.std.specs.Int.{w64, cast_unsigned, cast_signed, to_le_bytes, from_le_bytes}
use Rattle.std.specs.List.{flat_map}
use Rattle.std.proofs.lemmas.Bool.{ltb-true}
use Rattle.std.proofs.lemmas.Int.{to_z-of_z}
use Rattle.std.proofs.lemmas.List.{append-nil}
use Rattle.std.proofs.lemmas.List.Elements.{All-head, All-tail}
use Rattle.std.proofs.lemmas.Nat.{from_le_bytes-to_le_bytes_8}
use Rattle.series_id.specs.declared.scalars.Scalar.{Scalar}
use Rattle.series_id.specs.declared.scalars.Scalar.TheVariants.{Empty, Truth, Int, Text}
use Rattle.series_id.specs.declared.values.AttrValue.TheVariants.{One, Many}
use Rattle.series_id.specs.declared.kinds.Kind.TheVariants.{Sum, Histogram}
use Rattle.series_id.specs.declared.limits.TheConstants.{MAX_TEXT}
use Rattle.series_id.specs.Texts.{IsText}
use Rattle.series_id.specs.Values.{IsInt, IsScalar, IsValue}
use Rattle.series_id.specs.Attributes.{IsAttribute, IsAttrSet}
use Rattle.series_id.specs.Bounds.{IsBound}
use Rattle.series_id.specs.Kinds.{IsKind}
use Rattle.series_id.specs.Identity.{Identity, IsIdentity}
use Rattle.series_id.specs.inner.Written.{length_bytes, text_bytes, int_bytes, scalar_bytes}
use Rattle.series_id.specs.inner.Written.{value_bytes, attribute_bytes, set_bytes, kind_bytes}
use Rattle.series_id.specs.inner.Written.{written}

-- bytes that tell what is written, and where they end
abbrev Tells : {X : Type 0} → (X → Type 0) → (X → List ℕ) → Type 0
Tells {X} P f = (x y : X) → P x → P y → (s t : List ℕ) → f x ++ s ≡ f y ++ t → (x ≡ y) × (s ≡ t)

-- of lists that begin with as many elements each, these are the same, and the rest is
same_front : {X : Type 0} (xs ys s t : List X) → length xs ≡ length ys → xs ++ s ≡ ys ++ t
    → (xs ≡ ys) × (s ≡ t)
same_front [] [] s t l e = (refl, e)
same_front (x ∷ xs) (y ∷ ys) s t l e =
    let first : x ≡ y = cc e in
    let rest = same_front xs ys s t (cc l) (cc e) in
    ((λ i. first i ∷ rest.0 i), rest.1)
same_front xs ys s t l e = cc l

-- ---- texts and integers

length_by : (m n : ℕ) (a b : Bool) → nat_lt m 128 ≡ a → nat_lt n 128 ≡ b → m ≤ MAX_TEXT
    → n ≤ MAX_TEXT → (s t : List ℕ)
    → cond a (m ∷ []) ((128 + m % 128) ∷ (m / 128 % 256) ∷ []) ++ s
    ≡ cond b (n ∷ []) ((128 + n % 128) ∷ (n / 128 % 256) ∷ []) ++ t → (m ≡ n) × (s ≡ t)
length_by m n true true j k p q s t e = (cc e, cc e)
length_by m n true false j k p q s t e = let h : m ≡ 128 + n % 128 = cc e in
    absurd (omega (arith, h, ltb-true m 128 j))
length_by m n false true j k p q s t e = let h : 128 + m % 128 ≡ n = cc e in
    absurd (omega (arith, h, ltb-true n 128 k))
length_by m n false false j k p q s t e =
    let h : 128 + m % 128 ≡ 128 + n % 128 = cc e in
    let g : m / 128 % 256 ≡ n / 128 % 256 = cc e in
    (omega (arith, h, g, p, q), cc e)

length_tells : (m n : ℕ) → m ≤ MAX_TEXT → n ≤ MAX_TEXT → (s t : List ℕ)
    → length_bytes m ++ s ≡ length_bytes n ++ t → (m ≡ n) × (s ≡ t)
unfolding length_bytes
length_tells m n p q s t e = length_by m n (nat_lt m 128) (nat_lt n 128) refl refl p q s t e

text_tells : Tells IsText text_bytes
unfolding text_bytes
text_tells x y p q s t e =
    let rest = length_tells (length x) (length y) p q (x ++ s) (y ++ t)
    (sym (append_assoc (length_bytes (length x)) x s) ∙ e
    ∙ append_assoc (length_bytes (length y)) y t) in
    same_front x y s t rest.0 rest.1

int_fits : (n : ℤ) → IsInt n → FitsSigned w64 n
int_fits (pos n) p = record { sfits = p }
int_fits (negsuc n) p = record { sfits = p }

int_below : (n : ℤ) → IsInt n → cast_unsigned w64 n < 2 ^ 64
int_below (pos n) p = omega (arith, p)
int_below (negsuc n) p = omega (arith, p)

int_tells : Tells IsInt int_bytes
unfolding int_bytes
int_tells m n p q s t e =
    let a = cast_unsigned w64 m in
    let b = cast_unsigned w64 n in
    let rest = same_front (to_le_bytes w64 a) (to_le_bytes w64 b) s t refl e in
    let same : a ≡ b = sym (from_le_bytes-to_le_bytes_8 a (int_below m p))
    ∙ ap (from_le_bytes w64) rest.0 ∙ from_le_bytes-to_le_bytes_8 b (int_below n q) in (
      sym (to_z-of_z w64 m (int_fits m p)) ∙ ap (cast_signed w64) same
          ∙ to_z-of_z w64 n (int_fits n q),
      rest.1,
    )

-- ---- lists

items_tell : {X : Type 0} (P : X → Type 0) (f : X → List ℕ) → Tells P f → (xs ys : List X)
    → All P xs → All P ys → length xs ≡ length ys
    → (s t : List ℕ) → flat_map f xs ++ s ≡ flat_map f ys ++ t → (xs ≡ ys) × (s ≡ t)
items_tell P f tells [] [] p q l s t e = (refl, e)
items_tell P f tells (x ∷ xs) (y ∷ ys) p q l s t e =
    let first = tells x y (All-head P x xs p) (All-head P y ys q) (flat_map f xs ++ s)
    (flat_map f ys ++ t) (sym (append_assoc (f x) (flat_map f xs) s) ∙ e
    ∙ append_assoc (f y) (flat_map f ys) t) in
    let rest =
    items_tell P f tells xs ys (All-tail P x xs p) (All-tail P y ys q) (cc l) s t first.1 in
    ((λ i. first.0 i ∷ rest.0 i), rest.1)
items_tell P f tells xs ys p q l s t e = cc l

-- a count, and so many
counted_tell : {X : Type 0} (P : X → Type 0) (f : X → List ℕ) → Tells P f → (xs ys : List X)
    → All P xs → All P ys → length xs < 256 → length ys < 256
    → (s t : List ℕ) → (length xs % 256) ∷ (flat_map f xs ++ s)
    ≡ (length ys % 256) ∷ (flat_map f ys ++ t) → (xs ≡ ys) × (s ≡ t)
counted_tell P f tells xs ys p q k m s t e =
    let h : length xs % 256 ≡ length ys % 256 = cc e in
    items_tell P f tells xs ys p q (omega (arith, h, k, m)) s t (cc e)

-- ---- values, sets, kinds

scalar_tells : Tells IsScalar scalar_bytes
unfolding scalar_bytes
scalar_tells Empty Empty p q s t e = (refl, cc e)
scalar_tells (Truth false) (Truth false) p q s t e = (refl, cc e)
scalar_tells (Truth true) (Truth true) p q s t e = (refl, cc e)
scalar_tells (Int m) (Int n) p q s t e = let rest = int_tells m n p q s t (cc e) in
    (ap Int rest.0, rest.1)
scalar_tells (Text x) (Text y) p q s t e = let rest = text_tells x y p q s t (cc e) in
    (ap Text rest.0, rest.1)
scalar_tells x (Truth false) p q s t e = cc e
scalar_tells x (Truth true) p q s t e = cc e
scalar_tells x y p q s t e = cc e

-- no scalar begins as a list does
no_list : {A : Type 0} (x : Scalar) (s t : List ℕ) → scalar_bytes x ++ s ≡ 5 ∷ t → A
unfolding scalar_bytes
no_list Empty s t e = cc e
no_list (Truth false) s t e = cc e
no_list (Truth true) s t e = cc e
no_list (Int n) s t e = cc e
no_list (Text x) s t e = cc e

value_tells : Tells IsValue value_bytes
unfolding value_bytes
value_tells (One x) (One y) p q s t e = let rest = scalar_tells x y p q s t e in
    (ap One rest.0, rest.1)
value_tells (Many xs) (Many ys) p q s t e =
    let rest = counted_tell IsScalar scalar_bytes scalar_tells xs ys p.1 q.1 (omega (arith, p.0))
    (omega (arith, q.0)) s t (cc e) in
    (ap Many rest.0, rest.1)
value_tells (One x) (Many ys) p q s t e = no_list x s _ e
value_tells (Many xs) (One y) p q s t e = no_list y t _ (sym e)

attribute_tells : Tells IsAttribute attribute_bytes
unfolding attribute_bytes
attribute_tells x y p q s t e =
    let key = text_tells x.key y.key p.0 q.0 (value_bytes x.value ++ s) (value_bytes y.value ++ t)
    (sym (append_assoc (text_bytes x.key) (value_bytes x.value) s) ∙ e
    ∙ append_assoc (text_bytes y.key) (value_bytes y.value) t) in
    let value = value_tells x.value y.value p.1 q.1 s t key.1 in
    ((λ i. record { key = key.0 i; value = value.0 i }), value.1)

set_tells : Tells IsAttrSet set_bytes
unfolding set_bytes
set_tells xs ys p q s t e = counted_tell IsAttribute attribute_bytes attribute_tells xs ys p.short
    q.short (omega (arith, p.few)) (omega (arith, q.few)) s t e

bound_is_int : (n : ℤ) → IsBound n → IsInt n
bound_is_int (pos n) p = omega (arith, p)
bound_is_int (negsuc n) p = omega (arith, p)

bound_tells : Tells IsBound int_bytes
bound_tells m n p q s t e = int_tells m n (bound_is_int m p) (bound_is_int n q) s t e

kind_tells : Tells IsKind kind_bytes
unfolding kind_bytes
kind_tells (Sum false) (Sum false) p q s t e = (refl, cc e)
kind_tells (Sum true) (Sum true) p q s t e = (refl, cc e)
kind_tells (Histogram xs) (Histogram ys) p q s t e =
    let rest = counted_tell IsBound int_bytes bound_tells xs ys p.small q.small
    (omega (arith, p.few)) (omega (arith, q.few)) s t (cc e) in
    (ap Histogram rest.0, rest.1)
kind_tells j (Sum false) p q s t e = cc e
kind_tells j (Sum true) p q s t e = cc e
kind_tells j k p q s t e = cc e

-- ---- identities

pub written_tells : (x y : Identity) → IsIdentity x → IsIdentity y → written x ≡ written y → x ≡ y
unfolding written
written_tells x y p q e =
    let a = set_tells x.resource y.resource p.resource q.resource _ _ e in
    let b = text_tells x.scope_name y.scope_name p.scope_name q.scope_name _ _ a.1 in
    let c = text_tells x.scope_version y.scope_version p.scope_version q.scope_version _ _ b.1 in
    let d = set_tells x.scope_attrs y.scope_attrs p.scope_attrs q.scope_attrs _ _ c.1 in
    let f = text_tells x.name y.name p.name q.name _ _ d.1 in
    let g = text_tells x.unit y.unit p.unit q.unit _ _ f.1 in
    let h = kind_tells x.kind y.kind p.kind q.kind _ _ g.1 in
    let k = set_tells x.attrs y.attrs p.attrs q.attrs [] []
    (append-nil _ ∙ h.1 ∙ sym (append-nil _)) in
    λ i. record {
      resource = a.0 i;
      scope_name = b.0 i;
      scope_version = c.0 i;
      scope_attrs = d.0 i;
      name = f.0 i;
      unit = g.0 i;
      kind = h.0 i;
      attrs = k.0 i;
    }
