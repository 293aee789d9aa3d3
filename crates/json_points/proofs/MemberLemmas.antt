-- Objects of one member or two.
use Rattle.std.proofs.Common.{◌≡◌, ℕ, ℤ, List, Bool, true, false, not, Option, Some, option_map}
use Rattle.std.proofs.Common.{refl, ap, sym, ◌∙◌}
use Rattle.std.specs.Prelude.{codes, option_and_then}
use Rattle.std.specs.Str.{bytes_eq}
use Rattle.std.proofs.lemmas.Slice.Eq.{bytes_eq-Decides}
use Rattle.serde_json.specs.Data.{Data, null, boolean, number, string, array, object, no_members}
use Rattle.serde_json.specs.Data.{put}
use Rattle.serde_json.specs.Find.{as_str, as_bool}
use Rattle.series_id.specs.declared.scalars.Scalar.TheVariants.{Truth, Int, Text}
use Rattle.series_id.specs.declared.values.AttrValue.{AttrValue}
use Rattle.series_id.specs.declared.values.AttrValue.TheVariants.{One}
use Rattle.otlp_read.specs.Fields.{field, present, text_in}
use Rattle.otlp_read.specs.Integers.{signed_64, signed_in}
use Rattle.otlp_read.specs.Values.{value_in, value_of, fields_of, scalar_of, has_other}
use Rattle.otlp_read.specs.Attributes.{pair_of}

-- ---- a value that has nothing else beside it

text_there : (d : Data) (s : List ℕ) → as_str d ≡ Some s
    → value_in (present (Some (object (put (codes "stringValue") d no_members))))
    ≡ Some (One (Text s))
unfolding value_in value_of fields_of scalar_of has_other field
text_there null s e = absurd cc
text_there (boolean b) s e = absurd cc
text_there (number n) s e = absurd cc
text_there (string t) s e = let is : t ≡ s = cc in ap (λ x. Some (One (Text x))) is
text_there (array js) s e = absurd cc
text_there (object ms) s e = absurd cc

pub text_alone : (x d : Data) (k s : List ℕ) → x ≡ object (put k d no_members)
    → true ≡ bytes_eq k (codes "stringValue") → Some s ≡ as_str d
    → value_in (present (Some x)) ≡ Some (One (Text s))
text_alone x d k s whole named read =
    let is : k ≡ codes "stringValue" = (bytes_eq-Decides k (codes "stringValue")).0 (sym named) in
    rw (whole, is) (text_there d s (sym read))

truth_there : (d : Data) (b : Bool) → as_bool d ≡ Some b
    → value_in (present (Some (object (put (codes "boolValue") d no_members))))
    ≡ Some (One (Truth b))
unfolding value_in value_of fields_of scalar_of has_other field
truth_there null b e = absurd cc
truth_there (boolean t) b e = let is : t ≡ b = cc in ap (λ x. Some (One (Truth x))) is
truth_there (number n) b e = absurd cc
truth_there (string t) b e = absurd cc
truth_there (array js) b e = absurd cc
truth_there (object ms) b e = absurd cc

pub truth_alone : (x d : Data) (k : List ℕ) (b : Bool) → x ≡ object (put k d no_members)
    → true ≡ bytes_eq k (codes "boolValue") → Some b ≡ as_bool d
    → value_in (present (Some x)) ≡ Some (One (Truth b))
truth_alone x d k b whole named read =
    let is : k ≡ codes "boolValue" = (bytes_eq-Decides k (codes "boolValue")).0 (sym named) in
    rw (whole, is) (truth_there d b (sym read))

no_int : (z : ℤ) → signed_64 null ≡ Some z
    → value_in (present (Some (object (put (codes "intValue") null no_members))))
    ≡ Some (One (Int z))
unfolding signed_in
no_int z e = absurd cc

int_there : (d : Data) (z : ℤ) → signed_64 d ≡ Some z
    → value_in (present (Some (object (put (codes "intValue") d no_members)))) ≡ Some (One (Int z))
unfolding value_in value_of fields_of scalar_of has_other field
int_there null z e = no_int z e
int_there (boolean t) z e = ap (λ o. option_map One (option_map Int o)) e
int_there (number n) z e = ap (λ o. option_map One (option_map Int o)) e
int_there (string t) z e = ap (λ o. option_map One (option_map Int o)) e
int_there (array js) z e = ap (λ o. option_map One (option_map Int o)) e
int_there (object ms) z e = ap (λ o. option_map One (option_map Int o)) e

pub int_alone : (x d : Data) (k : List ℕ) (z : ℤ) → x ≡ object (put k d no_members)
    → true ≡ bytes_eq k (codes "intValue") → Some z ≡ signed_64 d
    → value_in (present (Some x)) ≡ Some (One (Int z))
int_alone x d k z whole named read =
    let is : k ≡ codes "intValue" = (bytes_eq-Decides k (codes "intValue")).0 (sym named) in
    rw (whole, is) (int_there d z (sym read))

-- ---- a key and a value

both_there : (d e : Data) (key : List ℕ) (g : AttrValue) → text_in (present (Some d)) ≡ Some key
    → value_in (present (Some e)) ≡ Some g
    → pair_of (object (put (codes "value") e (put (codes "key") d no_members))) ≡ Some (key, g)
unfolding pair_of field
both_there d e key g read there =
    ap (λ o. option_and_then (λ k. option_and_then (λ v. Some (k, v)) (value_in (present (Some e))))
    o) read
    ∙ ap (λ o. option_and_then (λ v. Some (key, v)) o) there

pub pair_there : (x d e : Data) (k l key : List ℕ) (found : Option Data) (g : AttrValue)
    → x ≡ object (put l e (put k d no_members))
    → bytes_eq k (codes "key") ≡ true → bytes_eq l (codes "value") ≡ true
    → found ≡ present (Some d) → Some key ≡ text_in found → value_in (present (Some e)) ≡ Some g
    → pair_of x ≡ Some (key, g)
pair_there x d e k l key found g whole first second is read there =
    let k_is : k ≡ codes "key" = (bytes_eq-Decides k (codes "key")).0 first in
    let l_is : l ≡ codes "value" = (bytes_eq-Decides l (codes "value")).0 second in
    rw (whole, k_is, l_is) (both_there d e key g (ap text_in (sym is) ∙ sym read) there)
