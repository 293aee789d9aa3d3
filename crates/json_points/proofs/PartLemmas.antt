-- The fields of a sum's point, found one after the other.
use Rattle.std.proofs.Common.{◌≡◌, ℕ, List, true, false, Option, Some, None, refl, ap, sym, subst}
use Rattle.std.proofs.Common.{◌∙◌}
use Rattle.std.specs.Prelude.{codes, MatchOption}
use Rattle.std.specs.Str.{bytes_eq}
use Rattle.std.proofs.lemmas.Slice.Eq.{bytes_eq-Decides}
use Rattle.serde_json.specs.Data.{Data, null, boolean, number, string, array, object, Members}
use Rattle.serde_json.specs.Data.{no_members, put}
use Rattle.serde_json.specs.Find.{get_member}
use Rattle.serde_json.proofs.Views.{get_member-put, get_member-put_other}
use Rattle.otlp_read.specs.Containers.{is_object}
use Rattle.otlp_read.specs.Fields.{field, present}
use Rattle.otlp_read.specs.Sums.{sum_fields, is_whole_value}
use Rattle.json_points.specs.inner.SumParts.{HasParts, said_by}
use Rattle.json_points.specs.declared.sums.SumParts.{SumParts}

same_name : (k n : List ℕ) → true ≡ bytes_eq k n → k ≡ n
same_name k n e = (bytes_eq-Decides k n).0 (sym e)

-- the member that was put in last
pub here : (k n : List ℕ) (d : Data) (before : Members) (o : Option Data) → true ≡ bytes_eq k n
    → o ≡ present (Some d) → o ≡ field n (object (put k d before))
unfolding field
here k n d before o named is = is ∙ ap present
    (sym (subst (λ m. get_member m (put k d before) ≡ Some d) (same_name k n named)
    (get_member-put k d before)))

-- a member of another name
pub beside : (k n : List ℕ) (d : Data) (before : Members) (o : Option Data) → false ≡ bytes_eq k n
    → o ≡ field n (object before) → o ≡ field n (object (put k d before))
unfolding field
beside k n d before o named is =
    is ∙ ap present (sym (get_member-put_other n k d before
    (λ same. let one : bytes_eq k n ≡ true = (bytes_eq-Decides k n).1 (sym same) in absurd cc)))

pub apart : (k n m : List ℕ) → true ≡ bytes_eq k n → bytes_eq n m ≡ false → false ≡ bytes_eq k m
apart k n m named other = sym (ap (λ x. bytes_eq x m) (same_name k n named) ∙ other)

-- what is no object has no field
pub no_field : (n : List ℕ) (d : Data) → is_object d ≡ false
    → field n (object no_members) ≡ field n d
unfolding field
no_field n null e = refl
no_field n (boolean b) e = refl
no_field n (number m) e = refl
no_field n (string s) e = refl
no_field n (array js) e = refl
no_field n (object ms) e = absurd cc

pub no_parts_there : (p : SumParts) (d : Data) → is_object d ≡ false
    → HasParts p (object no_members) → HasParts p d
no_parts_there p d e has = record {
  start = has.start ∙ no_field (codes "startTimeUnixNano") d e;
  end = has.end ∙ no_field (codes "timeUnixNano") d e;
  value = has.value ∙ no_field (codes "asInt") d e;
  flags = has.flags ∙ no_field (codes "flags") d e;
  double = has.double ∙ no_field (codes "asDouble") d e;
  attributes = has.attributes ∙ no_field (codes "attributes") d e;
}

pub said : (p : SumParts) (d : Data) → HasParts p d → said_by p ≡ sum_fields d
unfolding said_by sum_fields is_whole_value
said p d has = rw (has.start, has.end, has.value, has.flags, has.double) refl

-- the fields are those of the object, whose members have ended
pub all_there : {A : Type 0} (r : Option A) (p : SumParts) (before : Members) (d : Data)
    (Q : A → Type 0)
    → MatchOption r (d ≡ object before) Q → r ≡ None → HasParts p (object before) → HasParts p d
all_there None p before d Q ended is has = subst (HasParts p) (sym ended) has
all_there (Some a) p before d Q ended is has = absurd cc
