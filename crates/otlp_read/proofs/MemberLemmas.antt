-- One pass over the members of an object, and what is found in it at a name.
use Rattle.std.proofs.Common.{◌≡◌, ℕ, List, [], ◌∷◌, Option, Some, None, Less, false, cond, String}
use Rattle.std.proofs.Common.{Global, string_bytes, string_cmp, BTreeMap, refl, sym, ap, ◌∙◌, inl}
use Rattle.std.proofs.Common.{inr, true≢false}
use Rattle.std.specs.Str.{bytes_eq}
use Rattle.std.specs.List.{AllByRecursion}
use Rattle.std.specs.List.Sorted.{IsStrictlySortedBy}
use Rattle.std.specs.Map.{keys_of}
use Rattle.std.specs.Ordering.{is_eq}
use Rattle.std.specs.BTreeMap.{IsOrdered}
use Rattle.std.proofs.lemmas.Bool.{cases_Bool}
use Rattle.std.proofs.lemmas.Map.Text.{is_eq-slice_cmp}
use Rattle.std.proofs.lemmas.Slice.Eq.{bytes_eq-Decides}
use Rattle.serde_json.specs.Data.{Data, object, Members}
use Rattle.serde_json.specs.Find.{get_member, as_object}
use Rattle.serde_json.specs.View.{view, members_view}
use Rattle.serde_json.specs.declared.value.Value.{Value}
use Rattle.serde_json.proofs.Views.{Entry, member_here, member_later}
use Rattle.otlp_read.specs.Fields.{present, field}

-- what the slot of a name holds once these members have passed it
abbrev pub passed : List ℕ → List Entry → Option Data → Option Data
passed name [] slot = slot
passed name (e ∷ es) slot =
    passed name es (cond (bytes_eq name (string_bytes e.0)) (present (Some (view e.1))) slot)

-- one more member
pub passed_more : (name : List ℕ) (es more : List Entry) (e : Entry) (slot next total : Option Data)
    → es ≡ e ∷ more
    → next ≡ cond (bytes_eq name (string_bytes e.0)) (present (Some (view e.1))) slot
    → passed name es slot ≡ total → passed name more next ≡ total
passed_more name es more e slot next total here step so_far =
    ap (passed name more) step ∙ ap (λ xs. passed name xs slot) (sym here) ∙ so_far

-- a name that is not among the members leaves its slot
stays : (name : List ℕ) (k : String Global) (es : List Entry) (slot : Option Data)
    → name ≡ string_bytes k
    → AllByRecursion (λ y. string_cmp k y ≡ Less) (keys_of es) → passed name es slot ≡ slot
stays name k [] slot is above = refl
stays name k (e ∷ es) slot is above =
    let other : bytes_eq name (string_bytes e.0) ≡ false =
    ap (λ x. bytes_eq x (string_bytes e.0)) is
    ∙ sym (is_eq-slice_cmp (string_bytes k) (string_bytes e.0)) ∙ ap is_eq above.0 in
    rw other (stays name k es slot is above.1)

-- members with ascending names leave in a slot what is found at its name
pub found : (name : List ℕ) (es : List Entry) → IsStrictlySortedBy string_cmp (keys_of es)
    → passed name es None ≡ present (get_member name (members_view es))
unfolding IsStrictlySortedBy
found name [] sorted = refl
found name (e ∷ es) sorted =
    elim (cases_Bool (bytes_eq name (string_bytes e.0))) [
      | inl same ↦
          let is : name ≡ string_bytes e.0 = (bytes_eq-Decides name (string_bytes e.0)).0 same in
          rw same (stays name e.0 es (present (Some (view e.1))) is sorted.0
          ∙ ap present (sym (member_here name e es is)))
      | inr other ↦
          rw other (found name es sorted.1
          ∙ ap present (sym (member_later name e es
          (λ is. absurd (true≢false
          (sym ((bytes_eq-Decides name (string_bytes e.0)).1 is) ∙ other))))))
    ]

-- where no member is left, a slot holds the field of its name
pub all_passed : (name : List ℕ) (m : BTreeMap (String Global) Value) (es : List Entry)
    (slot : Option Data)
    → IsOrdered string_cmp m → es ≡ [] → passed name es slot ≡ passed name m.entries None
    → slot ≡ field name (object (members_view m.entries))
unfolding field
all_passed name m es slot ordered none so_far =
    sym (ap (λ xs. passed name xs slot) none) ∙ so_far ∙ found name m.entries ordered

-- a value that has members is their object
pub object_is : (d : Data) (ms : Members) → as_object d ≡ Some ms → d ≡ object ms
object_is (object ns) ms is = cc
object_is d ms is = absurd cc

-- what is no object has no field
pub no_field : (name : List ℕ) (d : Data) → as_object d ≡ None → field name d ≡ None
unfolding field
no_field name (object ms) is = absurd cc
no_field name d is = refl
