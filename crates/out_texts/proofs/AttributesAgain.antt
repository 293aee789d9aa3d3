-- Reading attributes that were written.
use Rattle.std.proofs.Common.{◌≡◌, List, length, map, Some, refl, ap, ◌∙◌}
use Rattle.std.specs.List.{AllByRecursion}
use Rattle.std.proofs.lemmas.Bool.{le-leb}
use Rattle.std.proofs.lemmas.List.{map-id}
use Rattle.std.proofs.lemmas.List.Elements.{recursion_from_All}
use Rattle.serde_json.specs.Data.{array}
use Rattle.serde_json.specs.View.{items_of}
use Rattle.series_id.specs.declared.limits.TheConstants.{MAX_TEXT}
use Rattle.series_id.specs.declared.scalars.Scalar.{Scalar}
use Rattle.series_id.specs.declared.scalars.Scalar.TheVariants.{Empty, Truth, Int, Text}
use Rattle.series_id.specs.declared.values.AttrValue.{AttrValue}
use Rattle.series_id.specs.declared.values.AttrValue.TheVariants.{One, Many}
use Rattle.series_id.specs.declared.attributes.Attribute.{Attribute}
use Rattle.series_id.specs.Attributes.{IsAttribute, IsAttrSet}
use Rattle.series_id.specs.Values.{IsScalar, IsValue}
use Rattle.series_id.specs.Sorting.{pair_of as pair}
use Rattle.series_id.proofs.Refusals.{each_more}
use Rattle.series_id.proofs.Again.{set_unrefused, sorted_again}
use Rattle.otlp_read.specs.Fields.{field, present, text_in}
use Rattle.otlp_read.specs.Lists.{elements_in, list_in}
use Rattle.otlp_read.specs.Values.{has_other, fields_of, scalar_of, scalar_in, scalars_of, many_of}
use Rattle.otlp_read.specs.Values.{value_of, value_in}
use Rattle.otlp_read.specs.Attributes.{pair_of, set_of, attributes_in}
use Rattle.out_texts.specs.Attributes.{scalar_value, attr_value, attribute_value}
use Rattle.out_texts.proofs.NumbersAgain.{signed_again}
use Rattle.out_texts.proofs.Grouping.{elements_of_items, all_again}

scalar_again : (x : Scalar) → IsScalar x → scalar_in (scalar_value x) ≡ Some x
unfolding scalar_in scalar_of fields_of has_other field scalar_value
scalar_again (Int n) h = rw (signed_again n h) refl
scalar_again x h = refl

one_again : (x : Scalar) → IsScalar x → value_of (scalar_value x) ≡ Some (One x)
unfolding value_of scalar_of fields_of has_other field scalar_value
one_again (Int n) h = rw (signed_again n h) refl
one_again x h = refl

list_again : (xs : List Scalar) → AllByRecursion IsScalar xs
    → list_in scalar_in (Some (array (items_of (map scalar_value xs)))) ≡ Some xs
unfolding elements_in
list_again xs h = rw (elements_of_items (map scalar_value xs))
    (all_again scalar_in scalar_value (λ x. x) xs
    (each_more IsScalar (λ x. scalar_in (scalar_value x) ≡ Some x) scalar_again xs h)
    ∙ ap (λ ys. Some ys) (map-id xs))

value_again : (v : AttrValue) → IsValue v → value_of (attr_value v) ≡ Some v
unfolding value_of many_of scalars_of fields_of has_other field attr_value
value_again (One x) h = one_again x h
value_again (Many xs) h = rw (list_again xs (recursion_from_All IsScalar xs h.1)) refl

scalar_there : (x : Scalar) → present (Some (scalar_value x)) ≡ Some (scalar_value x)
unfolding scalar_value
scalar_there Empty = refl
scalar_there (Truth b) = refl
scalar_there (Int n) = refl
scalar_there (Text t) = refl

value_there : (v : AttrValue) → present (Some (attr_value v)) ≡ Some (attr_value v)
unfolding attr_value
value_there (One x) = scalar_there x
value_there (Many xs) = refl

-- ---- attributes

pair_again : (a : Attribute) → IsAttribute a → pair_of (attribute_value a) ≡ Some (pair a)
unfolding pair_of attribute_value field text_in value_in
pair_again a h =
    rw (le-leb (length a.key) MAX_TEXT h.0, value_there a.value, value_again a.value h.1) refl

pub attributes_again : (set : List Attribute) → IsAttrSet set
    → attributes_in (Some (array (items_of (map attribute_value set)))) ≡ Some set
unfolding attributes_in elements_in set_of
attributes_again set h =
    let pairs = each_more IsAttribute (λ a. pair_of (attribute_value a) ≡ Some (pair a)) pair_again
    set (recursion_from_All IsAttribute set h.short) in
    rw (
      elements_of_items (map attribute_value set),
      all_again pair_of attribute_value pair set
          pairs,
      set_unrefused set h,
      sorted_again set h.ascending,
    ) refl
