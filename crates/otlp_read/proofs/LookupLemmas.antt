-- An identity that a cache has is the one that would be made of its parts.
use Rattle.std.proofs.Common.{◌≡◌, ℕ, ◌+◌, ◌<◌, ◌≤◌, List, [], ◌∷◌, map, take, drop, length, get_or}
use Rattle.std.proofs.Common.{set, Option, Some, None, refl, ap, sym, ◌∙◌}
use Rattle.std.specs.Prelude.{option_and_then, IfSome, IsPermutation}
use Rattle.std.specs.Result.{result_ok}
use Rattle.std.proofs.lemmas.List.{drop_more, at_drop_all, take_more_set, map-append}
use Rattle.std.proofs.lemmas.List.Sorted.{IsPermutation-map}
use Rattle.serde_json.specs.Data.{Data}
use Rattle.serde_json.specs.declared.value.Value.{Value}
use Rattle.serde_json.specs.View.{view}
use Rattle.series_id.specs.declared.attributes.Attribute.{Attribute}
use Rattle.series_id.specs.declared.kinds.Kind.{Kind}
use Rattle.series_id.specs.declared.values.AttrValue.{AttrValue}
use Rattle.series_id.specs.declared.faults.AttrFault.{AttrFault}
use Rattle.series_id.specs.Attributes.{IsAttrSet}
use Rattle.series_id.specs.Identity.{Identity, IsIdentity}
use Rattle.series_id.specs.Checks.{checked_identity}
use Rattle.series_id.specs.Pairs.{attr_refusal}
use Rattle.series_id.specs.Sorting.{pair_of as pair_in, sorted_by_key, set_unless}
use Rattle.series_id.proofs.Again.{set_again, identity_again}
use Rattle.series_id.proofs.OneSet.{set_moved}
use Rattle.otlp_read.specs.Rules.{unless}
use Rattle.otlp_read.specs.Lists.{all_of, elements_in}
use Rattle.otlp_read.specs.Attributes.{pair_of, set_of, attributes_in}
use Rattle.otlp_read.specs.Streams.{Stream, identity_in, series_in, series_of}
use Rattle.otlp_read.specs.declared.scalar_ref.PairRef.{PairRef}
use Rattle.otlp_read.specs.inner.RefViews.{pair_data}
use Rattle.otlp_read.proofs.ListLemmas.{with_front, all_more}

-- a set, or none for its fault, in the two spellings
unless_is : (fault : Option AttrFault) (pairs : List Attribute)
    → unless fault pairs ≡ result_ok (set_unless fault pairs)
unless_is None pairs = refl
unless_is (Some fault) pairs = refl

-- the pairs of a set are that set
set_of_pairs : (own : List Attribute) → IsAttrSet own → set_of (map pair_in own) ≡ Some own
unfolding set_of
set_of_pairs own h = unless_is (attr_refusal (map pair_in own)) (sorted_by_key (map pair_in own))
    ∙ ap result_ok (set_again own h)

-- the same pairs in another order are the same set
set_of_moved : (ps qs : List (List ℕ × AttrValue)) → IsPermutation ps qs → set_of ps ≡ set_of qs
unfolding set_of
set_of_moved ps qs m = unless_is (attr_refusal ps) (sorted_by_key ps)
    ∙ ap result_ok (set_moved ps qs m) ∙ sym (unless_is (attr_refusal qs) (sorted_by_key qs))

-- an identity of a stream is the one that its kind and attributes have there
pub series_is : (stream : Stream) (kind : Kind) (pairs : List (List ℕ × AttrValue)) (x : Identity)
    → IsIdentity x
    → identity_in stream x.kind x.attrs ≡ x → x.kind ≡ kind → pairs ≡ map pair_in x.attrs
    → option_and_then (series_in stream kind) (set_of pairs) ≡ Some x
unfolding series_in
series_is stream kind pairs x whole within same are =
    ap (λ ps. option_and_then (series_in stream kind) (set_of ps)) are
    ∙ ap (option_and_then (series_in stream kind)) (set_of_pairs x.attrs whole.attrs)
    ∙ ap (λ k. series_in stream k x.attrs) (sym same)
    ∙ ap (λ y. result_ok (checked_identity y)) within
    ∙ ap result_ok (identity_again x whole)

-- the series of the pairs in another order is the series of the list
pub series_of_list : (stream : Stream) (kind : Kind) (found : Option Data) (ds : List Data)
    (front sorted : List PairRef) (r : Option Identity)
    → elements_in found ≡ Some ds → all_of pair_of ds ≡ Some (map pair_data front)
    → IsPermutation front sorted
    → IfSome r (λ x. option_and_then (series_in stream kind) (set_of (map pair_data sorted))
    ≡ Some x) → IfSome r (λ x. series_of stream kind found ≡ Some x)
unfolding series_of attributes_in
series_of_list stream kind found ds front sorted None elements list moved found_sorted = tt
series_of_list stream kind found ds front sorted (Some x) elements list moved found_sorted =
    ap (λ o. option_and_then (series_in stream kind)
    (option_and_then set_of (option_and_then (all_of pair_of) o))) elements
    ∙ ap (λ o. option_and_then (series_in stream kind) (option_and_then set_of o)) list
    ∙ ap (option_and_then (series_in stream kind))
    (set_of_moved (map pair_data front) (map pair_data sorted)
    (IsPermutation-map pair_data front sorted moved))
    ∙ found_sorted

-- one more pair of a list is in the room
pub put_more : (vs : List Value) (room : List PairRef) (i : ℕ) (v : Value) (p : PairRef)
    (total : Option (List (List ℕ × AttrValue)))
    → i < length vs → i < length room → v ≡ get_or vs i v → pair_of (view v) ≡ Some (pair_data p)
    → with_front (map pair_data (take i room)) (all_of pair_of (map view (drop i vs))) ≡ total
    → with_front (map pair_data (take (i + 1) (set room i p)))
    (all_of pair_of (map view (drop (i + 1) vs))) ≡ total
put_more vs room i v p total within fits is read so_far =
    ap (λ front. with_front front (all_of pair_of (map view (drop (i + 1) vs))))
    (ap (map pair_data) (take_more_set room i p fits)
    ∙ map-append pair_data (take i room) (p ∷ []))
    ∙ all_more pair_of vs i v (map pair_data (take i room)) (pair_data p) total within is read
    so_far

-- two lists are alike, element by element, if the rest is
pub alike_more : {A B C : Type 0} (f : A → C) (g : B → C) (xs : List A) (ys : List B) (i : ℕ)
    (d : A) (y : B)
    → i < length xs → i < length ys → y ≡ get_or ys i y → f (get_or xs i d) ≡ g y
    → (map f (drop i xs) ≡ map g (drop i ys) → map f xs ≡ map g ys)
    → map f (drop (i + 1) xs) ≡ map g (drop (i + 1) ys) → map f xs ≡ map g ys
alike_more f g xs ys i d y within also this same so_far rest =
    let ys_here : drop i ys ≡ y ∷ drop (i + 1) ys =
    drop_more ys i y also ∙ ap (λ w. w ∷ drop (i + 1) ys) (sym this) in
    so_far (ap (map f) (drop_more xs i d within) ∙ ap (λ z. z ∷ map f (drop (i + 1) xs)) same
    ∙ ap (λ zs. g y ∷ zs) rest ∙ sym (ap (map g) ys_here))

-- both lists have ended
pub alike_all : {A B C : Type 0} (f : A → C) (g : B → C) (xs : List A) (ys : List B) (i : ℕ)
    → length xs ≤ i → length ys ≤ i
    → (map f (drop i xs) ≡ map g (drop i ys) → map f xs ≡ map g ys) → map f xs ≡ map g ys
alike_all f g xs ys i past also so_far =
    so_far (at_drop_all (map f) xs i past ∙ sym (at_drop_all (map g) ys i also))
