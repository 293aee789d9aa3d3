-- The attributes of a list, and the series that they make.
use Rattle.std.proofs.Common.{◌≡◌, ℕ, ◌+◌, ◌<◌, List, [], ◌∷◌, map, take, set, length, Option, Some}
use Rattle.std.proofs.Common.{None, refl, ap, sym, ◌∙◌}
use Rattle.std.specs.Prelude.{option_and_then, IfSome, IsPermutation}
use Rattle.std.specs.Result.{result_ok}
use Rattle.std.proofs.lemmas.List.{take_more_set, map-append}
use Rattle.std.proofs.lemmas.List.Sorted.{IsPermutation-map}
use Rattle.serde_json.specs.Data.{Data}
use Rattle.series_id.specs.declared.attributes.Attribute.{Attribute}
use Rattle.series_id.specs.declared.faults.AttrFault.{AttrFault}
use Rattle.series_id.specs.declared.kinds.Kind.{Kind}
use Rattle.series_id.specs.Identity.{Identity}
use Rattle.series_id.specs.declared.values.AttrValue.{AttrValue}
use Rattle.series_id.specs.Pairs.{attr_refusal}
use Rattle.series_id.specs.Attributes.{IsAttrSet}
use Rattle.series_id.specs.Sorting.{pair_of as pair_in, sorted_by_key, set_unless}
use Rattle.series_id.proofs.Again.{set_again}
use Rattle.series_id.proofs.OneSet.{set_moved}
use Rattle.otlp_read.specs.Rules.{unless}
use Rattle.otlp_read.specs.Lists.{all_of, list_in}
use Rattle.otlp_read.specs.Attributes.{pair_of, set_of, attributes_in}
use Rattle.otlp_read.specs.Streams.{Stream, series_in, series_of}
use Rattle.otlp_read.proofs.ListLemmas.{with_front}
use Rattle.json_points.proofs.ListLemmas.{one_more}
use Rattle.json_points.specs.declared.scalar_ref.PairRef.{PairRef}
use Rattle.json_points.specs.inner.RefViews.{pair_data}

-- one more pair of a list is in the room
pub pairs_more : (room : List PairRef) (i : ℕ) (p : PairRef) (ds : List Data) (d : Data)
    (rest : List Data) (total : Option (List (List ℕ × AttrValue)))
    → i < length room → ds ≡ d ∷ rest → pair_of d ≡ Some (pair_data p)
    → with_front (map pair_data (take i room)) (all_of pair_of ds) ≡ total
    → with_front (map pair_data (take (i + 1) (set room i p))) (all_of pair_of rest) ≡ total
pairs_more room i p ds d rest total fits is read so_far =
    ap (λ f. with_front f (all_of pair_of rest))
    (ap (map pair_data) (take_more_set room i p fits)
    ∙ map-append pair_data (take i room) (p ∷ []))
    ∙ one_more pair_of (map pair_data (take i room)) (pair_data p) ds d rest total is read so_far

unless_is : (fault : Option AttrFault) (pairs : List Attribute)
    → unless fault pairs ≡ result_ok (set_unless fault pairs)
unless_is None pairs = refl
unless_is (Some fault) pairs = refl

-- the same pairs in another order are the same set
set_of_moved : (ps qs : List (List ℕ × AttrValue)) → IsPermutation ps qs → set_of ps ≡ set_of qs
unfolding set_of
set_of_moved ps qs m = unless_is (attr_refusal ps) (sorted_by_key ps)
    ∙ ap result_ok (set_moved ps qs m) ∙ sym (unless_is (attr_refusal qs) (sorted_by_key qs))

-- the pairs of a set are that set
pub set_is : (pairs : List (List ℕ × AttrValue)) (own : List Attribute) → IsAttrSet own
    → pairs ≡ map pair_in own → set_of pairs ≡ Some own
unfolding set_of
set_is pairs own h are = ap set_of are
    ∙ unless_is (attr_refusal (map pair_in own)) (sorted_by_key (map pair_in own))
    ∙ ap result_ok (set_again own h)

-- the set of the sorted pairs is the set of the list
pub set_moved_back : (found : Option Data) (front sorted : List PairRef)
    (r : Option (List Attribute))
    → list_in pair_of found ≡ Some (map pair_data front) → IsPermutation front sorted
    → IfSome r (λ x. set_of (map pair_data sorted) ≡ Some x)
    → IfSome r (λ x. attributes_in found ≡ Some x)
unfolding attributes_in
set_moved_back found front sorted None list moved there = tt
set_moved_back found front sorted (Some x) list moved there =
    ap (option_and_then set_of) list ∙ set_of_moved (map pair_data front) (map pair_data sorted)
    (IsPermutation-map pair_data front sorted moved) ∙ there

-- the series of the sorted pairs is the series of the list
pub series_moved : (stream : Stream) (kind : Kind) (found : Option Data)
    (front sorted : List PairRef) (r : Option Identity)
    → list_in pair_of found ≡ Some (map pair_data front) → IsPermutation front sorted
    → IfSome r (λ x. option_and_then (series_in stream kind) (set_of (map pair_data sorted))
    ≡ Some x) → IfSome r (λ x. series_of stream kind found ≡ Some x)
unfolding series_of attributes_in
series_moved stream kind found front sorted None list moved there = tt
series_moved stream kind found front sorted (Some x) list moved there =
    ap (λ o. option_and_then (series_in stream kind) (option_and_then set_of o)) list
    ∙ ap (option_and_then (series_in stream kind))
    (set_of_moved (map pair_data front) (map pair_data sorted)
    (IsPermutation-map pair_data front sorted moved))
    ∙ there
