-- A series that is kept, and one that is made anew.
use Rattle.std.proofs.Common.{◌≡◌, ℕ, ◌+◌, ◌<◌, ◌≤◌, cond, true, false, List, [], ◌∷◌, ◌++◌, map}
use Rattle.std.proofs.Common.{drop, get_or, length, Option, Some, None, Ok, Err, refl, ap, sym}
use Rattle.std.proofs.Common.{subst, ◌∙◌}
use Rattle.std.specs.Prelude.{ℤ, Bool, IfSome, IsTrue, option_and_then, option_map}
use Rattle.std.specs.Option.{ForSome}
use Rattle.std.specs.Borrow.{Bor}
use Rattle.std.specs.Result.{result_ok}
use Rattle.std.proofs.lemmas.List.{at_drop_all, drop_more}
use Rattle.serde_json.specs.Data.{Data}
use Rattle.series_id.specs.declared.attributes.Attribute.{Attribute}
use Rattle.series_id.specs.declared.faults.IdFault.TheVariants.{TextTooLong}
use Rattle.series_id.specs.declared.kinds.Kind.{Kind}
use Rattle.series_id.specs.declared.kinds.Kind.TheVariants.{Histogram}
use Rattle.series_id.specs.declared.limits.TheConstants.{MAX_BOUND}
use Rattle.series_id.specs.Bounds.{IsBounds}
use Rattle.series_id.specs.Ascending.{histogram_of}
use Rattle.series_id.specs.Checks.{checked_identity, has_long_text}
use Rattle.series_id.specs.Identity.{Identity, IsIdentity}
use Rattle.series_id.proofs.Again.{bounds_again, identity_again}
use Rattle.otlp_read.specs.Attributes.{attributes_in}
use Rattle.otlp_read.specs.Integers.{signed_in}
use Rattle.otlp_read.specs.Lists.{all_of}
use Rattle.otlp_read.specs.Streams.{Stream, identity_in, series_in, series_of}
use Rattle.otlp_protobuf.specs.Wire.{Field}
use Rattle.otlp_protobuf.specs.Fields.{contents, content_at, gathered, joined, numbers, numbers_at}
use Rattle.otlp_protobuf.specs.Fields.{packed, with_first}
use Rattle.otlp_protobuf.specs.inner.SpotViews.{IsSpot}
use Rattle.otlp_protobuf.specs.inner.Parts.{part_with}
use Rattle.otlp_protobuf.specs.Members.{double_data}
use Rattle.otlp_protobuf.specs.declared.known_set.KnownSet.{KnownSet}
use Rattle.otlp_protobuf.specs.inner.KindViews.{bounds_kind, says_kind}
use Rattle.otlp_protobuf.specs.inner.Sets.{said_list}

-- ---- series

-- a share of a kept series is the series of its attributes
pub share_known : (r : Option Identity) (stream : Stream) (kind : Option Kind) (known : Bool)
    (kept messages : List (List ℕ))
    → IfSome r (λ s. (ms : List (List ℕ)) → (IsTrue known → kept ≡ ms)
    → option_and_then (λ k. series_of stream k (said_list ms)) kind ≡ Some s)
    → (IsTrue known → kept ≡ messages)
    → ForSome r
    (λ s. option_and_then (λ k. series_of stream k (said_list messages)) kind ≡ Some s)
share_known None stream kind known kept messages share same = λ s is. cc
share_known (Some x) stream kind known kept messages share same = λ s is. share messages same ∙ is

-- an identity of the stream is the series of its kind and its attributes there
pub series_known : (stream : Stream) (kind : Option Kind) (found : Option Data) (x : Identity)
    → IsIdentity x → identity_in stream x.kind x.attrs ≡ x
    → kind ≡ Some x.kind → attributes_in found ≡ Some x.attrs
    → option_and_then (λ k. series_of stream k found) kind ≡ Some x
unfolding series_of series_in
series_known stream kind found x whole within same are =
    ap (option_and_then (λ k. option_and_then (series_in stream k) (attributes_in found))) same
    ∙ ap (option_and_then (series_in stream x.kind)) are
    ∙ ap (λ y. result_ok (checked_identity y)) within
    ∙ ap result_ok (identity_again x whole)

checked_is : (x s : Identity) → result_ok (checked_identity x) ≡ Some s → x ≡ s
checked_is x s h =
    elim (has_long_text x) as (λ b. result_ok (cond b (Err TextTooLong) (Ok x)) ≡ Some s → x ≡ s) [
      | true ↦ λ e. cc
      | false ↦ λ e. cc
    ] h

-- what is kept of a series: its resource is the stream's, and its attributes are those of the list
pub record HasParts (stream : Stream) (found : Option Data) (x : Identity) : Type 0 where
  pub resource : stream.scope.resource ≡ x.resource
  pub attributes : attributes_in found ≡ Some x.attrs

pub series_parts : (stream : Stream) (kind : Option Kind) (found : Option Data) (x : Identity)
    → option_and_then (λ k. series_of stream k found) kind ≡ Some x → HasParts stream found x
unfolding series_of series_in
series_parts stream None found x is = absurd cc
series_parts stream (Some k) found x is = from_set (attributes_in found) refl is
  where
    from_set : (set : Option (List Attribute)) → attributes_in found ≡ set
        → option_and_then (series_in stream k) set ≡ Some x → HasParts stream found x
    from_set None said is = absurd cc
    from_set (Some attributes) said is =
        let same : identity_in stream k attributes ≡ x =
        checked_is (identity_in stream k attributes) x is in
        record {
          resource = ap (λ (y : Identity). y.resource) same;
          attributes =
              said ∙ ap (λ (y : Identity). Some y.attrs) same;
        }

-- its kind
pub series_kind : (stream : Stream) (kind : Option Kind) (found : Option Data) (x : Identity)
    → option_and_then (λ k. series_of stream k found) kind ≡ Some x → kind ≡ Some x.kind
unfolding series_of series_in
series_kind stream None found x is = absurd cc
series_kind stream (Some k) found x is = from_set (attributes_in found) is
  where
    from_set : (set : Option (List Attribute)) → option_and_then (series_in stream k) set ≡ Some x
        → Some k ≡ Some x.kind
    from_set None is = absurd cc
    from_set (Some attributes) is =
        ap (λ (y : Identity). Some y.kind) (checked_is (identity_in stream k attributes) x is)

-- ---- bounds

-- what packed bounds say, where they are all numbers of the field
pub says : (bytes : List ℕ) (ns : List ℕ) (k : Kind) → packed bytes ++ [] ≡ ns
    → bounds_kind (map double_data ns) ≡ Some k → says_kind bytes k
says bytes ns k all is = ap (λ xs. bounds_kind (map double_data xs)) all ∙ is

-- bounds of the same bytes
pub says_same : (bytes same : List ℕ) (ns : List ℕ) (k : Kind) → packed same ++ [] ≡ ns
    → bytes ≡ same → says_kind bytes k → bounds_kind (map double_data ns) ≡ Some k
says_same bytes same ns k all equal is =
    ap (λ xs. bounds_kind (map double_data xs)) (sym all)
    ∙ ap (λ b. bounds_kind (map double_data (packed b ++ []))) (sym equal) ∙ is

-- one more of the numbers is a bound
pub bounds_more : (ns : List ℕ) (n : ℕ) (rest ms : List ℕ) (bounds : List ℤ) (i : ℕ) (b : ℤ)
    → i < length bounds
    → ns ≡ n ∷ rest → signed_in MAX_BOUND MAX_BOUND (double_data n) ≡ Some (get_or bounds i b)
    → (all_of (signed_in MAX_BOUND MAX_BOUND) (map double_data ns) ≡ Some (drop i bounds)
    → all_of (signed_in MAX_BOUND MAX_BOUND) (map double_data ms) ≡ Some bounds)
    → all_of (signed_in MAX_BOUND MAX_BOUND) (map double_data rest) ≡ Some (drop (i + 1) bounds)
    → all_of (signed_in MAX_BOUND MAX_BOUND) (map double_data ms) ≡ Some bounds
unfolding all_of
bounds_more ns n rest ms bounds i b within is read before after =
    before (ap (λ xs. all_of (signed_in MAX_BOUND MAX_BOUND) (map double_data xs)) is
    ∙ ap (option_and_then (λ y. option_and_then (λ xs. Some (y ∷ xs))
    (all_of (signed_in MAX_BOUND MAX_BOUND) (map double_data rest)))) read
    ∙ ap (option_and_then (λ xs. Some (get_or bounds i b ∷ xs))) after
    ∙ ap (λ xs. Some xs) (sym (drop_more bounds i b within)))

-- none is left
pub bounds_done : (ns ms : List ℕ) (bounds : List ℤ) (i : ℕ) → ns ≡ [] → length bounds ≤ i
    → (all_of (signed_in MAX_BOUND MAX_BOUND) (map double_data ns) ≡ Some (drop i bounds)
    → all_of (signed_in MAX_BOUND MAX_BOUND) (map double_data ms) ≡ Some bounds)
    → all_of (signed_in MAX_BOUND MAX_BOUND) (map double_data ms) ≡ Some bounds
unfolding all_of
bounds_done ns ms bounds i none past before =
    before (ap (λ xs. all_of (signed_in MAX_BOUND MAX_BOUND) (map double_data xs)) none
    ∙ sym (at_drop_all (λ xs. Some xs) bounds i past))

-- bounds within their limits are those of their kind
pub kind_again : (ds : List Data) (bounds : List ℤ) → IsBounds bounds
    → all_of (signed_in MAX_BOUND MAX_BOUND) ds ≡ Some bounds
    → bounds_kind ds ≡ Some (Histogram bounds)
kind_again ds bounds within read =
    ap (option_and_then (λ found. result_ok (histogram_of found))) read
    ∙ ap result_ok (bounds_again bounds within)

-- ---- fields

-- one more of the fields is taken
pub gathered_more : {A : Type 0} (takes : A → Field → A) (a b total : A) (fs : List Field)
    (f : Field) (rest : List Field)
    → b ≡ takes a f → fs ≡ f ∷ rest → gathered takes a fs ≡ total → gathered takes b rest ≡ total
gathered_more takes a b total fs f rest taken is so_far =
    ap (λ x. gathered takes x rest) taken ∙ ap (gathered takes a) (sym is) ∙ so_far

-- ---- messages in parts

part_joined : (found part : Option (List ℕ)) (parts : List (List ℕ))
    → joined found (with_first part parts) ≡ joined (joined found (with_first part [])) parts
part_joined found None parts = refl
part_joined found (Some b) parts = refl

-- one more field
pub part_more : (n : ℕ) (a b total : Option (List ℕ)) (fs : List Field) (f : Field)
    (rest : List Field) → fs ≡ f ∷ rest → b ≡ part_with n a f
    → joined a (contents n fs) ≡ total → joined b (contents n rest) ≡ total
unfolding contents
part_more n a b total fs f rest is put so_far =
    ap (λ o. joined o (contents n rest)) put
    ∙ sym (part_joined a (content_at n f) (contents n rest))
    ∙ ap (λ xs. joined a (contents n xs)) (sym is) ∙ so_far

-- no field is left
pub part_done : (n : ℕ) (a total : Option (List ℕ)) (fs : List Field) → fs ≡ []
    → joined a (contents n fs) ≡ total → a ≡ total
unfolding contents
part_done n a total fs none so_far = ap (λ xs. joined a (contents n xs)) (sym none) ∙ so_far

-- ---- the numbers of a list that one field may have

pub spot_field : (n : ℕ) (spot : Option (Bor (List ℕ))) (fs : List Field) (f : Field)
    (rest : List Field) (all : List ℕ)
    → fs ≡ f ∷ rest → IsSpot spot (numbers n fs) all
    → IsSpot spot (numbers_at n f ++ numbers n rest) all
unfolding numbers
spot_field n spot fs f rest all is in_spot =
    subst (λ ns. IsSpot spot ns all) (ap (numbers n) is) in_spot

pub spot_done : (n : ℕ) (spot : Option (Bor (List ℕ))) (fs : List Field) (all : List ℕ) → fs ≡ []
    → IsSpot spot (numbers n fs) all → IsSpot spot [] all
unfolding numbers
spot_done n spot fs all is in_spot = subst (λ ns. IsSpot spot ns all) (ap (numbers n) is) in_spot

-- ---- a set that may be none

pub sets_of : (r : Option (Bor KnownSet)) (o : Option KnownSet) → option_map (λ k. k.now) r ≡ o
    → option_map (λ k. k.now.set) r ≡ option_map (λ k. k.set) o
sets_of None o is = ap (option_map (λ (k : KnownSet). k.set)) is
sets_of (Some k) o is = ap (option_map (λ (k : KnownSet). k.set)) is
