-- The constructors of series and points, against the definitions.
use Rattle.std.proofs.Common.{◌≡◌, ◌≢◌, Option, Some, None, ℤ, subst, Result, Ok, Err, IfOk, IfErr}
use Rattle.std.proofs.Common.{OnOk, unwrap_or, List, true, false, refl, sym, ap, ◌∙◌, cond}
use Rattle.std.specs.Result.{result_ok}
use Rattle.series_id.specs.Identity.{Identity}
use Rattle.series_id.specs.Checks.{checked_identity, has_long_text}
use Rattle.series_id.specs.declared.attributes.Attribute.{Attribute}
use Rattle.series_id.specs.declared.kinds.Kind.{Kind}
use Rattle.series_id.specs.declared.faults.IdFault.TheVariants.{TextTooLong}
use Rattle.series_id.specs.declared.kinds.Kind.TheVariants.{Histogram}
use Rattle.series_id.specs.declared.faults.KindFault.{KindFault}
use Rattle.series_id.specs.Ascending.{kind_refusal, kind_unless, histogram_of}
use Rattle.metric_events.specs.PointFaults.{IsHistogram}
use Rattle.otlp_read.specs.Rules.{unless}
use Rattle.std.specs.Prelude.{codes, option_and_then}
use Rattle.serde_json.specs.Data.{Data}
use Rattle.series_id.specs.declared.limits.TheConstants.{MAX_BOUND}
use Rattle.otlp_read.specs.Integers.{signed_in}
use Rattle.otlp_read.specs.Fields.{field}
use Rattle.otlp_read.specs.Histograms.{kind_in}
use Rattle.otlp_read.specs.Lists.{◌>>=◌, list_in}
use Rattle.otlp_read.specs.Attributes.{attributes_in}
use Rattle.otlp_read.specs.Streams.{Stream, identity_in, series_in, series_of}

checked_is : (x s : Identity) → result_ok (checked_identity x) ≡ Some s → x ≡ s
checked_is x s h =
    elim (has_long_text x) as (λ b. result_ok (cond b (Err TextTooLong) (Ok x)) ≡ Some s → x ≡ s) [
      | true ↦ λ e. cc
      | false ↦ λ e. cc
    ] h

-- a series has the kind that it was made of
pub kind_of_series : (stream : Stream) (kind : Kind) (attributes : List Attribute) (s : Identity)
    → series_in stream kind attributes ≡ Some s → kind ≡ s.kind
unfolding series_in
kind_of_series stream kind attributes s h =
    ap (λ (x : Identity). x.kind) (checked_is (identity_in stream kind attributes) s h)

-- so has one of an attribute list
pub kind_of_known : (stream : Stream) (kind : Kind) (found : Option Data) (s : Identity)
    → series_of stream kind found ≡ Some s → kind ≡ s.kind
unfolding series_of
kind_of_known stream kind found s h = from_set (attributes_in found) h
  where
    from_set : (attributes : Option (List Attribute))
        → option_and_then (series_in stream kind) attributes ≡ Some s → kind ≡ s.kind
    from_set None h = absurd cc
    from_set (Some attributes) h = kind_of_series stream kind attributes s h

made_kind : (fault : Option KindFault) (bounds : List ℤ) (kind : Kind)
    → result_ok (kind_unless fault (Histogram bounds)) ≡ Some kind → IsHistogram kind
made_kind None bounds kind h = let e : Histogram bounds ≡ kind = cc in subst IsHistogram e tt
made_kind (Some fault) bounds kind h = absurd cc

-- a histogram's kind is one
pub kind_of_histogram : (bounds : List ℤ) (kind : Kind)
    → result_ok (histogram_of bounds) ≡ Some kind → IsHistogram kind
unfolding kind_refusal
kind_of_histogram bounds kind h = made_kind (kind_refusal bounds) bounds kind h

-- what a constructor answers, where memory did not run out
pub allowed : {A F : Type 0} (r : Result A F) (fault : Option F) (memory : F) (p : A)
    → IfOk r (λ q. q ≡ p) → OnOk r (fault ≡ None) → IfErr r (λ e. e ≡ unwrap_or fault memory)
    → r ≢ Err memory → result_ok r ≡ unless fault p
allowed (Ok q) fault memory p value none refused there =
    ap (λ x. Some x) value ∙ ap (λ f. unless f p) (sym none)
allowed (Err e) None memory p value none refused there = absurd (there (ap (λ x. Err x) refused))
allowed (Err e) (Some f) memory p value none refused there = refl

-- what a constructor answers that takes no memory
pub allowed_always : {A F : Type 0} (r : Result A F) (fault : Option F) (p : A)
    → IfOk r (λ q. q ≡ p) → OnOk r (fault ≡ None) → IfErr r (λ e. fault ≡ Some e)
    → result_ok r ≡ unless fault p
allowed_always (Ok q) fault p value none refused =
    ap (λ x. Some x) value ∙ ap (λ f. unless f p) (sym none)
allowed_always (Err e) fault p value none refused = ap (λ f. unless f p) (sym refused)

-- the kind that a point's bounds make
pub kind_is_histogram : (d : Data) (kind : Kind) → kind_in d ≡ Some kind → IsHistogram kind
unfolding kind_in
kind_is_histogram d kind h =
    from_bounds (list_in (signed_in MAX_BOUND MAX_BOUND) (field (codes "explicitBounds") d)) kind h
  where
    from_bounds : (bounds : Option (List ℤ)) (kind : Kind)
        → (bounds >>= λ bs. result_ok (histogram_of bs)) ≡ Some kind → IsHistogram kind
    from_bounds None kind h = absurd cc
    from_bounds (Some bs) kind h = kind_of_histogram bs kind h
