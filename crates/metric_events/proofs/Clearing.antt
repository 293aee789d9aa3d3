-- Whether points are in order lies in the points and senders before them alone, not in the batches.
use Rattle.std.proofs.Common.{◌≡◌, ℕ, Bool, true, List, [], ◌∷◌, ◌++◌, refl}
use Rattle.std.specs.List.{list_all}
use Rattle.std.proofs.lemmas.Bool.{and_parts, and_from}
use Rattle.metric_events.specs.DataPoint.{DataPoint}
use Rattle.metric_events.specs.Points.{admitted}
use Rattle.metric_events.specs.Legal.{is_clear, is_in_order}
use Rattle.metric_events.specs.declared.accepted.Accepted.{Accepted}
use Rattle.metric_events.proofs.Lists.{all_append, all_first, all_last}

-- what holds of each point and sender of qs holds of those of rs
pub record AsClear (qs rs : List Accepted) : Type 0 where
  pub all : (t : DataPoint → List ℕ → Bool) → list_all (λ a. t a.point a.sender) qs ≡ true
      → list_all (λ a. t a.point a.sender) rs ≡ true

clear_push : (b c : ℕ) (s : List ℕ) (p : DataPoint) (qs rs : List Accepted) → AsClear qs rs
    → AsClear (qs ++ admitted b s p ∷ []) (rs ++ admitted c s p ∷ [])
clear_push b c s p qs rs h = record {
  all =
      λ t k. all_append (λ a. t a.point a.sender) rs (admitted c s p ∷ [])
      (h.all t (all_first (λ a. t a.point a.sender) qs (admitted b s p ∷ []) k))
      (all_last (λ a. t a.point a.sender) qs (admitted b s p ∷ []) k);
}

pub in_order_as : (s : List ℕ) (ps : List DataPoint) (qs rs : List Accepted) → AsClear qs rs
    → is_in_order qs s ps ≡ true → is_in_order rs s ps ≡ true
in_order_as s [] qs rs h k = refl
in_order_as s (p ∷ ps) qs rs h k =
    let l = and_parts (list_all (λ a. is_clear s p a.point a.sender) qs)
    (is_in_order (qs ++ admitted 0 s p ∷ []) s ps) k in
    and_from (list_all (λ a. is_clear s p a.point a.sender) rs)
    (is_in_order (rs ++ admitted 0 s p ∷ []) s ps)
    (h.all (λ q t. is_clear s p q t) l.0)
    (in_order_as s ps (qs ++ admitted 0 s p ∷ []) (rs ++ admitted 0 s p ∷ [])
    (clear_push 0 0 s p qs rs h) l.1)

-- the first point of a batch may have the batch's number
pub in_order_numbered : (b : ℕ) (s : List ℕ) (p : DataPoint) (ps : List DataPoint)
    (qs : List Accepted) → is_in_order (qs ++ admitted 0 s p ∷ []) s ps ≡ true
    → is_in_order (qs ++ admitted b s p ∷ []) s ps ≡ true
in_order_numbered b s p ps qs h = in_order_as s ps (qs ++ admitted 0 s p ∷ [])
    (qs ++ admitted b s p ∷ []) (clear_push 0 b s p qs qs (record { all = λ t k. k })) h
