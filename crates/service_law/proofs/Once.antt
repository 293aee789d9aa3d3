-- In points that are in turn none comes twice.
use Rattle.std.proofs.Common.{◌≡◌, ℕ, suc, ◌==◌, Bool, true, false, not, ◌&&◌, ◌⊎◌, inl, inr}
use Rattle.std.proofs.Common.{⊎_elim, List, [], ◌∷◌, ◌++◌, map, refl, ap, sym, ◌∙◌, subst, arith}
use Rattle.std.specs.Prelude.{nat_le, nat_lt}
use Rattle.std.specs.List.{list_all}
use Rattle.std.proofs.lemmas.Bool.{and_parts, and_from, and_left, and_right, or_cases, cond-true}
use Rattle.std.proofs.lemmas.Bool.{cond-false, leb-true, ltb-true, eqb-true, eq-eqb, ne_eqb}
use Rattle.series_id.specs.Order.{same_series}
use Rattle.series_id.proofs.Order.{same_series-refl}
use Rattle.metric_events.specs.DataPoint.{DataPoint}
use Rattle.metric_events.specs.Points.{admitted}
use Rattle.metric_events.specs.Senders.{same_sender}
use Rattle.metric_events.specs.Legal.{is_clear}
use Rattle.metric_events.specs.Recovery.{are_in_turn, bare_points}
use Rattle.metric_events.specs.Recall.{posted}
use Rattle.metric_events.specs.declared.accepted.Accepted.{Accepted}
use Rattle.metric_events.specs.declared.batch.Batch.{Batch}
use Rattle.metric_events.proofs.Identities.{same_series-turned}
use Rattle.metric_events.proofs.Lists.{all_last}
use Rattle.metric_events.proofs.Recovering.{turn_clearer}
use Rattle.service_law.specs.Machine.{has_span}
use Rattle.service_law.specs.Counted.{IsOne, is_same_point, times}

-- it is the point of one of these
abbrev pub IsPointOf : DataPoint → List Accepted → Type 0
IsPointOf d [] = ⊥
IsPointOf d (a ∷ qs) = (a.point ≡ d) ⊎ IsPointOf d qs

abbrev pub spanned : Accepted → Bool
spanned a = has_span a.point

-- a point that may come after another, and has a span, is another point
apart : (a b : Accepted) → is_clear b.sender b.point a.point a.sender ≡ true → spanned b ≡ true
    → is_same_point b.point a ≡ false
apart a b c s = ⊎_elim (λ n. and_left _ _ (not-true' n))
    (λ m. and_right _ _ (ends (and_parts (same_sender a.sender b.sender)
    (nat_le a.point.span.end b.point.span.start) m).1))
    (or_cases (not (same_series a.point.series b.point.series))
    (same_sender a.sender b.sender && nat_le a.point.span.end b.point.span.start) c)
  where
    not-true' : not (same_series a.point.series b.point.series) ≡ true
        → same_series a.point.series b.point.series ≡ false
    not-true' n = by (same_series a.point.series b.point.series) n
      where
        by : (v : Bool) → not v ≡ true → v ≡ false
        by true e = cc e
        by false e = refl

    ends : nat_le a.point.span.end b.point.span.start ≡ true
        → (a.point.span.end == b.point.span.end) ≡ false
    ends h = ne_eqb _ _ (λ e. absurd (omega (
      arith,
      e,
      leb-true _ _ h,
      ltb-true
          _ _ (and_parts (nat_le 1 b.point.span.start)
          (nat_lt b.point.span.start b.point.span.end) s).1,
    )))

-- the same, the other way round
apart_back : (a b : Accepted) → is_clear b.sender b.point a.point a.sender ≡ true → spanned b ≡ true
    → is_same_point a.point b ≡ false
apart_back a b c s = by (is_same_point a.point b) refl
  where
    by : (v : Bool) → is_same_point a.point b ≡ v → is_same_point a.point b ≡ false
    by false e = e
    by true e =
        let l = and_parts (same_series b.point.series a.point.series)
        (b.point.span.end == a.point.span.end) e in
        let back : is_same_point b.point a ≡ true =
        and_from _ _ (same_series-turned a.point.series b.point.series ∙ l.0)
        (eq-eqb _ _ (sym (eqb-true _ _ l.1))) in
        absurd (let q : true ≡ false = sym back ∙ apart a b c s in cc q)

-- none behind a point is the same
none_behind : (a : Accepted) (bs qs : List Accepted) → are_in_turn (a ∷ bs) qs ≡ true
    → list_all spanned qs ≡ true → times a.point qs ≡ 0
none_behind a bs [] h s = refl
none_behind a bs (b ∷ qs) h s =
    let l = and_parts (list_all (λ q. is_clear b.sender b.point q.point q.sender) (a ∷ bs))
    (are_in_turn (a ∷ (bs ++ b ∷ [])) qs) h in
    let c = and_parts (is_clear b.sender b.point a.point a.sender)
    (list_all (λ q. is_clear b.sender b.point q.point q.sender) bs) l.0 in
    let m = and_parts (spanned b) (list_all spanned qs) s in
    cond-false (is_same_point a.point b) _ _ (apart_back a b c.0 m.0)
    ∙ none_behind a (bs ++ b ∷ []) qs l.1 m.1

-- a point that is behind another is another one
other_before : (a : Accepted) (bs qs : List Accepted) (d : DataPoint)
    → are_in_turn (a ∷ bs) qs ≡ true → list_all spanned qs ≡ true → IsPointOf d qs
    → is_same_point d a ≡ false
other_before a bs [] d h s i = absurd i
other_before a bs (b ∷ qs) d h s i =
    let l = and_parts (list_all (λ q. is_clear b.sender b.point q.point q.sender) (a ∷ bs))
    (are_in_turn (a ∷ (bs ++ b ∷ [])) qs) h in
    let c = and_parts (is_clear b.sender b.point a.point a.sender)
    (list_all (λ q. is_clear b.sender b.point q.point q.sender) bs) l.0 in
    let m = and_parts (spanned b) (list_all spanned qs) s in
    ⊎_elim (λ e. subst (λ (p : DataPoint). is_same_point p a ≡ false) e (apart a b c.0 m.0))
    (λ j. other_before a (bs ++ b ∷ []) qs d l.1 m.1 j) i

is_itself : (a : Accepted) (d : DataPoint) → a.point ≡ d → is_same_point d a ≡ true
is_itself a d e = subst (λ (p : DataPoint). is_same_point p a ≡ true) e
    (and_from _ _ (same_series-refl a.point.series) (eq-eqb _ _ refl))

pub once : (bs qs : List Accepted) (d : DataPoint) → are_in_turn bs qs ≡ true
    → list_all spanned qs ≡ true → IsPointOf d qs → times d qs ≡ 1
once bs [] d h s i = absurd i
once bs (a ∷ qs) d h s i =
    let l = and_parts (list_all (λ q. is_clear a.sender a.point q.point q.sender) bs)
    (are_in_turn (bs ++ a ∷ []) qs) h in
    let m = and_parts (spanned a) (list_all spanned qs) s in
    let alone : are_in_turn (a ∷ []) qs ≡ true =
    turn_clearer qs (bs ++ a ∷ []) (a ∷ [])
    (record { all = λ t p k. all_last (λ q. is_clear t p q.point q.sender) bs (a ∷ []) k })
    l.1 in
    ⊎_elim
    (λ e. cond-true (is_same_point d a) _ _ (is_itself a d e)
    ∙ ap suc (subst (λ (p : DataPoint). times p qs ≡ 0) e (none_behind a [] qs alone m.1)))
    (λ j. cond-false (is_same_point d a) _ _ (other_before a [] qs d alone m.1 j)
    ∙ once (bs ++ a ∷ []) qs d l.1 m.1 j)
    i

-- a point of a post is one of the points of posts

of_post : (s : List ℕ) (ds : List DataPoint) (d : DataPoint) (us : List Accepted) → IsOne d ds
    → IsPointOf d (map (admitted 0 s) ds ++ us)
of_post s [] d us i = absurd i
of_post s (e ∷ ds) d us i = ⊎_elim (λ h. inl h) (λ j. inr (of_post s ds d us j)) i

behind_others : (d : DataPoint) (qs us : List Accepted) → IsPointOf d us → IsPointOf d (qs ++ us)
behind_others d [] us i = i
behind_others d (a ∷ qs) us i = inr (behind_others d qs us i)

pub of_posts : (ps : List Batch) (p : Batch) (d : DataPoint) → IsOne p ps → IsOne d p.points
    → IsPointOf d (posted ps)
of_posts [] p d i j = absurd i
of_posts (q ∷ ps) p d i j =
    ⊎_elim (λ e. of_post q.sender q.points d (posted ps)
    (subst (λ (r : Batch). IsOne d r.points) (sym e) j))
    (λ k. behind_others d (bare_points q) (posted ps) (of_posts ps p d k j)) i
