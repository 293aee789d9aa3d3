-- The points of all rounds of a life, each as it is now, stand as the history of the last round.
use Rattle.std.proofs.Common.{◌≡◌, Bool, true, false, cond, ◌&&◌, ◌||◌, List, [], ◌∷◌, ◌++◌, map}
use Rattle.std.proofs.Common.{max, refl, ap, sym, ◌∙◌, subst, None}
use Rattle.std.specs.List.{list_any, list_all}
use Rattle.std.proofs.lemmas.Bool.{and_parts, and_from}
use Rattle.std.proofs.lemmas.List.Folds.{list_any-append}
use Rattle.series_id.specs.Identity.{Identity, row_length}
use Rattle.series_id.proofs.Order.{same_series-refl}
use Rattle.metric_events.specs.History.{History, Opened, ◌then◌}
use Rattle.metric_events.specs.Points.{points, is_home, is_flying, at}
use Rattle.metric_events.specs.Series.{is_of, owner, frontier, hull}
use Rattle.metric_events.specs.Legal.{IsLegal}
use Rattle.metric_events.specs.Close.{close}
use Rattle.metric_events.specs.Congruence.{StandAlike, IsCalm, lived, AreRounds}
use Rattle.metric_events.specs.declared.accepted.Accepted.{Accepted}
use Rattle.metric_events.specs.declared.place.Place.{Place}
use Rattle.metric_events.specs.declared.place.Place.TheVariants.{InFlight}
use Rattle.metric_events.specs.Recall.{moved, news, unfolded}
use Rattle.metric_events.proofs.Lists.{all_append, all_first, all_last}
use Rattle.metric_events.proofs.Moves.{rides, rides_at}
use Rattle.metric_events.proofs.Bare.{owner_append, frontier_append}
use Rattle.metric_events.proofs.Behind.{behind, undoes_own}
use Rattle.metric_events.proofs.Kept.{is_settled_at, no_ride, moved_owner, moved_frontier}
use Rattle.metric_events.proofs.Kept.{moved_any}
use Rattle.metric_events.proofs.Closing.{closed_is}
use Rattle.metric_events.proofs.Recovering.{alike_known}
use Rattle.metric_events.proofs.Lasting.{not_flying, not_home}
use Rattle.metric_events.proofs.Congruence.{Weigh, weigh_append, weigh_maps, route, chosen}
use Rattle.metric_events.proofs.Congruence.{chosen_first, chosen_append, chosen_moved}
use Rattle.metric_events.proofs.CongruentClose.{closed_alike}

-- these points stand as E
pub record StandsAs (E : History) (qs : List Accepted) : Type 0 where
  pub known : (x : Identity) → list_any (is_of x) qs ≡ list_any (is_of x) (points E)
  pub owners : (x : Identity) → owner x qs ≡ owner x (points E)
  pub frontiers : (x : Identity) → frontier x qs ≡ frontier x (points E)
  pub weights : (x : Identity)
      → Weigh (row_length x.kind) (chosen is_home x (points E)) (chosen is_home x qs)
  pub still : list_all (rides []) qs ≡ true

-- no point is in flight where none of any series is

lands : (x : Identity) (q : Place) → is_flying q ≡ false → rides_at [] x q ≡ true
lands x (InFlight f) h = absurd (let q : true ≡ false = h in cc)
lands x q h = refl

lies : (x : Identity) (q : Place) → rides_at [] x q ≡ true → is_flying q ≡ false
lies x (InFlight f) h = absurd (let q : false ≡ true = h in cc)
lies x q h = refl

none_up : (x : Identity) (qs : List Accepted) → list_all (rides []) qs ≡ true
    → chosen is_flying x qs ≡ []
none_up x [] h = refl
none_up x (a ∷ qs) h =
    let l = and_parts (rides [] a) (list_all (rides []) qs) h in
    chosen_first is_flying x a qs ∙ (ap
    (λ v. cond (is_of x a && v) (a ∷ chosen is_flying x qs) (chosen is_flying x qs))
    (lies a.point.series a.place l.0)
    ∙ (neither (is_of x a) (a ∷ chosen is_flying x qs) (chosen is_flying x qs)
    ∙ none_up x qs l.1))
  where
    neither : (v : Bool) (us vs : List Accepted) → cond (v && false) us vs ≡ vs
    neither true us vs = refl
    neither false us vs = refl

all_down : (qs : List Accepted) → ((x : Identity) → chosen is_flying x qs ≡ [])
    → list_all (rides []) qs ≡ true
all_down [] h = refl
all_down (a ∷ qs) h = and_from (rides [] a) (list_all (rides []) qs)
    (lands a.point.series a.place (down (is_flying a.place) refl))
    (all_down qs (λ x. rest x (is_of x a && is_flying a.place) refl))
  where
    down : (v : Bool) → is_flying a.place ≡ v → is_flying a.place ≡ false
    down false e = e
    down true e = absurd (let q = sym
        (chosen_first is_flying a.point.series a qs
        ∙ (ap (λ v. cond (v && is_flying a.place) (a ∷ chosen is_flying a.point.series qs)
        (chosen is_flying a.point.series qs)) (same_series-refl a.point.series)
        ∙ ap (λ v. cond v (a ∷ chosen is_flying a.point.series qs)
        (chosen is_flying a.point.series qs)) e)) ∙ h a.point.series in cc)

    rest : (x : Identity) (v : Bool) → (is_of x a && is_flying a.place) ≡ v
        → chosen is_flying x qs ≡ []
    rest x false e = sym (chosen_first is_flying x a qs
        ∙ ap (λ v. cond v (a ∷ chosen is_flying x qs) (chosen is_flying x qs)) e) ∙ h x
    rest x true e = absurd (let q = sym
        (chosen_first is_flying x a qs
        ∙ ap (λ v. cond v (a ∷ chosen is_flying x qs) (chosen is_flying x qs)) e) ∙ h x in cc)

-- one round

pub round_stands : (E G : History) (qs : List Accepted) → StandsAs E qs → IsCalm E
    → IsLegal (E then G) → IsCalm (E then G) → StandsAs (E then G) (moved G qs ++ news G)
round_stands E G qs s c l d = record {
  known = λ x. list_any-append (is_of x) (moved G qs) (news G)
      ∙ (ap (λ v. v || list_any (is_of x) (news G))
      (moved_any x G qs ∙ (s.known x ∙ sym (moved_any x G (points E))))
      ∙ sym (ap (list_any (is_of x)) whole
      ∙ list_any-append (is_of x) (moved G (points E)) (news G)));
  owners = λ x.
      owner_append x (moved G qs) (news G)
      ∙ (ap (λ v. cond v (owner x (moved G qs)) (owner x (news G)))
      (moved_any x G qs ∙ (s.known x ∙ sym (moved_any x G (points E))))
      ∙ (ap (λ t. cond (list_any (is_of x) (moved G (points E))) t (owner x (news G)))
      (moved_owner x G qs ∙ (s.owners x ∙ sym (moved_owner x G (points E))))
      ∙ sym (ap (owner x) whole ∙ owner_append x (moved G (points E)) (news G))));
  frontiers = λ x.
      frontier_append x (moved G qs) (news G)
      ∙ (ap (λ n. max n (frontier x (news G)))
      (moved_frontier x G qs ∙ (s.frontiers x ∙ sym (moved_frontier x G (points E))))
      ∙ sym (ap (frontier x) whole ∙ frontier_append x (moved G (points E)) (news G)));
  weights = λ x.
      subst (λ (us : List Accepted). Weigh (row_length x.kind) us
      (chosen is_home x (moved G qs ++ news G)))
      (sym (ap (chosen is_home x) whole
      ∙ chosen_append is_home x (moved G (points E)) (news G)))
      (subst (λ (us : List Accepted). Weigh (row_length x.kind)
      (chosen is_home x (moved G (points E)) ++ chosen is_home x (news G)) us)
      (sym (chosen_append is_home x (moved G qs) (news G)))
      (weigh_append (row_length x.kind) (chosen is_home x (moved G (points E)))
      (chosen is_home x (moved G qs)) (chosen is_home x (news G)) (chosen is_home x (news G))
      (olds is_home not_home x) (record { span = refl; row = refl })));
  still = all_append (rides []) (moved G qs) (news G)
      (all_down (moved G qs) (λ x. nothing (chosen is_flying x (moved G qs))
      ((olds is_flying not_flying x).span
      ∙ ap hull (none_up x (moved G (points E))
      (all_first (rides []) (moved G (points E)) (news G) still_then)))))
      (all_last (rides []) (moved G (points E)) (news G) still_then);
}
  where
    whole : points (E then G) ≡ moved G (points E) ++ news G
    whole = behind E G (undoes_own E G c.batches l)

    still_then : list_all (rides []) (moved G (points E) ++ news G) ≡ true
    still_then = sym (ap (list_all (rides [])) whole) ∙ no_ride (E then G) d.live

    nothing : (us : List Accepted) → hull us ≡ None → us ≡ []
    nothing [] h = refl
    nothing (a ∷ us) h = absurd (let q = h in cc)

    olds : (t : Place → Bool) → ((q : Place) → is_settled_at q ≡ true → t q ≡ false)
        → (x : Identity)
        → Weigh (row_length x.kind) (chosen t x (moved G (points E))) (chosen t x (moved G qs))
    olds t u x =
        subst (λ (us : List Accepted). Weigh (row_length x.kind) us (chosen t x (moved G qs)))
        (sym (chosen_moved t u G x (points E) (no_ride E c.live)))
        (subst (λ (us : List Accepted). Weigh (row_length x.kind)
        (map (at (route G x)) (cond (t (route G x)) (chosen is_home x (points E)) [])) us)
        (sym (chosen_moved t u G x qs s.still))
        (weigh_maps (row_length x.kind) (at (route G x)) (at (route G x)) (λ a. refl) (λ a. refl)
        (cond (t (route G x)) (chosen is_home x (points E)) [])
        (cond (t (route G x)) (chosen is_home x qs) [])
        (elim (t (route G x)) as (λ v. Weigh (row_length x.kind)
        (cond v (chosen is_home x (points E)) []) (cond v (chosen is_home x qs) []))
        [ true ↦ s.weights x | false ↦ record { span = refl; row = refl } ])))

pub close_stands : (E : History) (qs : List Accepted) → StandsAs E qs → IsLegal E → IsCalm E
    → StandsAs (Opened (close E)) qs
close_stands E qs s l c = record {
  known =
      λ x. s.known x ∙ sym (alike_known E (Opened (close E)) l (closed_is E l) x (h.frontiers x));
  owners = λ x. s.owners x ∙ sym (h.owners x);
  frontiers = λ x. s.frontiers x ∙ sym (h.frontiers x);
  weights = λ x. record {
    span = (s.weights x).span ∙ sym (h.spans x);
    row =
        (s.weights x).row ∙ sym (h.sums x);
  };
  still = s.still;
}
  where
    h : StandAlike E (Opened (close E))
    h = closed_alike E l c

pub unfolded_law : (E : History) (Gs : List History) (qs : List Accepted) → StandsAs E qs → IsCalm E
    → AreRounds E Gs → StandsAs (lived E Gs) (unfolded qs Gs)
unfolded_law E [] qs s c r = s
unfolded_law E (G ∷ Gs) qs s c r =
    unfolded_law (Opened (close (E then G))) Gs (moved G qs ++ news G)
    (close_stands (E then G) (moved G qs ++ news G) (round_stands E G qs s c r.0 r.1) r.0 r.1)
    (record { batches = refl; live = refl }) r.2

-- a history's own points stand as it
pub itself_stands : (E : History) → IsCalm E → StandsAs E (points E)
itself_stands E c = record {
  known = λ x. refl;
  owners = λ x. refl;
  frontiers = λ x. refl;
  weights =
      λ x. record { span = refl; row = refl };
  still = no_ride E c.live;
}
