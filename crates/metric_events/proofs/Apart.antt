-- What is pending of many lives may come again in one history, which stands as each life did in the
-- series that it has of it.
use Rattle.std.proofs.Common.{◌≡◌, ℕ, true, cond, List, [], ◌∷◌, ◌++◌, map, max, refl, ap, sym, ◌∙◌}
use Rattle.std.proofs.Common.{subst}
use Rattle.std.specs.List.{list_any, list_all, filter}
use Rattle.std.proofs.lemmas.Bool.{and_parts, and_from}
use Rattle.series_id.specs.Identity.{Identity, row_length}
use Rattle.series_id.specs.Order.{same_series}
use Rattle.series_id.proofs.Order.{same_series-exact}
use Rattle.metric_events.specs.DataPoint.{DataPoint}
use Rattle.metric_events.specs.History.{History, Start}
use Rattle.metric_events.specs.Points.{points, is_home}
use Rattle.metric_events.specs.Running.{held_senders}
use Rattle.metric_events.specs.Series.{is_of, of_series, owner, frontier, hull, row_sum}
use Rattle.metric_events.specs.Standing.{stands}
use Rattle.metric_events.specs.Legal.{IsLegal, is_clear, is_held}
use Rattle.metric_events.specs.Recovery.{bare, homes, is_not_home, are_in_turn, Numbered}
use Rattle.metric_events.specs.Recovery.{all_points, readmitted, quarantined}
use Rattle.metric_events.specs.Congruence.{IsCalm, MayReplay, lived, AreRounds}
use Rattle.metric_events.specs.Recall.{unfolded, KnowsOf, HasPlaceFor, StandsIn}
use Rattle.metric_events.specs.declared.accepted.Accepted.{Accepted}
use Rattle.metric_events.proofs.Lists.{all_append, all_first, all_last, filter_all, filter-map}
use Rattle.metric_events.proofs.Lists.{filter-filter}
use Rattle.metric_events.proofs.Owners.{one_owner}
use Rattle.metric_events.proofs.Fits.{row_sum-map}
use Rattle.metric_events.proofs.Bare.{bare_owner, bare_frontier, bare_hull, owner_append}
use Rattle.metric_events.proofs.Bare.{frontier_append}
use Rattle.metric_events.proofs.Renewing.{owner_own, frontier_own}
use Rattle.metric_events.proofs.Recovering.{clear_known, owner_parts, frontier_parts}
use Rattle.metric_events.proofs.Turns.{keeps_bare, turn_map}
use Rattle.metric_events.proofs.Interleaving.{turn_own, turn_all}
use Rattle.metric_events.proofs.Replaying.{Brings, brought_law}
use Rattle.metric_events.proofs.Congruence.{chosen}
use Rattle.metric_events.proofs.Unfolding.{StandsAs}
use Rattle.metric_events.proofs.Recalling.{life_turn, life_owner}

-- what may come of one series after qs may come after rs
record ClearerOf (x : Identity) (qs rs : List Accepted) : Type 0 where
  all : (s : List ℕ) (p : DataPoint) → same_series p.series x ≡ true
      → list_all (λ a. is_clear s p a.point a.sender) qs ≡ true
      → list_all (λ a. is_clear s p a.point a.sender) rs ≡ true

clearer_push : (x : Identity) (qs rs ts : List Accepted) → ClearerOf x qs rs
    → ClearerOf x (qs ++ ts) (rs ++ ts)
clearer_push x qs rs ts h = record {
  all = λ s p e k. all_append (λ a. is_clear s p a.point a.sender) rs ts
      (h.all s p e (all_first (λ a. is_clear s p a.point a.sender) qs ts k))
      (all_last (λ a. is_clear s p a.point a.sender) qs ts k);
}

turn_of : (x : Identity) (us qs rs : List Accepted) → list_all (is_of x) us ≡ true
    → ClearerOf x qs rs → are_in_turn qs us ≡ true → are_in_turn rs us ≡ true
turn_of x [] qs rs o h k = refl
turn_of x (a ∷ us) qs rs o h k =
    let l = and_parts (list_all (λ q. is_clear a.sender a.point q.point q.sender) qs)
    (are_in_turn (qs ++ a ∷ []) us) k in
    let m = and_parts (is_of x a) (list_all (is_of x) us) o in
    and_from (list_all (λ q. is_clear a.sender a.point q.point q.sender) rs)
    (are_in_turn (rs ++ a ∷ []) us) (h.all a.sender a.point m.0 l.0)
    (turn_of x us (qs ++ a ∷ []) (rs ++ a ∷ []) m.1 (clearer_push x qs rs (a ∷ []) h) l.1)

-- of one series

own_turn : (x : Identity) (Gs : List History) (F : History) (rs : List Accepted)
    → AreRounds Start Gs → IsLegal F → KnowsOf x F (unfolded [] Gs)
    → of_series x rs ≡ of_series x (homes (unfolded [] Gs))
    → are_in_turn (points F) (of_series x rs) ≡ true
own_turn x Gs F rs r m k e =
    ap (are_in_turn (points F)) e
    ∙ turn_of x (of_series x (homes qs)) (filter is_not_home qs) (points F)
    (filter_all (is_of x) (homes qs)) clearer
    (turn_own x (homes qs) (filter is_not_home qs)
    (turn_map bare keeps_bare (filter (stands is_home) qs) (filter is_not_home qs)
    (life_turn Gs r).1))
  where
    qs : List Accepted
    qs = unfolded [] Gs

    clearer : ClearerOf x (filter is_not_home qs) (points F)
    clearer = record {
      all = λ s p i h.
          let y = same_series-exact p.series x i in
          clear_known (filter is_not_home qs) (points F) (one_owner F m) s p
          (subst (λ z. list_any (is_of z) (points F) ≡ list_any (is_of z) (filter is_not_home qs))
          (sym y) k.known)
          (subst (λ z. owner z (points F) ≡ owner z (filter is_not_home qs)) (sym y) k.owner)
          (subst (λ z. frontier z (points F) ≡ frontier z (filter is_not_home qs)) (sym y)
          k.frontier) h;
    }

stands_in : (x : Identity) (Gs : List History) (F R : History) (all : List Accepted)
    (ss : List (List ℕ)) → AreRounds Start Gs → KnowsOf x F (unfolded [] Gs)
    → of_series x all ≡ of_series x (homes (unfolded [] Gs)) → Brings F R all ss
    → StandsIn x (lived Start Gs) R
stands_in x Gs F R all ss r k e b = record {
  owner =
      b.owners x
      ∙ (owner_append x (points F) all
      ∙ (ap (λ w. cond w (owner x (points F)) (owner x all)) k.known
      ∙ (ap (λ s. cond (list_any (is_of x) (filter is_not_home qs)) s (owner x all)) k.owner
      ∙ (ap (λ s. cond (list_any (is_of x) (filter is_not_home qs))
      (owner x (filter is_not_home qs)) s)
      (owner_own x all ∙ (ap (owner x) e
      ∙ (sym (owner_own x (homes qs)) ∙ bare_owner x (filter (stands is_home) qs))))
      ∙ (sym (owner_parts x (stands is_home) qs (life_owner Gs r)) ∙ s.owners x)))));
  frontier =
      b.frontiers x
      ∙ (frontier_append x (points F) all
      ∙ (ap (λ n. max n (frontier x all)) k.frontier
      ∙ (ap (max (frontier x (filter is_not_home qs)))
      (frontier_own x all ∙ (ap (frontier x) e
      ∙ (sym (frontier_own x (homes qs)) ∙ bare_frontier x (filter (stands is_home) qs))))
      ∙ (sym (frontier_parts x (stands is_home) qs) ∙ s.frontiers x))));
  sum = b.sums x ∙ (ap (row_sum (row_length x.kind)) own
      ∙ (row_sum-map (row_length x.kind) bare (λ a. refl) (chosen is_home x qs)
      ∙ (s.weights x).row));
  span = b.spans x ∙ (ap hull own ∙ (bare_hull (chosen is_home x qs) ∙ (s.weights x).span));
}
  where
    qs : List Accepted
    qs = unfolded [] Gs

    s : StandsAs (lived Start Gs) (unfolded [] Gs)
    s = (life_turn Gs r).0

    own : of_series x all ≡ map bare (chosen is_home x qs)
    own = e ∙ (filter-map (is_of x) bare (λ a. refl) (filter (stands is_home) qs)
        ∙ ap (map bare) (filter-filter (is_of x) (stands is_home) qs))

pub apart_law : (Gs : Identity → List History) (F : History) (ns : List Numbered)
    (ss : List (List ℕ)) → ((x : Identity) → AreRounds Start (Gs x)) → IsLegal F
    → ((x : Identity) → KnowsOf x F (unfolded [] (Gs x)))
    → ((x : Identity) → of_series x (all_points ns)
    ≡ of_series x (homes (unfolded [] (Gs x)))) → HasPlaceFor F ns ss
    → IsLegal (quarantined (readmitted F ns) ss)
    × IsCalm (quarantined (readmitted F ns) ss)
    × ((x : Identity) → StandsIn x (lived Start (Gs x))
    (quarantined (readmitted F ns) ss))
    × ((s : List ℕ) → is_held s
    (held_senders (quarantined (readmitted F ns) ss))
    ≡ is_held s ss)
apart_law Gs F ns ss r m k e h = (
  end.0,
  end.1,
  λ x. stands_in x (Gs x) F
      (quarantined (readmitted F ns) ss) (all_points ns) ss (r x) (k x) (e x) end.2,
  end.2.held,
)
  where
    may : MayReplay F ns ss
    may = record {
      rest = h.rest;
      batches = h.batches;
      turn = turn_all (all_points ns) (points F)
          (λ x. own_turn x (Gs x) F (all_points ns) (r x) m (k x) (e x));
      few_series = h.few_series;
      small = h.small;
      once = h.once;
      few_held = h.few_held;
      room = h.room;
    }

    end : IsLegal (quarantined (readmitted F ns) ss) × IsCalm (quarantined (readmitted F ns) ss)
        × Brings F (quarantined (readmitted F ns) ss) (all_points ns) ss
    end = brought_law F ns ss m may
