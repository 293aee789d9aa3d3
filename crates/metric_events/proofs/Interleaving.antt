-- What is pending of a history that was cut off may come again in any order that is the same within
-- each series.
use Rattle.std.proofs.Common.{◌≡◌, ℕ, Bool, true, false, cond, not, ◌&&◌, List, [], ◌∷◌, ◌++◌, map}
use Rattle.std.proofs.Common.{max, refl, ap, sym, ◌∙◌, subst, arith}
use Rattle.std.specs.Prelude.{nat_le}
use Rattle.std.specs.List.{list_any, list_all, filter}
use Rattle.std.proofs.lemmas.Bool.{and_parts, and_from, or_left}
use Rattle.series_id.specs.Identity.{Identity, row_length}
use Rattle.series_id.specs.Order.{same_series}
use Rattle.series_id.proofs.Order.{same_series-exact, same_series-refl}
use Rattle.metric_events.specs.Rows.{add_rows}
use Rattle.metric_events.specs.History.{History}
use Rattle.metric_events.specs.Points.{points, is_home}
use Rattle.metric_events.specs.Running.{held_senders}
use Rattle.metric_events.specs.Senders.{same_sender}
use Rattle.metric_events.specs.Series.{is_of, of_series, owner, frontier, hull, row_sum, sum_of}
use Rattle.metric_events.specs.Standing.{stands}
use Rattle.metric_events.specs.Legal.{IsLegal, is_clear, is_held}
use Rattle.metric_events.specs.Recovery.{bare, pending, not_pending, is_not_home, Remembers}
use Rattle.metric_events.specs.Recovery.{IsInTurn, are_in_turn, Numbered, all_points, AreBatches}
use Rattle.metric_events.specs.Recovery.{IsAtMost}
use Rattle.metric_events.specs.Congruence.{MayReplay, Repeats, AreInterleaved, LeavesRoom}
use Rattle.metric_events.specs.declared.accepted.Accepted.{Accepted}
use Rattle.metric_events.proofs.Lists.{all_append, all_first, all_filter, filter_all, filter-map}
use Rattle.metric_events.proofs.Lists.{filter-filter, any_filter_same}
use Rattle.metric_events.proofs.Counts.{count_le}
use Rattle.metric_events.proofs.WithinLimits.{few_series, few_held}
use Rattle.metric_events.proofs.Owners.{one_owner}
use Rattle.metric_events.proofs.Fits.{fits_le, sums_fit, row_sum-map}
use Rattle.metric_events.proofs.Sums.{row_le_add_both, add_rows-comm}
use Rattle.metric_events.proofs.Bare.{bare_owner, bare_frontier, bare_sum, bare_hull, all_bare}
use Rattle.metric_events.proofs.Bare.{sum_append, owner_append, frontier_append}
use Rattle.metric_events.proofs.Renewing.{owner_own, frontier_own}
use Rattle.metric_events.proofs.Recovering.{Clearer, home_points, known, known_no_other}
use Rattle.metric_events.proofs.Recovering.{clearer_known, turn_clearer, owner_parts}
use Rattle.metric_events.proofs.Recovering.{frontier_parts}
use Rattle.metric_events.proofs.Readmitting.{sum_parts}
use Rattle.metric_events.proofs.Turns.{swapped}
use Rattle.metric_events.proofs.Congruence.{once_le}

-- points are in turn where those of each series are

fewer_clear : (qs rs : List Accepted) → Clearer (qs ++ rs) qs
fewer_clear qs rs = record { all = λ s p k. all_first (λ a. is_clear s p a.point a.sender) qs rs k }

pub turn_own : (x : Identity) (us qs : List Accepted) → are_in_turn qs us ≡ true
    → are_in_turn qs (of_series x us) ≡ true
turn_own x [] qs h = refl
turn_own x (a ∷ us) qs h = both (is_of x a) refl (turn_own x us (qs ++ a ∷ []) l.1)
  where
    l : (list_all (λ q. is_clear a.sender a.point q.point q.sender) qs ≡ true)
        × (are_in_turn (qs ++ a ∷ []) us ≡ true)
    l = and_parts (list_all (λ q. is_clear a.sender a.point q.point q.sender) qs)
        (are_in_turn (qs ++ a ∷ []) us) h

    both : (v : Bool) → is_of x a ≡ v → are_in_turn (qs ++ a ∷ []) (of_series x us) ≡ true
        → are_in_turn qs (of_series x (a ∷ us)) ≡ true
    both true e r = rw e (and_from (list_all (λ q. is_clear a.sender a.point q.point q.sender) qs)
        (are_in_turn (qs ++ a ∷ []) (of_series x us)) l.0 r)
    both false e r =
        rw e (turn_clearer (of_series x us) (qs ++ a ∷ []) qs (fewer_clear qs (a ∷ [])) r)

-- what comes of other series does not count
turn_past : (x : Identity) (a : Accepted) → is_of x a ≡ false → (vs qs : List Accepted)
    → list_all (is_of x) vs ≡ true → are_in_turn qs vs ≡ true → are_in_turn (qs ++ a ∷ []) vs ≡ true
turn_past x a n [] qs o h = refl
turn_past x a n (v ∷ vs) qs o h =
    let m = and_parts (is_of x v) (list_all (is_of x) vs) o in
    let l = and_parts (list_all (λ q. is_clear v.sender v.point q.point q.sender) qs)
    (are_in_turn (qs ++ v ∷ []) vs) h in
    and_from (list_all (λ q. is_clear v.sender v.point q.point q.sender) (qs ++ a ∷ []))
    (are_in_turn ((qs ++ a ∷ []) ++ v ∷ []) vs)
    (all_append (λ q. is_clear v.sender v.point q.point q.sender) qs (a ∷ []) l.0
    (and_from (is_clear v.sender v.point a.point a.sender) true (apart m.0) refl))
    (turn_clearer vs ((qs ++ v ∷ []) ++ a ∷ []) ((qs ++ a ∷ []) ++ v ∷ []) (swapped qs (a ∷ []) v)
    (turn_past x a n vs (qs ++ v ∷ []) m.1 l.1))
  where
    apart : is_of x v ≡ true → is_clear v.sender v.point a.point a.sender ≡ true
    apart e = or_left (not (same_series a.point.series v.point.series))
        (same_sender a.sender v.sender && nat_le a.point.span.end v.point.span.start)
        (ap not (ap (same_series a.point.series) (same_series-exact v.point.series x e) ∙ n))

pub turn_all : (us qs : List Accepted) → ((x : Identity) → are_in_turn qs (of_series x us) ≡ true)
    → are_in_turn qs us ≡ true
turn_all [] qs h = refl
turn_all (a ∷ us) qs h = and_from (list_all (λ q. is_clear a.sender a.point q.point q.sender) qs)
    (are_in_turn (qs ++ a ∷ []) us) (of_own a.point.series (same_series-refl a.point.series)).0
    (turn_all us (qs ++ a ∷ []) (λ x. both x (is_of x a) refl))
  where
    of_own : (x : Identity) → is_of x a ≡ true
        → (list_all (λ q. is_clear a.sender a.point q.point q.sender) qs ≡ true)
        × (are_in_turn (qs ++ a ∷ []) (of_series x us) ≡ true)
    of_own x e = let g = h x in let k : are_in_turn qs (a ∷ of_series x us) ≡ true = rw e at g in
        and_parts (list_all (λ q. is_clear a.sender a.point q.point q.sender) qs)
        (are_in_turn (qs ++ a ∷ []) (of_series x us)) k

    both : (x : Identity) (v : Bool) → is_of x a ≡ v
        → are_in_turn (qs ++ a ∷ []) (of_series x us) ≡ true
    both x true e = (of_own x e).1
    both x false e = let g = h x in let k : are_in_turn qs (of_series x us) ≡ true = rw e at g in
        turn_past x a e (of_series x us) qs (filter_all (is_of x) us) k

pub turn_interleaved : (qs us vs : List Accepted) → AreInterleaved us vs → are_in_turn qs us ≡ true
    → are_in_turn qs vs ≡ true
turn_interleaved qs us vs i h =
    turn_all vs qs (λ x. ap (are_in_turn qs) (i.each x) ∙ turn_own x us qs h)

-- what is the same of points that are interleaved

pub any_interleaved : (us vs : List Accepted) → AreInterleaved us vs → (x : Identity)
    → list_any (is_of x) vs ≡ list_any (is_of x) us
any_interleaved us vs i x = sym (any_filter_same (is_of x) (is_of x) (λ a k. k) vs)
    ∙ (ap (list_any (is_of x)) (i.each x) ∙ any_filter_same (is_of x) (is_of x) (λ a k. k) us)

pub owner_interleaved : (us vs : List Accepted) → AreInterleaved us vs → (x : Identity)
    → owner x vs ≡ owner x us
owner_interleaved us vs i x = owner_own x vs ∙ (ap (owner x) (i.each x) ∙ sym (owner_own x us))

pub frontier_interleaved : (us vs : List Accepted) → AreInterleaved us vs → (x : Identity)
    → frontier x vs ≡ frontier x us
frontier_interleaved us vs i x =
    frontier_own x vs ∙ (ap (frontier x) (i.each x) ∙ sym (frontier_own x us))

home_of : (x : Identity) (E : History)
    → of_series x (pending E) ≡ map bare (filter (stands is_home) (of_series x (points E)))
home_of x E = filter-map (is_of x) bare (λ a. refl) (home_points E)
    ∙ ap (map bare) (filter-filter (is_of x) (stands is_home) (points E))

may_replay : (E F : History) (ns : List Numbered) (ss : List (List ℕ)) → IsLegal E → IsLegal F
    → Remembers F E → IsInTurn E → AreBatches F ns → AreInterleaved (pending E) (all_points ns)
    → LeavesRoom F E ns ss → ((s : List ℕ) → is_held s ss ≡ is_held s (held_senders E))
    → MayReplay F ns ss
may_replay E F ns ss l m r t b i h k = record {
  rest = r.rest;
  batches = b;
  turn = turn_interleaved (points F) (pending E) (all_points ns) i
      (turn_clearer (pending E) (not_pending E) (points F)
      (clearer_known (not_pending E) (points F) (one_owner F m) (known E F l m r) r.owners
      r.frontiers) t);
  few_series = omega (
    arith,
    count_le (points F ++ all_points ns) (points E)
        (record { all = no_other }),
    few_series E l,
  );
  small = λ x. fits_le x.kind (sum_of x (points F ++ all_points ns)) (sum_of x (points E)) (less x)
      (sums_fit E l x);
  once = h.once;
  few_held = omega (arith, once_le ss (held_senders E) h.once (λ s j. sym (k s) ∙ j), few_held E l);
  room = h.room;
}
  where
    no_other : (u : Identity → Bool) → list_all (λ a. u a.point.series) (points E) ≡ true
        → list_all (λ a. u a.point.series) (points F ++ all_points ns) ≡ true
    no_other u j = all_append (λ a. u a.point.series) (points F) (all_points ns)
        ((known_no_other (not_pending E) (points F) (known E F l m r)).all u
        (all_filter (λ a. u a.point.series) is_not_home (points E) j))
        ((known_no_other (pending E) (all_points ns)
        (any_interleaved (pending E) (all_points ns) i)).all u
        (all_bare (λ a. u a.point.series) (λ a. refl) (home_points E)
        ∙ all_filter (λ a. u a.point.series) (stands is_home) (points E) j))

    less : (x : Identity) → IsAtMost (sum_of x (points F ++ all_points ns)) (sum_of x (points E))
    less x =
        subst (λ ws. IsAtMost ws (sum_of x (points E)))
        (sym (sum_append x (points F) (all_points ns)
        ∙ (ap (λ us. add_rows (sum_of x (points F)) (row_sum (row_length x.kind) us))
        (i.each x) ∙ (ap (add_rows (sum_of x (points F))) (bare_sum x (home_points E))
        ∙ add_rows-comm (sum_of x (points F)) (sum_of x (home_points E))))))
        (subst (λ ws. IsAtMost (add_rows (sum_of x (home_points E)) (sum_of x (points F))) ws)
        (sym (sum_parts x (stands is_home) (points E)
        ∙ add_rows-comm (sum_of x (not_pending E)) (sum_of x (home_points E))))
        (row_le_add_both (sum_of x (home_points E)) (sum_of x (points F)) (sum_of x (not_pending E))
        (h.sums x)))

repeats : (E F : History) (ns : List Numbered) (ss : List (List ℕ)) → IsLegal E → IsLegal F
    → Remembers F E → AreInterleaved (pending E) (all_points ns)
    → ((s : List ℕ) → is_held s ss ≡ is_held s (held_senders E)) → Repeats E F ns ss
repeats E F ns ss l m r i k = record {
  owners = λ x.
      owner_append x (points F) (all_points ns)
      ∙ (ap (λ v. cond v (owner x (points F)) (owner x (all_points ns))) (known E F l m r x)
      ∙ (ap (λ s. cond (list_any (is_of x) (not_pending E)) s (owner x (all_points ns)))
      (r.owners x)
      ∙ (ap (λ s. cond (list_any (is_of x) (not_pending E)) (owner x (not_pending E)) s)
      (owner_interleaved (pending E) (all_points ns) i x ∙ bare_owner x (home_points E))
      ∙ sym (owner_parts x (stands is_home) (points E) (one_owner E l)))));
  frontiers = λ x.
      frontier_append x (points F) (all_points ns)
      ∙ (ap (λ n. max n (frontier x (all_points ns))) (r.frontiers x)
      ∙ (ap (max (frontier x (not_pending E)))
      (frontier_interleaved (pending E) (all_points ns) i x ∙ bare_frontier x (home_points E))
      ∙ sym (frontier_parts x (stands is_home) (points E))));
  sums = λ x. ap (row_sum (row_length x.kind)) (i.each x ∙ home_of x E)
      ∙ row_sum-map (row_length x.kind) bare (λ a. refl)
      (filter (stands is_home) (of_series x (points E)));
  spans = λ x. ap hull (i.each x ∙ home_of x E)
      ∙ bare_hull (filter (stands is_home) (of_series x (points E)));
  held = k;
}

pub interleaved_law : (E F : History) (ns : List Numbered) (ss : List (List ℕ)) → IsLegal E
    → IsLegal F → Remembers F E → IsInTurn E → AreBatches F ns
    → AreInterleaved (pending E) (all_points ns) → LeavesRoom F E ns ss
    → ((s : List ℕ) → is_held s ss ≡ is_held s (held_senders E))
    → MayReplay F ns ss × Repeats E F ns ss
interleaved_law E F ns ss l m r t b i h k =
    (may_replay E F ns ss l m r t b i h k, repeats E F ns ss l m r i k)
