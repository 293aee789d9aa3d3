-- What was taken in any number of rounds and is pending still may come again behind what remembers
-- the rest.
use Rattle.std.proofs.Common.{◌≡◌, ℕ, Bool, true, false, cond, not, ◌&&◌, ◌||◌, List, [], ◌∷◌, ◌++◌}
use Rattle.std.proofs.Common.{map, max, refl, ap, sym, ◌∙◌, subst, arith, append_assoc, None, Some}
use Rattle.std.specs.declared.option.Option.{Option}
use Rattle.std.specs.List.{list_any, list_all, filter}
use Rattle.std.proofs.lemmas.Bool.{and_parts, and_from, or_left, or_right}
use Rattle.std.proofs.lemmas.List.Folds.{list_any-append, list_all-append}
use Rattle.series_id.specs.Identity.{Identity, row_length}
use Rattle.series_id.specs.Order.{same_series}
use Rattle.series_id.proofs.Order.{same_series-exact, same_series-refl}
use Rattle.metric_events.specs.DataPoint.{DataPoint}
use Rattle.metric_events.specs.Interval.{Interval}
use Rattle.metric_events.specs.History.{History, Start, Opened, ◌▸◌, ◌then◌}
use Rattle.metric_events.specs.Points.{points, is_home, at, mark, carried, carried_of, admitted}
use Rattle.metric_events.specs.Points.{is_of_other_batch, taken, landed}
use Rattle.metric_events.specs.Running.{live_flushes, open_batches, held_senders}
use Rattle.metric_events.specs.Series.{is_of, of_series, owner, frontier, hull, row_sum}
use Rattle.metric_events.specs.Standing.{stands}
use Rattle.metric_events.specs.Legal.{IsLegal, is_clear, is_in_order}
use Rattle.metric_events.specs.Recovery.{bare, homes, is_not_home, are_in_turn, Numbered}
use Rattle.metric_events.specs.Recovery.{all_points, readmitted, quarantined}
use Rattle.metric_events.specs.Congruence.{StandAlike, IsCalm, MayReplay, Repeats, AreInterleaved}
use Rattle.metric_events.specs.Congruence.{lived, AreRounds}
use Rattle.metric_events.specs.Close.{close}
use Rattle.metric_events.specs.declared.opened_series.OpenedSeries.{OpenedSeries}
use Rattle.metric_events.specs.declared.accepted.Accepted.{Accepted}
use Rattle.metric_events.specs.declared.place.Place.{Place}
use Rattle.metric_events.specs.declared.place.Place.TheVariants.{Home, Acknowledged, Dropped}
use Rattle.metric_events.specs.declared.event.Event.TheVariants.{Admit, Undo, Take, Settle, Drop}
use Rattle.metric_events.specs.declared.event.Event.TheVariants.{GiveBack}
use Rattle.metric_events.specs.Recall.{moved, news, unfolded, Recalls, HasPlace}
use Rattle.metric_events.proofs.Lists.{or_swap, any_map, filter-map, filter-filter, all_append}
use Rattle.metric_events.proofs.Lists.{all_first, all_last, all_always, all_both, all_weaker}
use Rattle.metric_events.proofs.Moves.{rides}
use Rattle.metric_events.proofs.Invariants.{all_ride}
use Rattle.metric_events.proofs.Owners.{OneOwner, one_owner, is_by, is_by_or_other, owner_push}
use Rattle.metric_events.proofs.Behind.{moved_keeps, behind, undoes_own, home_admitted}
use Rattle.metric_events.proofs.Kept.{is_settled, is_settled_at, settled_or_home}
use Rattle.metric_events.proofs.Recovering.{clearer_known, known_no_other, owner_parts}
use Rattle.metric_events.proofs.Recovering.{frontier_parts, turn_clearer, turn_append, turn_order}
use Rattle.metric_events.proofs.Turns.{keeps_bare, turn_filter, turn_numbered, turn_map}
use Rattle.metric_events.proofs.Turns.{keeps_taken, keeps_landed, may_follow, follows, are_after}
use Rattle.metric_events.proofs.Turns.{follow_itself, after_homes, after_filter, after_taken}
use Rattle.metric_events.proofs.Turns.{after_landed, split_turn}
use Rattle.metric_events.proofs.Counts.{count_le}
use Rattle.metric_events.proofs.WithinLimits.{few_series, few_held}
use Rattle.metric_events.proofs.Fits.{row_sum-map}
use Rattle.metric_events.proofs.Bare.{bare_owner, bare_frontier, bare_hull, owner_append}
use Rattle.metric_events.proofs.Bare.{frontier_append}
use Rattle.metric_events.proofs.Interleaving.{turn_interleaved, any_interleaved, owner_interleaved}
use Rattle.metric_events.proofs.Interleaving.{frontier_interleaved}
use Rattle.metric_events.proofs.Replaying.{replayed_law}
use Rattle.metric_events.proofs.Lasting.{went, went_one, went_settled}
use Rattle.metric_events.proofs.Congruence.{moved_nil, once_le, route, chosen, chosen_first}
use Rattle.metric_events.proofs.Congruence.{went_home, went_point}
use Rattle.metric_events.proofs.Unfolding.{StandsAs, close_stands, round_stands, itself_stands}
use Rattle.metric_events.proofs.Closing.{closed_is}
use Rattle.std.proofs.lemmas.List.{append-nil}

-- of two points of a series none that has landed is behind one that has not, in any legal history

settled_first : (a : Accepted) → is_settled a ≡ true → (b : Accepted) → follows a b ≡ true
settled_first a h b = or_right (not (same_series a.point.series b.point.series))
    (may_follow a.place b.place) (first a.place b.place h)
  where
    first : (p q : Place) → is_settled_at p ≡ true → may_follow p q ≡ true
    first Acknowledged q h = refl
    first Dropped q h = refl
    first p q h = absurd (let w : false ≡ true = h in cc)

marks_after : (ss : List OpenedSeries) → are_after (map mark ss) ≡ true
marks_after [] = refl
marks_after (s ∷ ss) = and_from (list_all (follows (mark s)) (map mark ss))
    (are_after (map mark ss)) (all_always (follows (mark s)) (settled_first (mark s) refl)
    (map mark ss)) (marks_after ss)

carried_home : (ss : List OpenedSeries) → list_all (λ a. is_home a.place) (carried ss) ≡ true
carried_home [] = refl
carried_home (s ∷ ss) = all_append (λ a. is_home a.place) (carried_of s s.home_span) (carried ss)
    (one s.home_span) (carried_home ss)
  where
    one : (o : Option Interval) → list_all (λ a. is_home a.place) (carried_of s o) ≡ true
    one None = refl
    one (Some span) = refl

all_after : (E : History) → IsLegal E → are_after (points E) ≡ true
all_after (Opened O) l = after_homes (map mark O.series) (carried O.series) (marks_after O.series)
    (carried_home O.series)
all_after (E ▸ Admit b body) l = after_homes (points E) (map (admitted b body.sender) body.points)
    (all_after E l.0) (home_admitted b body.sender body.points)
all_after (E ▸ Undo b) l = after_filter (is_of_other_batch b) (points E) (all_after E l.0)
all_after (E ▸ Take f series) l =
    after_taken (live_flushes E) f series l.1.apart (points E) (all_ride E) (all_after E l.0)
all_after (E ▸ Settle f) l = after_landed f Acknowledged (points E) (all_after E l.0)
all_after (E ▸ Drop f) l = after_landed f Dropped (points E) (all_after E l.0)
all_after (E ▸ GiveBack f) l = after_landed f Home (points E) (all_after E l.0)
all_after (E ▸ e) l = all_after E l.0

after_last : (us vs : List Accepted) → are_after (us ++ vs) ≡ true → are_after vs ≡ true
after_last [] vs h = h
after_last (a ∷ us) vs h =
    after_last us vs (and_parts (list_all (follows a) (us ++ vs)) (are_after (us ++ vs)) h).1

after_append : (us vs : List Accepted) → are_after us ≡ true → are_after vs ≡ true
    → list_all (λ a. list_all (follows a) vs) us ≡ true → are_after (us ++ vs) ≡ true
after_append [] vs h k c = k
after_append (a ∷ us) vs h k c =
    let p = and_parts (list_all (follows a) us) (are_after us) h in
    let q = and_parts (list_all (follows a) vs) (list_all (λ a. list_all (follows a) vs) us) c in
    and_from (list_all (follows a) (us ++ vs)) (are_after (us ++ vs))
    (all_append (follows a) us vs p.0 q.0) (after_append us vs p.1 k q.1)

-- what lay together moves together

goes : (G : History) (a : Accepted) → rides [] a ≡ true → (v : Bool) → is_home a.place ≡ v
    → went G a ≡ cond v (at (route G a.point.series) a) a
goes G a r true e =
    went_home G a.point.series a.point a.batch a.sender a.place e (same_series-refl a.point.series)
goes G a r false e = went_settled G a (settled_or_home a.point a.batch a.sender a.place r e)

went_follows : (G : History) (a b : Accepted) → rides [] a ≡ true → rides [] b ≡ true
    → follows a b ≡ true → follows (went G a) (went G b) ≡ true
went_follows G a b r q h = both (is_home a.place) (is_home b.place) refl refl
  where
    never : (p q : Place) → is_home p ≡ true → is_home q ≡ false → may_follow p q ≡ false
    never Home Home e g = absurd (let w : true ≡ false = g in cc)
    never Home q e g = refl
    never p q e g = absurd (let w : false ≡ true = e in cc)

    same : (w : Bool) → same_series a.point.series b.point.series ≡ w
        → (not (same_series a.point.series b.point.series)
        || may_follow (route G a.point.series) (route G b.point.series)) ≡ true
    same true s = or_right (not (same_series a.point.series b.point.series))
        (may_follow (route G a.point.series) (route G b.point.series))
        (subst (λ x. may_follow (route G a.point.series) (route G x) ≡ true)
        (same_series-exact a.point.series b.point.series s)
        (follow_itself (route G a.point.series)))
    same false s = or_left (not (same_series a.point.series b.point.series))
        (may_follow (route G a.point.series) (route G b.point.series)) (ap not s)

    other : is_home a.place ≡ true → is_home b.place ≡ false → (w : Bool)
        → same_series a.point.series b.point.series ≡ w
        → (not (same_series a.point.series b.point.series)
        || may_follow (route G a.point.series) b.place) ≡ true
    other e g true s = absurd (let m = never a.place b.place e g in
        let w : (not true || false) ≡ true = rw (s, m) at h in cc)
    other e g false s = or_left (not (same_series a.point.series b.point.series))
        (may_follow (route G a.point.series) b.place) (ap not s)

    both : (v w : Bool) → is_home a.place ≡ v → is_home b.place ≡ w
        → follows (went G a) (went G b) ≡ true
    both false w e g = ap (λ c. follows c (went G b)) (goes G a r false e)
        ∙ settled_first a (settled_or_home a.point a.batch a.sender a.place r e) (went G b)
    both true true e g = ap (λ c. follows c (went G b)) (goes G a r true e)
        ∙ (ap (follows (at (route G a.point.series) a)) (goes G b q true g)
        ∙ same (same_series a.point.series b.point.series) refl)
    both true false e g = ap (λ c. follows c (went G b)) (goes G a r true e)
        ∙ (ap (follows (at (route G a.point.series) a)) (goes G b q false g)
        ∙ other e g (same_series a.point.series b.point.series) refl)

-- a test of each point that was moved is a test of where each went
all_moved : (t : Accepted → Bool) (G : History) (qs : List Accepted)
    → list_all (λ a. t (went G a)) qs ≡ list_all t (moved G qs)
all_moved t G [] = sym (ap (list_all t) (moved_nil G))
all_moved t G (a ∷ qs) =
    ap (λ v. t (went G a) && v) (all_moved t G qs) ∙ sym (ap (list_all t) (went_one G a qs))

after_moved : (G : History) (qs : List Accepted) → list_all (rides []) qs ≡ true
    → are_after qs ≡ true → are_after (moved G qs) ≡ true
after_moved G [] r h = ap are_after (moved_nil G)
after_moved G (a ∷ qs) r h =
    let p = and_parts (rides [] a) (list_all (rides []) qs) r in
    let q = and_parts (list_all (follows a) qs) (are_after qs) h in
    ap are_after (went_one G a qs)
    ∙ and_from (list_all (follows (went G a)) (moved G qs)) (are_after (moved G qs))
    (sym (all_moved (follows (went G a)) G qs)
    ∙ all_both (rides []) (follows a) (λ b. follows (went G a) (went G b))
    (λ b m n. went_follows G a b p.0 m n) qs p.1 q.0)
    (after_moved G qs p.1 q.1)

-- what comes after the pending points of a series after one list comes after those of another
crossed : (G : History) (x : Identity) (qs vs : List Accepted) → are_after (moved G qs ++ vs) ≡ true
    → (chosen is_home x qs ≡ [] → ⊥) → list_all
    (λ b. not (same_series x b.point.series) || may_follow (route G x) b.place) vs ≡ true
crossed G x [] vs h n = absurd (n refl)
crossed G x (a ∷ qs) vs h n = both (is_of x a && is_home a.place) refl (crossed G x qs vs l.1)
  where
    l : (list_all (follows (went G a)) (moved G qs ++ vs) ≡ true)
        × (are_after (moved G qs ++ vs) ≡ true)
    l = and_parts (list_all (follows (went G a)) (moved G qs ++ vs)) (are_after (moved G qs ++ vs))
        (sym (ap (λ us. are_after (us ++ vs)) (went_one G a qs)) ∙ h)

    both : (v : Bool) → (is_of x a && is_home a.place) ≡ v
        → ((chosen is_home x qs ≡ [] → ⊥)
        → list_all (λ b. not (same_series x b.point.series) || may_follow (route G x) b.place)
        vs ≡ true) → list_all (λ b. not (same_series x b.point.series)
        || may_follow (route G x) b.place) vs ≡ true
    both true e r =
        let p = and_parts (is_of x a) (is_home a.place) e in
        subst (λ y. list_all (λ b. not (same_series y b.point.series)
        || may_follow (route G x) b.place) vs ≡ true) (same_series-exact a.point.series x p.0)
        (subst (λ (c : Accepted). list_all (follows c) vs ≡ true)
        (went_home G x a.point a.batch a.sender a.place p.1 p.0)
        (all_last (follows (went G a)) (moved G qs) vs l.0))
    both false e r = r (λ k. n (chosen_first is_home x a qs
        ∙ (ap (λ v. cond v (a ∷ chosen is_home x qs) (chosen is_home x qs)) e ∙ k)))

abbrev is_empty : List Accepted → Bool
is_empty [] = true
is_empty (a ∷ us) = false

cross_at : (E G : History) (qs : List Accepted) → StandsAs E qs
    → are_after (moved G (points E) ++ news G) ≡ true → (us : List Accepted)
    → list_all (rides []) us ≡ true
    → list_all (λ a. not (is_home a.place)
    || not (is_empty (chosen is_home a.point.series qs))) us ≡ true
    → list_all (λ a. list_all (follows (went G a)) (news G)) us ≡ true
cross_at E G qs s h us r k = all_both (rides [])
    (λ a. not (is_home a.place) || not (is_empty (chosen is_home a.point.series qs)))
    (λ a. list_all (follows (went G a)) (news G)) (λ a m n. both a m n (is_home a.place) refl)
    us r k
  where
    there : (x : Identity) → not (is_empty (chosen is_home x qs)) ≡ true
        → chosen is_home x (points E) ≡ [] → ⊥
    there x n e = absurd (spanned (chosen is_home x qs) n ((s.weights x).span ∙ ap hull e))
      where
        spanned : (us : List Accepted) → not (is_empty us) ≡ true → hull us ≡ None → ⊥
        spanned [] n e = let q : false ≡ true = n in cc
        spanned (a ∷ us) n e = let q = e in cc

    both : (a : Accepted) → rides [] a ≡ true
        → (not (is_home a.place) || not (is_empty (chosen is_home a.point.series qs))) ≡ true
        → (v : Bool) → is_home a.place ≡ v → list_all (follows (went G a)) (news G) ≡ true
    both a m n false e = ap (λ c. list_all (follows c) (news G)) (goes G a m false e)
        ∙ all_always (follows a)
        (settled_first a (settled_or_home a.point a.batch a.sender a.place m e)) (news G)
    both a m n true e =
        let w : (not true || not (is_empty (chosen is_home a.point.series qs))) ≡ true =
        rw e at n in
        ap (λ c. list_all (follows c) (news G)) (goes G a m true e)
        ∙ crossed G a.point.series (points E) (news G) h (there a.point.series w)

abbrev has_own : Accepted → List Accepted → Bool
has_own a qs = not (is_home a.place) || not (is_empty (chosen is_home a.point.series qs))

own_later : (a b : Accepted) (us : List Accepted) → has_own a us ≡ true → has_own a (b ∷ us) ≡ true
own_later a b us h = ap (λ vs. not (is_home a.place) || not (is_empty vs))
    (chosen_first is_home a.point.series b us) ∙ either (is_of a.point.series b && is_home b.place)
  where
    either : (v : Bool) → (not (is_home a.place)
        || not (is_empty (cond v (b ∷ chosen is_home a.point.series us)
        (chosen is_home a.point.series us)))) ≡ true
    either true = or_right (not (is_home a.place)) true refl
    either false = h

own_there : (us : List Accepted) → list_all (λ a. has_own a us) us ≡ true
own_there [] = refl
own_there (b ∷ us) = and_from (has_own b (b ∷ us)) (list_all (λ a. has_own a (b ∷ us)) us)
    (first (is_home b.place) refl) (all_weaker (λ a. has_own a us) (λ a. has_own a (b ∷ us))
    (λ a k. own_later a b us k) us (own_there us))
  where
    first : (v : Bool) → is_home b.place ≡ v → has_own b (b ∷ us) ≡ true
    first false e = or_left (not (is_home b.place))
        (not (is_empty (chosen is_home b.point.series (b ∷ us)))) (ap not e)
    first true e = or_right (not (is_home b.place))
        (not (is_empty (chosen is_home b.point.series (b ∷ us))))
        (ap (λ vs. not (is_empty vs)) (chosen_first is_home b.point.series b us
        ∙ (ap (λ v. cond (v && is_home b.place) (b ∷ chosen is_home b.point.series us)
        (chosen is_home b.point.series us)) (same_series-refl b.point.series)
        ∙ ap (λ v. cond v (b ∷ chosen is_home b.point.series us)
        (chosen is_home b.point.series us)) e)))

after_next : (E G : History) (qs : List Accepted) → StandsAs E qs → IsCalm E → IsLegal (E then G)
    → are_after qs ≡ true → are_after (moved G qs ++ news G) ≡ true
after_next E G qs s c l h = after_append (moved G qs) (news G) (after_moved G qs s.still h)
    (after_last (moved G (points E)) (news G) whole)
    (sym (all_moved (λ a. list_all (follows a) (news G)) G qs)
    ∙ cross_at E G qs s whole qs s.still (own_there qs))
  where
    whole : are_after (moved G (points E) ++ news G) ≡ true
    whole = sym (ap are_after (behind E G (undoes_own E G c.batches l))) ∙ all_after (E then G) l

-- turns

went_sender : (G : History) (a : Accepted) → (went G a).sender ≡ a.sender
went_sender (Opened O) a = refl
went_sender (G ▸ Take f series) a = (keeps_taken f series).sender (went G a) ∙ went_sender G a
went_sender (G ▸ Settle f) a = (keeps_landed f Acknowledged).sender (went G a) ∙ went_sender G a
went_sender (G ▸ Drop f) a = (keeps_landed f Dropped).sender (went G a) ∙ went_sender G a
went_sender (G ▸ GiveBack f) a = (keeps_landed f Home).sender (went G a) ∙ went_sender G a
went_sender (G ▸ e) a = went_sender G a

went_clear : (s : List ℕ) (p : DataPoint) (G : History) (a : Accepted)
    → is_clear s p (went G a).point (went G a).sender ≡ is_clear s p a.point a.sender
went_clear s p G a = ap (λ q. is_clear s p q (went G a).sender) (went_point G a)
    ∙ ap (is_clear s p a.point) (went_sender G a)

moved_back : (s : List ℕ) (p : DataPoint) (G : History) (qs : List Accepted)
    → list_all (λ a. is_clear s p a.point a.sender) (moved G qs) ≡ true
    → list_all (λ a. is_clear s p a.point a.sender) qs ≡ true
moved_back s p G qs h = all_weaker (λ a. is_clear s p (went G a).point (went G a).sender)
    (λ a. is_clear s p a.point a.sender) (λ a k. sym (went_clear s p G a) ∙ k) qs
    (all_moved (λ a. is_clear s p a.point a.sender) G qs ∙ h)

moved_on : (s : List ℕ) (p : DataPoint) (G : History) (qs : List Accepted)
    → list_all (λ a. is_clear s p a.point a.sender) qs ≡ true
    → list_all (λ a. is_clear s p a.point a.sender) (moved G qs) ≡ true
moved_on s p G qs h = sym (all_moved (λ a. is_clear s p a.point a.sender) G qs)
    ∙ all_weaker (λ a. is_clear s p a.point a.sender)
    (λ a. is_clear s p (went G a).point (went G a).sender) (λ a k. went_clear s p G a ∙ k) qs h

news_turn : (E G : History) → open_batches E ≡ [] → IsLegal (E then G)
    → are_in_turn (points E) (news G) ≡ true
news_turn E (Opened O) o l = refl
news_turn E (G ▸ Admit b body) o l =
    turn_append (points E) (news G) (map (admitted b body.sender) body.points) (news_turn E G o l.0)
    (turn_numbered b body.sender body.points (points E ++ news G)
    (turn_clearer (map (admitted 0 body.sender) body.points) (moved G (points E) ++ news G)
    (points E ++ news G)
    (record {
      all = λ s p k. all_append (λ a. is_clear s p a.point a.sender) (points E) (news G)
          (moved_back s p G (points E) (all_first (λ a. is_clear s p a.point a.sender)
          (moved G (points E)) (news G) k))
          (all_last (λ a. is_clear s p a.point a.sender) (moved G (points E)) (news G) k);
    })
    (turn_order body.sender body.points (moved G (points E) ++ news G)
    ∙ subst (λ (us : List Accepted). is_in_order us body.sender body.points ≡ true)
    (behind E G (undoes_own E G o l.0)) l.1.in_order)))
news_turn E (G ▸ Undo b) o l =
    turn_filter (is_of_other_batch b) (news G) (points E) (news_turn E G o l.0)
news_turn E (G ▸ Take f series) o l =
    turn_map (taken f series) (keeps_taken f series) (news G) (points E) (news_turn E G o l.0)
news_turn E (G ▸ Settle f) o l = turn_map (landed f Acknowledged) (keeps_landed f Acknowledged)
    (news G) (points E) (news_turn E G o l.0)
news_turn E (G ▸ Drop f) o l =
    turn_map (landed f Dropped) (keeps_landed f Dropped) (news G) (points E) (news_turn E G o l.0)
news_turn E (G ▸ GiveBack f) o l =
    turn_map (landed f Home) (keeps_landed f Home) (news G) (points E) (news_turn E G o l.0)
news_turn E (G ▸ e) o l = news_turn E G o l.0

-- points in turn have one owner of each series

owner_bare : (qs : List Accepted) (a : Accepted) → OneOwner (qs ++ admitted 0 a.sender a.point ∷ [])
    → OneOwner (qs ++ a ∷ [])
owner_bare qs a h = record {
  all = λ x s k. list_all-append (is_by_or_other x s) qs (a ∷ [])
      ∙ (sym (list_all-append (is_by_or_other x s) qs (admitted 0 a.sender a.point ∷ []))
      ∙ h.all x s (list_any-append (is_by x s) qs (admitted 0 a.sender a.point ∷ [])
      ∙ (sym (list_any-append (is_by x s) qs (a ∷ [])) ∙ k)));
}

owner_turn : (us qs : List Accepted) → OneOwner qs → are_in_turn qs us ≡ true → OneOwner (qs ++ us)
owner_turn [] qs o h = subst OneOwner (sym (append-nil qs)) o
owner_turn (a ∷ us) qs o h =
    let l = and_parts (list_all (λ q. is_clear a.sender a.point q.point q.sender) qs)
    (are_in_turn (qs ++ a ∷ []) us) h in
    subst OneOwner (append_assoc qs (a ∷ []) us)
    (owner_turn us (qs ++ a ∷ []) (owner_bare qs a (owner_push 0 a.sender a.point qs o l.0))
    l.1)

pub turn_one : (us : List Accepted) → are_in_turn [] us ≡ true → OneOwner us
turn_one us h = owner_turn us [] (record { all = λ x s k. refl }) h

-- a life whole

record Lives (E : History) (qs : List Accepted) : Type 0 where
  stands : StandsAs E qs
  legal : IsLegal E
  calm : IsCalm E
  after : are_after qs ≡ true
  turn : are_in_turn [] qs ≡ true

turn_next : (E G : History) (qs : List Accepted) → Lives E qs → IsLegal (E then G)
    → are_in_turn [] (moved G qs ++ news G) ≡ true
turn_next E G qs v l =
    turn_append [] (moved G qs) (news G)
    (moved_keeps (λ us. are_in_turn [] us ≡ true)
    (λ f series us e. turn_map (taken f series) (keeps_taken f series) us [] e)
    (λ f q us e. turn_map (landed f q) (keeps_landed f q) us [] e) G qs v.turn)
    (turn_clearer (news G) (points E) (moved G qs)
    (record {
      all = λ s p k. moved_on s p G qs
          ((clearer_known (points E) qs (turn_one qs v.turn) v.stands.known v.stands.owners
          v.stands.frontiers).all s p k);
    }) (news_turn E G v.calm.batches l))

live_through : (E : History) (Gs : List History) (qs : List Accepted) → Lives E qs → AreRounds E Gs
    → Lives (lived E Gs) (unfolded qs Gs)
live_through E [] qs v r = v
live_through E (G ∷ Gs) qs v r =
    live_through (Opened (close (E then G))) Gs (moved G qs ++ news G) (record {
      stands = close_stands (E then G) (moved G qs ++ news G)
          (round_stands E G qs v.stands v.calm r.0 r.1) r.0 r.1;
      legal = closed_is (E then G) r.0;
      calm = record { batches = refl; live = refl };
      after = after_next E G qs v.stands v.calm r.0 v.after;
      turn = turn_next E G qs v r.0;
    }) r.2

start_legal : IsLegal Start
start_legal = record {
  ordered = refl;
  few_series = omega arith;
  opened = tt;
  held_once =
      refl;
  few_held = omega arith;
  few_batches = omega arith;
  few_flushes = omega arith;
}

start_lives : Lives Start []
start_lives = record {
  stands = itself_stands Start (record { batches = refl; live = refl });
  legal = start_legal;
  calm = record { batches = refl; live = refl };
  after = refl;
  turn = refl;
}

-- what is pending of a life is in turn behind the rest
pub life_turn : (Gs : List History) → AreRounds Start Gs
    → StandsAs (lived Start Gs) (unfolded [] Gs)
    × (are_in_turn (filter is_not_home (unfolded [] Gs))
    (filter (stands is_home) (unfolded [] Gs)) ≡ true)
life_turn Gs r = (v.stands, split_turn (unfolded [] Gs) [] v.turn v.after)
  where
    v : Lives (lived Start Gs) (unfolded [] Gs)
    v = live_through Start Gs [] start_lives r

-- and each series has one owner
pub life_owner : (Gs : List History) → AreRounds Start Gs → OneOwner (unfolded [] Gs)
life_owner Gs r = turn_one (unfolded [] Gs) (live_through Start Gs [] start_lives r).turn

-- the whole recovery: a fresh history that remembers what is not pending takes again what is, in
-- any order that is the same within each series

any_parted : (t h : Accepted → Bool) (qs : List Accepted)
    → (list_any t (filter (λ a. not (h a)) qs) || list_any t (filter h qs)) ≡ list_any t qs
any_parted t h [] = refl
any_parted t h (a ∷ qs) = both (h a) refl (any_parted t h qs)
  where
    both : (v : Bool) → h a ≡ v → (list_any t (filter (λ a. not (h a)) qs)
        || list_any t (filter h qs)) ≡ list_any t qs
        → (list_any t (filter (λ a. not (h a)) (a ∷ qs)) || list_any t (filter h (a ∷ qs)))
        ≡ list_any t (a ∷ qs)
    both true e r = rw e (or_swap (list_any t (filter (λ a. not (h a)) qs)) (t a)
        (list_any t (filter h qs)) ∙ ap (λ v. t a || v) r)
    both false e r = rw e (grouped (t a) (list_any t (filter (λ a. not (h a)) qs))
        (list_any t (filter h qs)) ∙ ap (λ v. t a || v) r)
      where
        grouped : (u v w : Bool) → ((u || v) || w) ≡ (u || (v || w))
        grouped true v w = refl
        grouped false v w = refl

pub any_bare : (x : Identity) (qs : List Accepted)
    → list_any (is_of x) (map bare qs) ≡ list_any (is_of x) qs
any_bare x qs = any_map (is_of x) bare (λ a. refl) qs

recall : (E F : History) (qs : List Accepted) (ns : List Numbered) (ss : List (List ℕ)) → Lives E qs
    → IsLegal F → Recalls F qs → AreInterleaved (homes qs) (all_points ns) → HasPlace E F ns ss
    → MayReplay F ns ss × Repeats E F ns ss
recall E F qs ns ss v m r i h = (
  record {
    rest = h.rest;
    batches = h.batches;
    turn = turn_interleaved (points F) (homes qs) (all_points ns) i
        (turn_map bare keeps_bare (filter (stands is_home) qs) (points F)
        (turn_clearer (filter (stands is_home) qs) (filter is_not_home qs) (points F)
        (clearer_known (filter is_not_home qs) (points F) (one_owner F m) r.known r.owners
        r.frontiers) (split_turn qs [] v.turn v.after)));
    few_series = omega (
      arith,
      count_le (points F ++ all_points ns) (points E)
          (known_no_other (points E) (points F ++ all_points ns) every),
      few_series E v.legal,
    );
    small = h.small;
    once = h.once;
    few_held = omega (
      arith,
      once_le ss (held_senders E) h.once (λ s j. sym (h.held s) ∙ j),
      few_held E v.legal,
    );
    room = h.room;
  },
  record {
    owners = λ x.
        owner_append x (points F) (all_points ns)
        ∙ (ap (λ w. cond w (owner x (points F)) (owner x (all_points ns))) (r.known x)
        ∙ (ap (λ s. cond (list_any (is_of x) (filter is_not_home qs)) s (owner x (all_points ns)))
        (r.owners x)
        ∙ (ap (λ s. cond (list_any (is_of x) (filter is_not_home qs))
        (owner x (filter is_not_home qs)) s)
        (owner_interleaved (homes qs) (all_points ns) i x
        ∙ bare_owner x (filter (stands is_home) qs))
        ∙ (sym (owner_parts x (stands is_home) qs (turn_one qs v.turn)) ∙ v.stands.owners x))));
    frontiers = λ x.
        frontier_append x (points F) (all_points ns)
        ∙ (ap (λ n. max n (frontier x (all_points ns))) (r.frontiers x)
        ∙ (ap (max (frontier x (filter is_not_home qs)))
        (frontier_interleaved (homes qs) (all_points ns) i x
        ∙ bare_frontier x (filter (stands is_home) qs))
        ∙ (sym (frontier_parts x (stands is_home) qs) ∙ v.stands.frontiers x)));
    sums = λ x. ap (row_sum (row_length x.kind)) (own x)
        ∙ (row_sum-map (row_length x.kind) bare (λ a. refl) (chosen is_home x qs)
        ∙ (v.stands.weights x).row);
    spans = λ x. ap hull (own x) ∙ (bare_hull (chosen is_home x qs) ∙ (v.stands.weights x).span);
    held = h.held;
  },
)
  where
    own : (x : Identity) → of_series x (all_points ns) ≡ map bare (chosen is_home x qs)
    own x = i.each x ∙ (filter-map (is_of x) bare (λ a. refl) (filter (stands is_home) qs)
        ∙ ap (map bare) (filter-filter (is_of x) (stands is_home) qs))

    every : (x : Identity)
        → list_any (is_of x) (points F ++ all_points ns) ≡ list_any (is_of x) (points E)
    every x =
        list_any-append (is_of x) (points F) (all_points ns)
        ∙ (ap (λ w. w || list_any (is_of x) (all_points ns)) (r.known x)
        ∙ (ap (λ w. list_any (is_of x) (filter is_not_home qs) || w)
        (any_interleaved (homes qs) (all_points ns) i x
        ∙ any_bare x (filter (stands is_home) qs))
        ∙ (any_parted (is_of x) (stands is_home) qs ∙ v.stands.known x)))

pub recalled_law : (Gs : List History) (F : History) (ns : List Numbered) (ss : List (List ℕ))
    → AreRounds Start Gs → IsLegal F → Recalls F (unfolded [] Gs)
    → AreInterleaved (homes (unfolded [] Gs)) (all_points ns)
    → HasPlace (lived Start Gs) F ns ss
    → IsLegal (quarantined (readmitted F ns) ss)
    × IsCalm (quarantined (readmitted F ns) ss)
    × StandAlike (lived Start Gs) (quarantined (readmitted F ns) ss)
recalled_law Gs F ns ss r m k i h =
    let both = recall (lived Start Gs) F (unfolded [] Gs) ns ss
    (live_through Start Gs [] start_lives r) m k i h in
    replayed_law (lived Start Gs) F ns ss m both.0 both.1
