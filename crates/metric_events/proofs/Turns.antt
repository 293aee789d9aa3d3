-- In a series what is pending comes last, whatever happened since a history was at rest.
use Rattle.std.proofs.Common.{◌≡◌, ℕ, ◌==◌, Bool, true, false, cond, not, ◌&&◌, ◌||◌, List, [], ◌∷◌}
use Rattle.std.proofs.Common.{◌++◌, map, refl, ap, sym, ◌∙◌, subst, append_assoc}
use Rattle.std.specs.List.{list_all, filter}
use Rattle.std.proofs.lemmas.Bool.{and_parts, and_from, or_left, or_right, not-true, eq-eqb}
use Rattle.std.proofs.lemmas.Bool.{eqb-true}
use Rattle.std.proofs.lemmas.List.{append-nil}
use Rattle.std.proofs.lemmas.List.Elements.{filter-append}
use Rattle.series_id.specs.Identity.{Identity}
use Rattle.series_id.specs.Order.{same_series}
use Rattle.series_id.proofs.Order.{same_series-exact}
use Rattle.metric_events.specs.DataPoint.{DataPoint}
use Rattle.metric_events.specs.History.{History, Opened, ◌▸◌, ◌then◌}
use Rattle.metric_events.specs.Points.{points, is_home, is_flying, is_in_flight, is_among, at}
use Rattle.metric_events.specs.Points.{taken, landed, admitted, is_of_other_batch}
use Rattle.metric_events.specs.Running.{live_flushes}
use Rattle.metric_events.specs.Legal.{IsLegal, is_clear, is_in_order, is_in_live}
use Rattle.metric_events.specs.Standing.{stands}
use Rattle.metric_events.specs.Recovery.{bare, pending, not_pending, is_not_home, IsAtRest}
use Rattle.metric_events.specs.Recovery.{FlushesNothing, are_in_turn, IsInTurn}
use Rattle.metric_events.specs.declared.flight.Flight.{Flight}
use Rattle.metric_events.specs.declared.accepted.Accepted.{Accepted}
use Rattle.metric_events.specs.declared.place.Place.{Place}
use Rattle.metric_events.specs.declared.place.Place.TheVariants.{Home, InFlight, Acknowledged}
use Rattle.metric_events.specs.declared.place.Place.TheVariants.{Dropped}
use Rattle.metric_events.specs.declared.event.Event.TheVariants.{Admit, Undo, Take, Settle, Drop}
use Rattle.metric_events.specs.declared.event.Event.TheVariants.{GiveBack}
use Rattle.metric_events.specs.Recall.{news}
use Rattle.metric_events.proofs.Identities.{same_series-turned}
use Rattle.metric_events.proofs.Lists.{all_always, all_append, all_first, all_last, all_filter}
use Rattle.metric_events.proofs.Lists.{all_map, all_both, all_weaker, filter_keeps, filter_none}
use Rattle.metric_events.proofs.Moves.{made, rides, rides-in_live, apart_at}
use Rattle.metric_events.proofs.Invariants.{all_ride}
use Rattle.metric_events.proofs.Fits.{taken_point, landed_point}
use Rattle.metric_events.proofs.Behind.{undoes_own, behind, home_admitted, only_behind, news_home}
use Rattle.metric_events.proofs.Kept.{is_settled, settled_or_home, no_ride, moved_settled}
use Rattle.metric_events.proofs.Recovering.{Clearer, turn_clearer, turn_append, turn_order}
use Rattle.metric_events.proofs.Recovering.{home_points}

-- turns of fewer points, and of the same points in other states

pub turn_filter : (t : Accepted → Bool) (us qs : List Accepted) → are_in_turn qs us ≡ true
    → are_in_turn qs (filter t us) ≡ true
turn_filter t [] qs h = refl
turn_filter t (a ∷ us) qs h = both (t a) refl (turn_filter t us)
  where
    l : (list_all (λ q. is_clear a.sender a.point q.point q.sender) qs ≡ true)
        × (are_in_turn (qs ++ a ∷ []) us ≡ true)
    l = and_parts (list_all (λ q. is_clear a.sender a.point q.point q.sender) qs)
        (are_in_turn (qs ++ a ∷ []) us) h

    both : (v : Bool) → t a ≡ v → ((rs : List Accepted) → are_in_turn rs us ≡ true
        → are_in_turn rs (filter t us) ≡ true) → are_in_turn qs (filter t (a ∷ us)) ≡ true
    both true e r = rw e (and_from (list_all (λ q. is_clear a.sender a.point q.point q.sender) qs)
        (are_in_turn (qs ++ a ∷ []) (filter t us)) l.0 (r (qs ++ a ∷ []) l.1))
    both false e r = rw e (r qs (turn_clearer us (qs ++ a ∷ []) qs
        (record { all = λ s p k. all_first (λ a. is_clear s p a.point a.sender) qs (a ∷ []) k })
        l.1))

pub turn_numbered : (b : ℕ) (s : List ℕ) (ps : List DataPoint) (qs : List Accepted)
    → are_in_turn qs (map (admitted 0 s) ps) ≡ true → are_in_turn qs (map (admitted b s) ps) ≡ true
turn_numbered b s [] qs h = refl
turn_numbered b s (p ∷ ps) qs h =
    let l = and_parts (list_all (λ q. is_clear s p q.point q.sender) qs)
    (are_in_turn (qs ++ admitted 0 s p ∷ []) (map (admitted 0 s) ps)) h in
    and_from (list_all (λ q. is_clear s p q.point q.sender) qs)
    (are_in_turn (qs ++ admitted b s p ∷ []) (map (admitted b s) ps)) l.0
    (turn_numbered b s ps (qs ++ admitted b s p ∷ [])
    (turn_clearer (map (admitted 0 s) ps) (qs ++ admitted 0 s p ∷ [])
    (qs ++ admitted b s p ∷ []) (record {
      all = λ t q k. all_append (λ a. is_clear t q a.point a.sender) qs (admitted b s p ∷ [])
          (all_first (λ a. is_clear t q a.point a.sender) qs (admitted 0 s p ∷ []) k)
          (all_last (λ a. is_clear t q a.point a.sender) qs (admitted 0 s p ∷ []) k);
    }) l.1))

pub record Keeps (g : Accepted → Accepted) : Type 0 where
  pub point : (a : Accepted) → (g a).point ≡ a.point
  pub sender : (a : Accepted) → (g a).sender ≡ a.sender

abbrev pub are_clear : List ℕ → DataPoint → List Accepted → Bool
are_clear s p qs = list_all (λ q. is_clear s p q.point q.sender) qs

pub turn_map : (g : Accepted → Accepted) → Keeps g → (us qs : List Accepted)
    → are_in_turn qs us ≡ true → are_in_turn qs (map g us) ≡ true
turn_map g k [] qs h = refl
turn_map g k (a ∷ us) qs h =
    let l = and_parts (are_clear a.sender a.point qs) (are_in_turn (qs ++ a ∷ []) us) h in
    and_from (are_clear (g a).sender (g a).point qs) (are_in_turn (qs ++ g a ∷ []) (map g us))
    (ap (λ s. are_clear s (g a).point qs) (k.sender a)
    ∙ (ap (λ p. are_clear a.sender p qs) (k.point a) ∙ l.0))
    (turn_map g k us (qs ++ g a ∷ [])
    (turn_clearer us (qs ++ a ∷ []) (qs ++ g a ∷ []) (record { all = λ s p c. last s p c })
    l.1))
  where
    last : (s : List ℕ) (p : DataPoint) → are_clear s p (qs ++ a ∷ []) ≡ true
        → are_clear s p (qs ++ g a ∷ []) ≡ true
    last s p c =
        all_append (λ q. is_clear s p q.point q.sender) qs (g a ∷ [])
        (all_first (λ q. is_clear s p q.point q.sender) qs (a ∷ []) c)
        (ap (λ q. is_clear s p q (g a).sender && true) (k.point a)
        ∙ (ap (λ t. is_clear s p a.point t && true) (k.sender a)
        ∙ all_last (λ q. is_clear s p q.point q.sender) qs (a ∷ []) c))

pub keeps_bare : Keeps bare
keeps_bare = record { point = λ a. refl; sender = λ a. refl }

pub keeps_taken : (f : ℕ) (series : List Identity) → Keeps (taken f series)
keeps_taken f series = record {
  point = taken_point f series;
  sender = λ a. (elim (is_home a.place && is_among a.point.series series)
      as (λ v. (cond v (at (InFlight f) a) a).sender ≡ a.sender) [ true ↦ refl | false ↦ refl ]);
}

pub keeps_landed : (f : ℕ) (q : Place) → Keeps (landed f q)
keeps_landed f q = record {
  point = landed_point f q;
  sender = λ a. (elim (is_in_flight f a.place) as (λ v. (cond v (at q a) a).sender ≡ a.sender)
      [ true ↦ refl | false ↦ refl ]);
}

-- after rest

rest_settled : (E : History) → IsAtRest E → list_all is_settled (points E) ≡ true
rest_settled E r = all_both is_not_home (rides []) is_settled
    (λ a h k. settled_or_home a.point a.batch a.sender a.place k (not-true (is_home a.place) h))
    (points E) r.home (no_ride E r.live)

rest_behind : (E R : History) → IsAtRest E → IsLegal (E then R)
    → points (E then R) ≡ points E ++ news R
rest_behind E R r l = behind E R (undoes_own E R r.batches l)
    ∙ ap (λ us. us ++ news R) (moved_settled R (points E) (rest_settled E r))

news_in_turn : (E R : History) → IsAtRest E → IsLegal (E then R)
    → are_in_turn (points E) (news R) ≡ true
news_in_turn E (Opened O) r l = refl
news_in_turn E (R ▸ Admit b body) r l =
    turn_append (points E) (news R) (map (admitted b body.sender) body.points)
    (news_in_turn E R r l.0)
    (turn_numbered b body.sender body.points (points E ++ news R)
    (turn_order body.sender body.points (points E ++ news R)
    ∙ subst (λ (us : List Accepted). is_in_order us body.sender body.points ≡ true)
    (rest_behind E R r l.0) l.1.in_order))
news_in_turn E (R ▸ Undo b) r l =
    turn_filter (is_of_other_batch b) (news R) (points E) (news_in_turn E R r l.0)
news_in_turn E (R ▸ Take f series) r l =
    turn_map (taken f series) (keeps_taken f series) (news R) (points E) (news_in_turn E R r l.0)
news_in_turn E (R ▸ Settle f) r l =
    turn_map (landed f Acknowledged) (keeps_landed f Acknowledged) (news R) (points E)
    (news_in_turn E R r l.0)
news_in_turn E (R ▸ Drop f) r l = turn_map (landed f Dropped) (keeps_landed f Dropped) (news R)
    (points E) (news_in_turn E R r l.0)
news_in_turn E (R ▸ GiveBack f) r l =
    turn_map (landed f Home) (keeps_landed f Home) (news R) (points E) (news_in_turn E R r l.0)
news_in_turn E (R ▸ e) r l = news_in_turn E R r l.0

-- in a series, the states of two points, one behind the other: nothing that has landed is behind
-- what is pending or in flight, nothing in flight behind what is pending, and what is in flight is
-- in one flight

abbrev pub may_follow : Place → Place → Bool
may_follow Acknowledged q = true
may_follow Dropped q = true
may_follow (InFlight f) Home = true
may_follow (InFlight f) (InFlight g) = f == g
may_follow Home Home = true
may_follow p q = false

abbrev pub follows : Accepted → Accepted → Bool
follows a b = not (same_series a.point.series b.point.series) || may_follow a.place b.place

abbrev pub are_after : List Accepted → Bool
are_after [] = true
are_after (a ∷ qs) = list_all (follows a) qs && are_after qs

follow_home : (p q : Place) → is_home q ≡ true → may_follow p q ≡ true
follow_home Home Home h = refl
follow_home (InFlight f) Home h = refl
follow_home Acknowledged q h = refl
follow_home Dropped q h = refl
follow_home p q h = absurd (let q : false ≡ true = h in cc)

pub follow_itself : (p : Place) → may_follow p p ≡ true
follow_itself (InFlight f) = eq-eqb f f refl
follow_itself place = refl

all_homes : (a : Accepted) (us : List Accepted) → list_all (λ b. is_home b.place) us ≡ true
    → list_all (follows a) us ≡ true
all_homes a us h = all_weaker (λ b. is_home b.place) (follows a)
    (λ b k. or_right (not (same_series a.point.series b.point.series)) (may_follow a.place b.place)
    (follow_home a.place b.place k)) us h

pub after_homes : (qs us : List Accepted) → are_after qs ≡ true
    → list_all (λ a. is_home a.place) us ≡ true → are_after (qs ++ us) ≡ true
after_homes [] [] h k = refl
after_homes [] (a ∷ us) h k =
    let p = and_parts (is_home a.place) (list_all (λ a. is_home a.place) us) k in
    and_from (list_all (follows a) us) (are_after us) (all_homes a us p.1)
    (after_homes [] us refl p.1)
after_homes (a ∷ qs) us h k =
    let p = and_parts (list_all (follows a) qs) (are_after qs) h in
    and_from (list_all (follows a) (qs ++ us)) (are_after (qs ++ us))
    (all_append (follows a) qs us p.0 (all_homes a us k)) (after_homes qs us p.1 k)

pub after_filter : (t : Accepted → Bool) (qs : List Accepted) → are_after qs ≡ true
    → are_after (filter t qs) ≡ true
after_filter t [] h = refl
after_filter t (a ∷ qs) h =
    let p = and_parts (list_all (follows a) qs) (are_after qs) h in
    elim (t a) as (λ v. are_after (cond v (a ∷ filter t qs) (filter t qs)) ≡ true) [
      | true ↦ and_from (list_all (follows a) (filter t qs)) (are_after (filter t qs))
          (all_filter (follows a) t qs p.0) (after_filter t qs p.1)
      | false ↦ after_filter t qs p.1
    ]

after_map : (k : Accepted → Bool) (g : Accepted → Accepted)
    → ((a b : Accepted) → k a ≡ true → k b ≡ true → follows a b ≡ true → follows (g a) (g b) ≡ true)
    → (qs : List Accepted) → list_all k qs ≡ true → are_after qs ≡ true
    → are_after (map g qs) ≡ true
after_map k g e [] l h = refl
after_map k g e (a ∷ qs) l h =
    let p = and_parts (list_all (follows a) qs) (are_after qs) h in
    let c = and_parts (k a) (list_all k qs) l in
    and_from (list_all (follows (g a)) (map g qs)) (are_after (map g qs))
    (all_map (λ b. follows (g a) (g b)) (follows (g a)) g (λ b m. m) qs
    (all_both k (follows a) (λ b. follows (g a) (g b)) (λ b m n. e a b c.0 m n) qs c.1 p.0))
    (after_map k g e qs c.1 p.1)

-- two points whose states change
follow_changed : (a b c d : Accepted) → c.point ≡ a.point → d.point ≡ b.point
    → (same_series a.point.series b.point.series ≡ true → may_follow a.place b.place ≡ true
    → may_follow c.place d.place ≡ true) → follows a b ≡ true → follows c d ≡ true
follow_changed a b c d e f k h = both (same_series a.point.series b.point.series) refl
  where
    same : same_series c.point.series d.point.series ≡ same_series a.point.series b.point.series
    same = ap (λ p. same_series p.series d.point.series) e
        ∙ ap (λ p. same_series a.point.series p.series) f

    both : (v : Bool) → same_series a.point.series b.point.series ≡ v → follows c d ≡ true
    both true g = let m : (not true || may_follow a.place b.place) ≡ true = rw g at h in
        or_right (not (same_series c.point.series d.point.series)) (may_follow c.place d.place)
        (k g m)
    both false g = or_left (not (same_series c.point.series d.point.series))
        (may_follow c.place d.place) (ap not (same ∙ g))

taken_place : (f : ℕ) (series : List Identity) (a : Accepted)
    → (taken f series a).place
    ≡ cond (is_home a.place && is_among a.point.series series) (InFlight f) a.place
taken_place f series a = elim (is_home a.place && is_among a.point.series series)
    as (λ v. (cond v (at (InFlight f) a) a).place ≡ cond v (InFlight f) a.place)
    [ true ↦ refl | false ↦ refl ]

landed_place : (f : ℕ) (q : Place) (a : Accepted)
    → (landed f q a).place ≡ cond (is_in_flight f a.place) q a.place
landed_place f q a = elim (is_in_flight f a.place)
    as (λ v. (cond v (at q a) a).place ≡ cond v q a.place) [ true ↦ refl | false ↦ refl ]

follow_taken : (f : ℕ) (v : Bool) (p q : Place) → (v ≡ true → is_flying p ≡ false)
    → (v ≡ true → is_flying q ≡ false) → may_follow p q ≡ true
    → may_follow (cond (is_home p && v) (InFlight f) p) (cond (is_home q && v) (InFlight f) q)
    ≡ true
follow_taken f v Acknowledged q j k h = refl
follow_taken f v Dropped q j k h = refl
follow_taken f true Home Home j k h = eq-eqb f f refl
follow_taken f false Home Home j k h = refl
follow_taken f v Home q j k h = absurd (let q : false ≡ true = h in cc)
follow_taken f true (InFlight i) q j k h = absurd (let q : true ≡ false = j refl in cc)
follow_taken f false (InFlight i) Home j k h = refl
follow_taken f false (InFlight i) q j k h = h

not_flying : (live : List Flight) (series : List Identity)
    → list_all (λ y. not (is_in_live live y)) series ≡ true
    → (p : DataPoint) (b : ℕ) (s : List ℕ) (place : Place)
    → rides live (made p b s place) ≡ true → is_among p.series series ≡ true
    → is_flying place ≡ false
not_flying live series e p b s (InFlight g) r h =
    absurd (let q : true ≡ false =
    sym h ∙ apart_at live series p.series e (rides-in_live live p.series g r) in cc)
not_flying live series e p b s place r h = refl

pub after_taken : (live : List Flight) (f : ℕ) (series : List Identity)
    → list_all (λ y. not (is_in_live live y)) series ≡ true → (qs : List Accepted)
    → list_all (rides live) qs ≡ true → are_after qs ≡ true
    → are_after (map (taken f series) qs) ≡ true
after_taken live f series e qs r h =
    after_map (rides live) (taken f series)
    (λ a b m n. follow_changed a b (taken f series a) (taken f series b)
    (taken_point f series a) (taken_point f series b) (λ s k. step a b m n s k)) qs r h
  where
    step : (a b : Accepted) → rides live a ≡ true → rides live b ≡ true
        → same_series a.point.series b.point.series ≡ true → may_follow a.place b.place ≡ true
        → may_follow (taken f series a).place (taken f series b).place ≡ true
    step a b m n s k =
        let one : is_among b.point.series series ≡ is_among a.point.series series =
        ap (λ x. is_among x series) (sym (same_series-exact a.point.series b.point.series s)) in
        ap (λ p. may_follow p (taken f series b).place) (taken_place f series a)
        ∙ (ap (may_follow (cond (is_home a.place && is_among a.point.series series) (InFlight f)
        a.place)) (taken_place f series b
        ∙ ap (λ v. cond (is_home b.place && v) (InFlight f) b.place) one)
        ∙ follow_taken f (is_among a.point.series series) a.place b.place
        (not_flying live series e a.point a.batch a.sender a.place m)
        (λ v. not_flying live series e b.point b.batch b.sender b.place n (one ∙ v)) k)

follow_landed : (f : ℕ) (r p q : Place) → may_follow p q ≡ true
    → may_follow (cond (is_in_flight f p) r p) (cond (is_in_flight f q) r q) ≡ true
follow_landed f r Acknowledged q h = refl
follow_landed f r Dropped q h = refl
follow_landed f r Home Home h = refl
follow_landed f r (InFlight i) Home h = follow_home (cond (i == f) r (InFlight i)) Home refl
follow_landed f r (InFlight i) (InFlight g) h =
    subst (λ n. may_follow (cond (i == f) r (InFlight i)) (cond (n == f) r (InFlight n)) ≡ true)
    (eqb-true i g h) (follow_itself (cond (i == f) r (InFlight i)))
follow_landed f r p q h = absurd (let q : false ≡ true = h in cc)

pub after_landed : (f : ℕ) (q : Place) (qs : List Accepted) → are_after qs ≡ true
    → are_after (map (landed f q) qs) ≡ true
after_landed f q qs h = after_map (λ a. true) (landed f q)
    (λ a b m n. follow_changed a b (landed f q a) (landed f q b) (landed_point f q a)
    (landed_point f q b) (λ s k. step a b k)) qs (all_always (λ a. true) (λ a. refl) qs) h
  where
    step : (a b : Accepted) → may_follow a.place b.place ≡ true
        → may_follow (landed f q a).place (landed f q b).place ≡ true
    step a b k =
        ap (λ p. may_follow p (landed f q b).place) (landed_place f q a)
        ∙ (ap (may_follow (cond (is_in_flight f a.place) q a.place)) (landed_place f q b)
        ∙ follow_landed f q a.place b.place k)

news_ride : (E R : History) → IsAtRest E → IsLegal (E then R)
    → list_all (rides (live_flushes (E then R))) (news R) ≡ true
news_ride E R r l = all_last (rides (live_flushes (E then R))) (points E) (news R)
    (subst (λ (us : List Accepted). list_all (rides (live_flushes (E then R))) us ≡ true)
    (rest_behind E R r l) (all_ride (E then R)))

news_after : (E R : History) → IsAtRest E → IsLegal (E then R) → are_after (news R) ≡ true
news_after E (Opened O) r l = refl
news_after E (R ▸ Admit b body) r l =
    after_homes (news R) (map (admitted b body.sender) body.points) (news_after E R r l.0)
    (home_admitted b body.sender body.points)
news_after E (R ▸ Undo b) r l = after_filter (is_of_other_batch b) (news R) (news_after E R r l.0)
news_after E (R ▸ Take f series) r l =
    after_taken (live_flushes (E then R)) f series l.1.apart (news R) (news_ride E R r l.0)
    (news_after E R r l.0)
news_after E (R ▸ Settle f) r l = after_landed f Acknowledged (news R) (news_after E R r l.0)
news_after E (R ▸ Drop f) r l = after_landed f Dropped (news R) (news_after E R r l.0)
news_after E (R ▸ GiveBack f) r l = after_landed f Home (news R) (news_after E R r l.0)
news_after E (R ▸ e) r l = news_after E R r l.0

-- what is pending may come after all the rest

pub swapped : (qs rs : List Accepted) (a : Accepted)
    → Clearer ((qs ++ a ∷ []) ++ rs) ((qs ++ rs) ++ a ∷ [])
swapped qs rs a = record { all = λ s p k. swap s p k }
  where
    swap : (s : List ℕ) (p : DataPoint) → are_clear s p ((qs ++ a ∷ []) ++ rs) ≡ true
        → are_clear s p ((qs ++ rs) ++ a ∷ []) ≡ true
    swap s p k =
        let both = all_first (λ q. is_clear s p q.point q.sender) (qs ++ a ∷ []) rs k in
        all_append (λ q. is_clear s p q.point q.sender) (qs ++ rs) (a ∷ [])
        (all_append (λ q. is_clear s p q.point q.sender) qs rs
        (all_first (λ q. is_clear s p q.point q.sender) qs (a ∷ []) both)
        (all_last (λ q. is_clear s p q.point q.sender) (qs ++ a ∷ []) rs k))
        (all_last (λ q. is_clear s p q.point q.sender) qs (a ∷ []) both)

-- behind a pending point no other of its series has another state
none_behind : (a : Accepted) → is_home a.place ≡ true → (qs : List Accepted)
    → list_all (follows a) qs ≡ true → are_clear a.sender a.point (filter is_not_home qs) ≡ true
none_behind a h [] k = refl
none_behind a h (b ∷ qs) k = both (is_home b.place) refl (none_behind a h qs p.1)
  where
    p : (follows a b ≡ true) × (list_all (follows a) qs ≡ true)
    p = and_parts (follows a b) (list_all (follows a) qs) k

    away : (p q : Place) → is_home p ≡ true → is_home q ≡ false → may_follow p q ≡ false
    away Home Home h k = absurd (let q : true ≡ false = k in cc)
    away Home q h k = refl
    away p q h k = absurd (let q : false ≡ true = h in cc)

    clear : (v : Bool) → same_series a.point.series b.point.series ≡ v → is_home b.place ≡ false
        → is_clear a.sender a.point b.point b.sender ≡ true
    clear true e n = absurd (let m = away a.place b.place h n in
        let q : (not true || false) ≡ true = rw (e, m) at p.0 in cc)
    clear false e n = or_left (not (same_series b.point.series a.point.series))
        _ (ap not (same_series-turned b.point.series a.point.series ∙ e))

    both : (v : Bool) → is_home b.place ≡ v
        → are_clear a.sender a.point (filter is_not_home qs) ≡ true
        → are_clear a.sender a.point (filter is_not_home (b ∷ qs)) ≡ true
    both true e r = rw e r
    both false e r = rw e (and_from (is_clear a.sender a.point b.point b.sender)
        (are_clear a.sender a.point (filter is_not_home qs))
        (clear (same_series a.point.series b.point.series) refl e) r)

pub split_turn : (us qs : List Accepted) → are_in_turn qs us ≡ true → are_after us ≡ true
    → are_in_turn (qs ++ filter is_not_home us) (filter (stands is_home) us) ≡ true
split_turn [] qs h k = refl
split_turn (a ∷ us) qs h k = both (is_home a.place) refl (split_turn us)
  where
    l : (are_clear a.sender a.point qs ≡ true) × (are_in_turn (qs ++ a ∷ []) us ≡ true)
    l = and_parts (are_clear a.sender a.point qs) (are_in_turn (qs ++ a ∷ []) us) h

    p : (list_all (follows a) us ≡ true) × (are_after us ≡ true)
    p = and_parts (list_all (follows a) us) (are_after us) k

    both : (v : Bool) → is_home a.place ≡ v
        → ((rs : List Accepted) → are_in_turn rs us ≡ true → are_after us ≡ true
        → are_in_turn (rs ++ filter is_not_home us) (filter (stands is_home) us) ≡ true)
        → are_in_turn (qs ++ filter is_not_home (a ∷ us)) (filter (stands is_home) (a ∷ us))
        ≡ true
    both true e r = rw e (and_from (are_clear a.sender a.point (qs ++ filter is_not_home us))
        (are_in_turn ((qs ++ filter is_not_home us) ++ a ∷ []) (filter (stands is_home) us))
        (all_append (λ q. is_clear a.sender a.point q.point q.sender) qs (filter is_not_home us) l.0
        (none_behind a e us p.0))
        (turn_clearer (filter (stands is_home) us) ((qs ++ a ∷ []) ++ filter is_not_home us)
        ((qs ++ filter is_not_home us) ++ a ∷ []) (swapped qs (filter is_not_home us) a)
        (r (qs ++ a ∷ []) l.1 p.1)))
    both false e r = rw e (subst (λ (rs : List Accepted). are_in_turn rs
        (filter (stands is_home) us) ≡ true) (append_assoc qs (a ∷ []) (filter is_not_home us))
        (r (qs ++ a ∷ []) l.1 p.1))

pub in_turn_law : (E R : History) → IsAtRest E → IsLegal (E then R) → IsInTurn (E then R)
in_turn_law E R r l =
    subst (λ (us : List Accepted). are_in_turn us (pending (E then R)) ≡ true) (sym others)
    (turn_map bare keeps_bare (home_points (E then R)) (points E ++ filter is_not_home (news R))
    (subst (λ (us : List Accepted). are_in_turn (points E ++ filter is_not_home (news R)) us ≡ true)
    (sym homes) (split_turn (news R) (points E) (news_in_turn E R r l) (news_after E R r l))))
  where
    others : not_pending (E then R) ≡ points E ++ filter is_not_home (news R)
    others = ap (filter is_not_home) (rest_behind E R r l)
        ∙ (filter-append is_not_home (points E) (news R)
        ∙ ap (λ us. us ++ filter is_not_home (news R))
        (filter_keeps is_not_home (points E) r.home))

    homes : home_points (E then R) ≡ filter (stands is_home) (news R)
    homes = ap (filter (stands is_home)) (rest_behind E R r l)
        ∙ (filter-append (stands is_home) (points E) (news R)
        ∙ ap (λ us. us ++ filter (stands is_home) (news R))
        (filter_none (stands is_home) (points E) r.home))

-- where no flush is taken or ended since, the points that are not pending are those of the rest
pub rested_law : (E R : History) → IsAtRest E → FlushesNothing R → IsLegal (E then R)
    → not_pending (E then R) ≡ points E
rested_law E R r n l =
    ap (filter is_not_home) (only_behind E R r.batches n l)
    ∙ (filter-append is_not_home (points E) (news R)
    ∙ (ap (λ us. us ++ filter is_not_home (news R)) (filter_keeps is_not_home (points E) r.home)
    ∙ (ap (λ us. points E ++ us) (filter_none is_not_home (news R)
    (all_weaker (λ a. is_home a.place) (λ a. not (is_not_home a))
    (λ a h. ap (λ v. not (not v)) h) (news R) (news_home R n)))
    ∙ append-nil (points E))))
