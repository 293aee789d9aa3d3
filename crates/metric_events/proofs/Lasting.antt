-- Two histories that are alike stay alike, whatever comes after both, under whatever numbers.
use Rattle.std.proofs.Common.{◌≡◌, ℕ, ◌==◌, Bool, true, false, cond, not, ◌&&◌, ◌||◌, List, [], ◌∷◌}
use Rattle.std.proofs.Common.{◌++◌, map, refl, ap, sym, ◌∙◌, inl, inr}
use Rattle.std.specs.List.{list_all, filter}
use Rattle.std.proofs.lemmas.Bool.{and_from, or_cases, or_left, eqb-true, eqb-false, eq-eqb, ne_eqb}
use Rattle.std.proofs.lemmas.List.{map-append}
use Rattle.series_id.specs.Identity.{Identity}
use Rattle.metric_events.specs.DataPoint.{DataPoint}
use Rattle.metric_events.specs.History.{History, Opened, ◌▸◌, ◌then◌}
use Rattle.metric_events.specs.Points.{points, is_home, is_flying, is_in_flight, is_among, at}
use Rattle.metric_events.specs.Points.{taken, landed, admitted, is_of_other_batch}
use Rattle.metric_events.specs.Running.{live_flushes, is_other_flight}
use Rattle.metric_events.specs.Series.{merged}
use Rattle.metric_events.specs.Legal.{is_in_live}
use Rattle.metric_events.specs.Strike.{is_taken_in}
use Rattle.metric_events.specs.Choice.{is_cargo, cargo, flush_points, present, series_taken}
use Rattle.metric_events.specs.Recovery.{bare}
use Rattle.metric_events.specs.Lasting.{renumbered, numbers, batch_number, flush_number, is_one_of}
use Rattle.metric_events.specs.Lasting.{KeepsApart, renumbered_flight}
use Rattle.metric_events.specs.declared.flight.Flight.{Flight}
use Rattle.metric_events.specs.declared.accepted.Accepted.{Accepted}
use Rattle.metric_events.specs.declared.place.Place.{Place}
use Rattle.metric_events.specs.declared.place.Place.TheVariants.{Home, InFlight, Acknowledged}
use Rattle.metric_events.specs.declared.place.Place.TheVariants.{Dropped}
use Rattle.metric_events.specs.declared.event.Event.TheVariants.{Admit, Undo, Confirm, Take, Settle}
use Rattle.metric_events.specs.declared.event.Event.TheVariants.{Drop, GiveBack}
use Rattle.metric_events.specs.Recall.{moved, news}
use Rattle.metric_events.proofs.Lists.{all_always, all_append, all_filter, all_map, all_weaker}
use Rattle.metric_events.proofs.Lists.{any_append_right, filter_where, map_where}
use Rattle.metric_events.proofs.Moves.{made}
use Rattle.metric_events.proofs.Kept.{is_settled_at, is_settled, settled_taken, settled_landed}

-- numbers

pub same_number : (to : ℕ → ℕ) (ns : List ℕ) (m n : ℕ) → KeepsApart to ns → is_one_of m ns ≡ true
    → is_one_of n ns ≡ true → (to m == to n) ≡ (m == n)
same_number to ns m n k h i = both (m == n) refl
  where
    both : (v : Bool) → (m == n) ≡ v → (to m == to n) ≡ (m == n)
    both true e = rw e (eq-eqb (to m) (to n) (ap to (eqb-true m n e)))
    both false e = rw e (ne_eqb (to m) (to n) (λ q. eqb-false m n e (k.all m n h i q)))

pub apart_last : (to : ℕ → ℕ) (xs ys : List ℕ) → KeepsApart to (xs ++ ys) → KeepsApart to ys
apart_last to xs ys k = record {
  all =
      λ m n h i. k.all m n (any_append_right (λ c. c == m) xs ys h)
      (any_append_right (λ c. c == n) xs ys i);
}

pub first_one : (n : ℕ) (ns : List ℕ) → is_one_of n (n ∷ ns) ≡ true
first_one n ns = or_left (n == n) (is_one_of n ns) (eq-eqb n n refl)

-- a point with its batch and its flush numbered another way

abbrev pub turned_place : (ℕ → ℕ) → Place → Place
turned_place flush Home = Home
turned_place flush (InFlight f) = InFlight (flush f)
turned_place flush Acknowledged = Acknowledged
turned_place flush Dropped = Dropped

abbrev pub turned : (ℕ → ℕ) → (ℕ → ℕ) → Accepted → Accepted
turned batch flush a = record {
  point = a.point;
  batch = batch a.batch;
  sender = a.sender;
  place =
      turned_place flush a.place;
}

abbrev pub flies_in_at : List ℕ → Place → Bool
flies_in_at ns (InFlight f) = is_one_of f ns
flies_in_at ns place = true

abbrev pub flies_in : List ℕ → Accepted → Bool
flies_in ns a = flies_in_at ns a.place

abbrev pub is_of_one : List ℕ → Accepted → Bool
is_of_one ns a = is_one_of a.batch ns

flies_later : (xs ns : List ℕ) (p : DataPoint) (b : ℕ) (s : List ℕ) (place : Place)
    → flies_in ns (made p b s place) ≡ true → flies_in (xs ++ ns) (made p b s place) ≡ true
flies_later xs ns p b s (InFlight f) h = any_append_right (λ c. c == f) xs ns h
flies_later xs ns p b s place h = refl

all_later : (xs ns : List ℕ) (qs : List Accepted) → list_all (flies_in ns) qs ≡ true
    → list_all (flies_in (xs ++ ns)) qs ≡ true
all_later xs ns qs h = all_weaker (flies_in ns) (flies_in (xs ++ ns))
    (λ a k. flies_later xs ns a.point a.batch a.sender a.place k) qs h

flies_taken : (ns : List ℕ) (f : ℕ) (series : List Identity) → is_one_of f ns ≡ true
    → (a : Accepted) → flies_in ns a ≡ true → flies_in ns (taken f series a) ≡ true
flies_taken ns f series o a h = elim (is_home a.place && is_among a.point.series series)
    as (λ v. flies_in ns (cond v (at (InFlight f) a) a) ≡ true) [ true ↦ o | false ↦ h ]

flies_landed : (ns : List ℕ) (f : ℕ) (q : Place) → flies_in_at ns q ≡ true → (a : Accepted)
    → flies_in ns a ≡ true → flies_in ns (landed f q a) ≡ true
flies_landed ns f q o a h = elim (is_in_flight f a.place)
    as (λ v. flies_in ns (cond v (at q a) a) ≡ true) [ true ↦ o | false ↦ h ]

flies_admitted : (ns : List ℕ) (b : ℕ) (s : List ℕ) (ps : List DataPoint)
    → list_all (flies_in ns) (map (admitted b s) ps) ≡ true
flies_admitted ns b s [] = refl
flies_admitted ns b s (p ∷ ps) = flies_admitted ns b s ps

pub news_fly : (G : History) → list_all (flies_in (numbers flush_number G)) (news G) ≡ true
news_fly (Opened O) = refl
news_fly (G ▸ Admit b body) = all_append (flies_in (numbers flush_number G)) (news G)
    (map (admitted b body.sender) body.points) (news_fly G)
    (flies_admitted (numbers flush_number G) b body.sender body.points)
news_fly (G ▸ Undo b) =
    all_filter (flies_in (numbers flush_number G)) (is_of_other_batch b) (news G) (news_fly G)
news_fly (G ▸ Take f series) = all_map (flies_in (f ∷ numbers flush_number G))
    (flies_in (f ∷ numbers flush_number G)) (taken f series)
    (flies_taken (f ∷ numbers flush_number G) f series (first_one f (numbers flush_number G)))
    (news G) (all_later (f ∷ []) (numbers flush_number G) (news G) (news_fly G))
news_fly (G ▸ Settle f) = all_map (flies_in (f ∷ numbers flush_number G))
    (flies_in (f ∷ numbers flush_number G)) (landed f Acknowledged)
    (flies_landed (f ∷ numbers flush_number G) f Acknowledged refl) (news G)
    (all_later (f ∷ []) (numbers flush_number G) (news G) (news_fly G))
news_fly (G ▸ Drop f) = all_map (flies_in (f ∷ numbers flush_number G))
    (flies_in (f ∷ numbers flush_number G)) (landed f Dropped)
    (flies_landed (f ∷ numbers flush_number G) f Dropped refl) (news G)
    (all_later (f ∷ []) (numbers flush_number G) (news G) (news_fly G))
news_fly (G ▸ GiveBack f) = all_map (flies_in (f ∷ numbers flush_number G))
    (flies_in (f ∷ numbers flush_number G)) (landed f Home)
    (flies_landed (f ∷ numbers flush_number G) f Home refl) (news G)
    (all_later (f ∷ []) (numbers flush_number G) (news G) (news_fly G))
news_fly (G ▸ e) = news_fly G

one_later : (xs ns : List ℕ) (qs : List Accepted) → list_all (is_of_one ns) qs ≡ true
    → list_all (is_of_one (xs ++ ns)) qs ≡ true
one_later xs ns qs h = all_weaker (is_of_one ns) (is_of_one (xs ++ ns))
    (λ a k. any_append_right (λ c. c == a.batch) xs ns k) qs h

one_taken : (ns : List ℕ) (f : ℕ) (series : List Identity) (a : Accepted) → is_of_one ns a ≡ true
    → is_of_one ns (taken f series a) ≡ true
one_taken ns f series a h = elim (is_home a.place && is_among a.point.series series)
    as (λ v. is_of_one ns (cond v (at (InFlight f) a) a) ≡ true) [ true ↦ h | false ↦ h ]

one_landed : (ns : List ℕ) (f : ℕ) (q : Place) (a : Accepted) → is_of_one ns a ≡ true
    → is_of_one ns (landed f q a) ≡ true
one_landed ns f q a h = elim (is_in_flight f a.place)
    as (λ v. is_of_one ns (cond v (at q a) a) ≡ true) [ true ↦ h | false ↦ h ]

one_admitted : (ns : List ℕ) (b : ℕ) (s : List ℕ) (ps : List DataPoint)
    → list_all (is_of_one (b ∷ ns)) (map (admitted b s) ps) ≡ true
one_admitted ns b s [] = refl
one_admitted ns b s (p ∷ ps) = and_from (is_one_of b (b ∷ ns))
    (list_all (is_of_one (b ∷ ns)) (map (admitted b s) ps)) (first_one b ns)
    (one_admitted ns b s ps)

-- and is of a batch of G, if it is new
pub news_one : (G : History) → list_all (is_of_one (numbers batch_number G)) (news G) ≡ true
news_one (Opened O) = refl
news_one (G ▸ Admit b body) = all_append (is_of_one (b ∷ numbers batch_number G)) (news G)
    (map (admitted b body.sender) body.points)
    (one_later (b ∷ []) (numbers batch_number G) (news G) (news_one G))
    (one_admitted (numbers batch_number G) b body.sender body.points)
news_one (G ▸ Undo b) = all_filter (is_of_one (b ∷ numbers batch_number G)) (is_of_other_batch b)
    (news G) (one_later (b ∷ []) (numbers batch_number G) (news G) (news_one G))
news_one (G ▸ Confirm b) = one_later (b ∷ []) (numbers batch_number G) (news G) (news_one G)
news_one (G ▸ Take f series) = all_map (is_of_one (numbers batch_number G))
    (is_of_one (numbers batch_number G)) (taken f series)
    (one_taken (numbers batch_number G) f series) (news G) (news_one G)
news_one (G ▸ Settle f) = all_map (is_of_one (numbers batch_number G))
    (is_of_one (numbers batch_number G)) (landed f Acknowledged)
    (one_landed (numbers batch_number G) f Acknowledged) (news G) (news_one G)
news_one (G ▸ Drop f) = all_map (is_of_one (numbers batch_number G))
    (is_of_one (numbers batch_number G)) (landed f Dropped)
    (one_landed (numbers batch_number G) f Dropped) (news G) (news_one G)
news_one (G ▸ GiveBack f) = all_map (is_of_one (numbers batch_number G))
    (is_of_one (numbers batch_number G)) (landed f Home)
    (one_landed (numbers batch_number G) f Home) (news G) (news_one G)
news_one (G ▸ e) = news_one G

-- an event with other numbers does to such a point what the event does

turned_taken_at : (batch flush : ℕ → ℕ) (f : ℕ) (series : List Identity) (p : DataPoint) (b : ℕ)
    (s : List ℕ) (place : Place) → taken (flush f) series (turned batch flush (made p b s place))
    ≡ turned batch flush (taken f series (made p b s place))
turned_taken_at batch flush f series p b s Home =
    elim (is_among p.series series) as (λ v. cond v (made p (batch b) s (InFlight (flush f)))
    (made p (batch b) s Home) ≡ turned batch flush
    (cond v (made p b s (InFlight f)) (made p b s Home))) [ true ↦ refl | false ↦ refl ]
turned_taken_at batch flush f series p b s place = refl

turned_taken : (batch flush : ℕ → ℕ) (f : ℕ) (series : List Identity) (qs : List Accepted)
    → map (taken (flush f) series) (map (turned batch flush) qs)
    ≡ map (turned batch flush) (map (taken f series) qs)
turned_taken batch flush f series qs =
    map_where (λ a. true) (taken (flush f) series) (turned batch flush) (taken f series)
    (λ a k. turned_taken_at batch flush f series a.point a.batch a.sender a.place) qs
    (all_always (λ a. true) (λ a. refl) qs)

turned_landed_at : (batch flush : ℕ → ℕ) (ns : List ℕ) (f : ℕ) (q : Place) → KeepsApart flush ns
    → is_one_of f ns ≡ true → turned_place flush q ≡ q
    → (p : DataPoint) (b : ℕ) (s : List ℕ) (place : Place)
    → flies_in ns (made p b s place) ≡ true
    → landed (flush f) q (turned batch flush (made p b s place))
    ≡ turned batch flush (landed f q (made p b s place))
turned_landed_at batch flush ns f q k o e p b s (InFlight g) h =
    ap (λ v. cond v (made p (batch b) s q) (made p (batch b) s (InFlight (flush g))))
    (same_number flush ns g f k h o)
    ∙ (elim (g == f) as (λ v. cond v (made p (batch b) s q)
    (made p (batch b) s (InFlight (flush g)))
    ≡ turned batch flush (cond v (made p b s q) (made p b s (InFlight g))))
    [ true ↦ ap (made p (batch b) s) (sym e) | false ↦ refl ])
turned_landed_at batch flush ns f q k o e p b s place h = refl

turned_landed : (batch flush : ℕ → ℕ) (ns : List ℕ) (f : ℕ) (q : Place) → KeepsApart flush (f ∷ ns)
    → turned_place flush q ≡ q → (qs : List Accepted) → list_all (flies_in ns) qs ≡ true
    → map (landed (flush f) q) (map (turned batch flush) qs)
    ≡ map (turned batch flush) (map (landed f q) qs)
turned_landed batch flush ns f q k e qs h =
    map_where (flies_in (f ∷ ns)) (landed (flush f) q) (turned batch flush) (landed f q)
    (λ a l. turned_landed_at batch flush (f ∷ ns) f q k (first_one f ns) e a.point a.batch
    a.sender a.place l) qs (all_later (f ∷ []) ns qs h)

turned_admitted : (batch flush : ℕ → ℕ) (b : ℕ) (s : List ℕ) (ps : List DataPoint)
    → map (turned batch flush) (map (admitted b s) ps) ≡ map (admitted (batch b) s) ps
turned_admitted batch flush b s [] = refl
turned_admitted batch flush b s (p ∷ ps) =
    ap (λ us. admitted (batch b) s p ∷ us) (turned_admitted batch flush b s ps)

turned_other : (batch flush : ℕ → ℕ) (ns : List ℕ) (b : ℕ) → KeepsApart batch (b ∷ ns)
    → (qs : List Accepted) → list_all (is_of_one ns) qs ≡ true
    → filter (is_of_other_batch (batch b)) (map (turned batch flush) qs)
    ≡ map (turned batch flush) (filter (is_of_other_batch b) qs)
turned_other batch flush ns b k qs h =
    filter_where (is_of_one (b ∷ ns)) (is_of_other_batch (batch b)) (is_of_other_batch b)
    (turned batch flush) (λ a l. ap not
    (same_number batch (b ∷ ns) a.batch b k l (first_one b ns))) qs
    (one_later (b ∷ []) ns qs h)

pub turned_news : (batch flush : ℕ → ℕ) (G : History) → KeepsApart batch (numbers batch_number G)
    → KeepsApart flush (numbers flush_number G)
    → news (renumbered batch flush G) ≡ map (turned batch flush) (news G)
turned_news batch flush (Opened O) j k = refl
turned_news batch flush (G ▸ Admit b body) j k =
    ap (λ us. us ++ map (admitted (batch b) body.sender) body.points)
    (turned_news batch flush G (apart_last batch (b ∷ []) (numbers batch_number G) j) k)
    ∙ sym (map-append (turned batch flush) (news G) (map (admitted b body.sender) body.points)
    ∙ ap (λ us. map (turned batch flush) (news G) ++ us)
    (turned_admitted batch flush b body.sender body.points))
turned_news batch flush (G ▸ Undo b) j k =
    ap (filter (is_of_other_batch (batch b)))
    (turned_news batch flush G (apart_last batch (b ∷ []) (numbers batch_number G) j) k)
    ∙ turned_other batch flush (numbers batch_number G) b j (news G) (news_one G)
turned_news batch flush (G ▸ Confirm b) j k =
    turned_news batch flush G (apart_last batch (b ∷ []) (numbers batch_number G) j) k
turned_news batch flush (G ▸ Take f series) j k =
    ap (map (taken (flush f) series))
    (turned_news batch flush G j (apart_last flush (f ∷ []) (numbers flush_number G) k))
    ∙ turned_taken batch flush f series (news G)
turned_news batch flush (G ▸ Settle f) j k =
    ap (map (landed (flush f) Acknowledged))
    (turned_news batch flush G j (apart_last flush (f ∷ []) (numbers flush_number G) k))
    ∙ turned_landed batch flush (numbers flush_number G) f Acknowledged k refl (news G)
    (news_fly G)
turned_news batch flush (G ▸ Drop f) j k =
    ap (map (landed (flush f) Dropped))
    (turned_news batch flush G j (apart_last flush (f ∷ []) (numbers flush_number G) k))
    ∙ turned_landed batch flush (numbers flush_number G) f Dropped k refl (news G)
    (news_fly G)
turned_news batch flush (G ▸ GiveBack f) j k =
    ap (map (landed (flush f) Home)) (turned_news batch flush G j
    (apart_last flush (f ∷ []) (numbers flush_number G) k))
    ∙ turned_landed batch flush (numbers flush_number G) f Home k refl (news G) (news_fly G)
turned_news batch flush (G ▸ e) j k = turned_news batch flush G j k

pub bare_turned : (batch flush : ℕ → ℕ) (qs : List Accepted)
    → map bare (map (turned batch flush) qs) ≡ map bare qs
bare_turned batch flush [] = refl
bare_turned batch flush (a ∷ qs) = ap (λ us. bare a ∷ us) (bare_turned batch flush qs)

-- what is neither pending nor in flight stays as it is

abbrev pub went : History → Accepted → Accepted
went (Opened O) a = a
went (G ▸ Take f series) a = taken f series (went G a)
went (G ▸ Settle f) a = landed f Acknowledged (went G a)
went (G ▸ Drop f) a = landed f Dropped (went G a)
went (G ▸ GiveBack f) a = landed f Home (went G a)
went (G ▸ e) a = went G a

pub went_one : (G : History) (a : Accepted) (qs : List Accepted)
    → moved G (a ∷ qs) ≡ went G a ∷ moved G qs
went_one (Opened O) a qs = refl
went_one (G ▸ Take f series) a qs = ap (map (taken f series)) (went_one G a qs)
went_one (G ▸ Settle f) a qs = ap (map (landed f Acknowledged)) (went_one G a qs)
went_one (G ▸ Drop f) a qs = ap (map (landed f Dropped)) (went_one G a qs)
went_one (G ▸ GiveBack f) a qs = ap (map (landed f Home)) (went_one G a qs)
went_one (G ▸ e) a qs = went_one G a qs

pub went_settled : (G : History) (a : Accepted) → is_settled a ≡ true → went G a ≡ a
went_settled (Opened O) a h = refl
went_settled (G ▸ Take f series) a h =
    ap (taken f series) (went_settled G a h)
    ∙ settled_taken f series a.point a.batch a.sender a.place h
went_settled (G ▸ Settle f) a h = ap (landed f Acknowledged) (went_settled G a h)
    ∙ settled_landed f Acknowledged a.point a.batch a.sender a.place h
went_settled (G ▸ Drop f) a h = ap (landed f Dropped) (went_settled G a h)
    ∙ settled_landed f Dropped a.point a.batch a.sender a.place h
went_settled (G ▸ GiveBack f) a h =
    ap (landed f Home) (went_settled G a h)
    ∙ settled_landed f Home a.point a.batch a.sender a.place h
went_settled (G ▸ e) a h = went_settled G a h

-- flushes and senders

abbrev pub numbered_in : List ℕ → Flight → Bool
numbered_in ns l = is_one_of l.number ns

live_later : (f : ℕ) (ns : List ℕ) (ls : List Flight) → list_all (numbered_in ns) ls ≡ true
    → list_all (numbered_in (f ∷ ns)) ls ≡ true
live_later f ns ls h = all_weaker (numbered_in ns) (numbered_in (f ∷ ns))
    (λ l k. any_append_right (λ n. n == l.number) (f ∷ []) ns k) ls h

live_ended : (f : ℕ) (ns : List ℕ) (ls : List Flight) → list_all (numbered_in ns) ls ≡ true
    → list_all (numbered_in (f ∷ ns)) (filter (is_other_flight f) ls) ≡ true
live_ended f ns ls h =
    all_filter (numbered_in (f ∷ ns)) (is_other_flight f) ls (live_later f ns ls h)

pub live_numbers : (H G : History) → live_flushes H ≡ []
    → list_all (numbered_in (numbers flush_number G)) (live_flushes (H then G)) ≡ true
live_numbers H (Opened O) e = ap (list_all (numbered_in [])) e
live_numbers H (G ▸ Take f series) e =
    all_append (numbered_in (f ∷ numbers flush_number G)) (live_flushes (H then G))
    (record { number = f; series = series } ∷ [])
    (live_later f (numbers flush_number G) (live_flushes (H then G)) (live_numbers H G e))
    (and_from (is_one_of f (f ∷ numbers flush_number G)) true
    (first_one f (numbers flush_number G)) refl)
live_numbers H (G ▸ Settle f) e =
    live_ended f (numbers flush_number G) (live_flushes (H then G)) (live_numbers H G e)
live_numbers H (G ▸ Drop f) e =
    live_ended f (numbers flush_number G) (live_flushes (H then G)) (live_numbers H G e)
live_numbers H (G ▸ GiveBack f) e =
    live_ended f (numbers flush_number G) (live_flushes (H then G)) (live_numbers H G e)
live_numbers H (G ▸ v) e = live_numbers H G e

other_flights : (flush : ℕ → ℕ) (f : ℕ) (ns : List ℕ) → KeepsApart flush (f ∷ ns)
    → (ls : List Flight) → list_all (numbered_in ns) ls ≡ true
    → filter (is_other_flight (flush f)) (map (renumbered_flight flush) ls)
    ≡ map (renumbered_flight flush) (filter (is_other_flight f) ls)
other_flights flush f ns k ls h = filter_where (numbered_in ns) (is_other_flight (flush f))
    (is_other_flight f) (renumbered_flight flush)
    (λ l i. ap not (same_number flush (f ∷ ns) l.number f k
    (any_append_right (λ n. n == l.number) (f ∷ []) ns i) (first_one f ns))) ls h

pub live_same : (batch flush : ℕ → ℕ) (H K G : History) → live_flushes H ≡ [] → live_flushes K ≡ []
    → KeepsApart flush (numbers flush_number G)
    → live_flushes (K then renumbered batch flush G)
    ≡ map (renumbered_flight flush) (live_flushes (H then G))
live_same batch flush H K (Opened O) d e k = e ∙ sym (ap (map (renumbered_flight flush)) d)
live_same batch flush H K (G ▸ Take f series) d e k =
    ap (λ ls. ls ++ record { number = flush f; series = series } ∷ [])
    (live_same batch flush H K G d e (apart_last flush (f ∷ []) (numbers flush_number G) k))
    ∙ sym (map-append (renumbered_flight flush) (live_flushes (H then G))
    (record { number = f; series = series } ∷ []))
live_same batch flush H K (G ▸ Settle f) d e k =
    ap (filter (is_other_flight (flush f)))
    (live_same batch flush H K G d e (apart_last flush (f ∷ []) (numbers flush_number G) k))
    ∙ other_flights flush f (numbers flush_number G) k (live_flushes (H then G))
    (live_numbers H G d)
live_same batch flush H K (G ▸ Drop f) d e k =
    ap (filter (is_other_flight (flush f)))
    (live_same batch flush H K G d e (apart_last flush (f ∷ []) (numbers flush_number G) k))
    ∙ other_flights flush f (numbers flush_number G) k (live_flushes (H then G))
    (live_numbers H G d)
live_same batch flush H K (G ▸ GiveBack f) d e k =
    ap (filter (is_other_flight (flush f)))
    (live_same batch flush H K G d e (apart_last flush (f ∷ []) (numbers flush_number G) k))
    ∙ other_flights flush f (numbers flush_number G) k (live_flushes (H then G))
    (live_numbers H G d)
live_same batch flush H K (G ▸ v) d e k = live_same batch flush H K G d e k

-- what is chosen

pub home_turned : (flush : ℕ → ℕ) (place : Place)
    → is_home (turned_place flush place) ≡ is_home place
home_turned flush (InFlight f) = refl
home_turned flush place = refl

pub not_home : (place : Place) → is_settled_at place ≡ true → is_home place ≡ false
not_home Home h = absurd (let q : false ≡ true = h in cc)
not_home place h = refl

pub not_flying : (place : Place) → is_settled_at place ≡ true → is_flying place ≡ false
not_flying (InFlight f) h = absurd (let q : false ≡ true = h in cc)
not_flying place h = refl

pub not_in_flight : (f : ℕ) (place : Place) → is_settled_at place ≡ true
    → is_in_flight f place ≡ false
not_in_flight f (InFlight g) h = absurd (let q : false ≡ true = h in cc)
not_in_flight f place h = refl

pub flight_turned : (flush : ℕ → ℕ) (ns : List ℕ) (f : ℕ) → KeepsApart flush ns
    → is_one_of f ns ≡ true → (place : Place) → flies_in_at ns place ≡ true
    → is_in_flight (flush f) (turned_place flush place) ≡ is_in_flight f place
flight_turned flush ns f k o (InFlight g) h = same_number flush ns g f k h o
flight_turned flush ns f k o place h = refl

pub in_live_same : (flush : ℕ → ℕ) (x : Identity) (ls : List Flight)
    → is_in_live (map (renumbered_flight flush) ls) x ≡ is_in_live ls x
in_live_same flush x [] = refl
in_live_same flush x (l ∷ ls) = ap (λ v. is_among x l.series || v) (in_live_same flush x ls)

-- what flushes send

pub taken_number : (G : History) (f : ℕ) → is_taken_in G f ≡ true
    → is_one_of f (numbers flush_number G) ≡ true
taken_number (Opened O) f t = t
taken_number (G ▸ Take g series) f t =
    elim (or_cases (g == f) (is_taken_in G f) t) [
      | inl e ↦ or_left (g == f) (is_one_of f (numbers flush_number G)) e
      | inr e ↦ any_append_right (λ n. n == f) (g ∷ []) (numbers flush_number G)
          (taken_number G f e)
    ]
taken_number (G ▸ Settle g) f t =
    any_append_right (λ n. n == f) (g ∷ []) (numbers flush_number G) (taken_number G f t)
taken_number (G ▸ Drop g) f t =
    any_append_right (λ n. n == f) (g ∷ []) (numbers flush_number G) (taken_number G f t)
taken_number (G ▸ GiveBack g) f t =
    any_append_right (λ n. n == f) (g ∷ []) (numbers flush_number G) (taken_number G f t)
taken_number (G ▸ e) f t = taken_number G f t

pub flush_at : (M : History) (f g : ℕ) (series : List Identity) → (g == f) ≡ true
    → flush_points (M ▸ Take g series) f
    ≡ present (map (λ x. merged x (filter (is_cargo f x) (points (M ▸ Take g series)))) series)
flush_at M f g series e = ap (λ v. present
    (map (λ x. merged x (cond v (filter (is_cargo f x) (points (M ▸ Take g series))) (cargo M f x)))
    (cond v series (series_taken M f)))) e

pub flush_past : (M : History) (f g : ℕ) (series : List Identity) → (g == f) ≡ false
    → flush_points (M ▸ Take g series) f ≡ flush_points M f
flush_past M f g series e = ap (λ v. present
    (map (λ x. merged x (cond v (filter (is_cargo f x) (points (M ▸ Take g series))) (cargo M f x)))
    (cond v series (series_taken M f)))) e
