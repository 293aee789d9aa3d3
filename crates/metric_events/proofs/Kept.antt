-- A flush moves points, and changes no owner and no frontier.
use Rattle.std.proofs.Common.{◌≡◌, ℕ, Bool, true, false, cond, ◌&&◌, List, [], ◌∷◌, map, max, refl}
use Rattle.std.proofs.Common.{ap, ◌∙◌, subst}
use Rattle.std.specs.List.{list_any, list_all}
use Rattle.series_id.specs.Identity.{Identity}
use Rattle.series_id.specs.Order.{same_series}
use Rattle.metric_events.specs.DataPoint.{DataPoint}
use Rattle.metric_events.specs.Running.{live_flushes}
use Rattle.metric_events.specs.declared.flight.Flight.{Flight}
use Rattle.metric_events.specs.History.{History, Opened, ◌▸◌, ◌then◌}
use Rattle.metric_events.specs.Points.{points, is_home, is_in_flight, is_among, at, taken, landed}
use Rattle.metric_events.specs.Series.{is_of, owner, frontier}
use Rattle.metric_events.specs.Priming.{AdmitsNothing}
use Rattle.metric_events.specs.declared.accepted.Accepted.{Accepted}
use Rattle.metric_events.specs.declared.place.Place.{Place}
use Rattle.metric_events.specs.declared.place.Place.TheVariants.{Home, InFlight, Acknowledged}
use Rattle.metric_events.specs.declared.place.Place.TheVariants.{Dropped}
use Rattle.metric_events.specs.declared.event.Event.TheVariants.{Admit, Undo, Take, Settle, Drop}
use Rattle.metric_events.specs.declared.event.Event.TheVariants.{GiveBack}
use Rattle.metric_events.specs.Recall.{moved}
use Rattle.metric_events.proofs.Lists.{any_map, map_same}
use Rattle.metric_events.proofs.Moves.{made, rides, taken_blind, landed_blind}
use Rattle.metric_events.proofs.Invariants.{all_ride}
use Rattle.metric_events.proofs.Behind.{moved_keeps}

taken_owner : (x : Identity) (f : ℕ) (series : List Identity) (qs : List Accepted)
    → owner x (map (taken f series) qs) ≡ owner x qs
taken_owner x f series [] = refl
taken_owner x f series (a ∷ qs) =
    (elim (is_home a.place && is_among a.point.series series)
    as (λ v. owner x (cond v (at (InFlight f) a) a ∷ map (taken f series) qs)
    ≡ cond (is_of x a) a.sender (owner x (map (taken f series) qs)))
    [ true ↦ refl | false ↦ refl ])
    ∙ ap (λ s. cond (is_of x a) a.sender s) (taken_owner x f series qs)

pub taken_frontier : (x : Identity) (f : ℕ) (series : List Identity) (qs : List Accepted)
    → frontier x (map (taken f series) qs) ≡ frontier x qs
taken_frontier x f series [] = refl
taken_frontier x f series (a ∷ qs) =
    (elim (is_home a.place && is_among a.point.series series)
    as (λ v. frontier x (cond v (at (InFlight f) a) a ∷ map (taken f series) qs)
    ≡ cond (is_of x a) (max a.point.span.end (frontier x (map (taken f series) qs)))
    (frontier x (map (taken f series) qs))) [ true ↦ refl | false ↦ refl ])
    ∙ ap (λ n. cond (is_of x a) (max a.point.span.end n) n) (taken_frontier x f series qs)

pub landed_owner : (x : Identity) (f : ℕ) (place : Place) (qs : List Accepted)
    → owner x (map (landed f place) qs) ≡ owner x qs
landed_owner x f place [] = refl
landed_owner x f place (a ∷ qs) =
    (elim (is_in_flight f a.place) as (λ v. owner x
    (cond v (at place a) a ∷ map (landed f place) qs)
    ≡ cond (is_of x a) a.sender (owner x (map (landed f place) qs)))
    [ true ↦ refl | false ↦ refl ])
    ∙ ap (λ s. cond (is_of x a) a.sender s) (landed_owner x f place qs)

pub landed_frontier : (x : Identity) (f : ℕ) (place : Place) (qs : List Accepted)
    → frontier x (map (landed f place) qs) ≡ frontier x qs
landed_frontier x f place [] = refl
landed_frontier x f place (a ∷ qs) =
    (elim (is_in_flight f a.place) as (λ v. frontier x
    (cond v (at place a) a ∷ map (landed f place) qs)
    ≡ cond (is_of x a) (max a.point.span.end (frontier x (map (landed f place) qs)))
    (frontier x (map (landed f place) qs))) [ true ↦ refl | false ↦ refl ])
    ∙ ap (λ n. cond (is_of x a) (max a.point.span.end n) n) (landed_frontier x f place qs)

pub moved_owner : (x : Identity) (G : History) (qs : List Accepted)
    → owner x (moved G qs) ≡ owner x qs
moved_owner x G qs = moved_keeps (λ us. owner x us ≡ owner x qs)
    (λ f series us e. taken_owner x f series us ∙ e) (λ f q us e. landed_owner x f q us ∙ e) G qs
    refl

pub moved_frontier : (x : Identity) (G : History) (qs : List Accepted)
    → frontier x (moved G qs) ≡ frontier x qs
moved_frontier x G qs = moved_keeps (λ us. frontier x us ≡ frontier x qs)
    (λ f series us e. taken_frontier x f series us ∙ e) (λ f q us e. landed_frontier x f q us ∙ e) G
    qs refl

pub moved_any : (x : Identity) (G : History) (qs : List Accepted)
    → list_any (is_of x) (moved G qs) ≡ list_any (is_of x) qs
moved_any x G qs = moved_keeps (λ us. list_any (is_of x) us ≡ list_any (is_of x) qs)
    (λ f series us e. any_map (is_of x) (taken f series)
    (taken_blind (λ p b s. same_series p.series x) f series) us ∙ e)
    (λ f q us e. any_map (is_of x) (landed f q)
    (landed_blind (λ p b s. same_series p.series x) f q) us ∙ e) G qs refl

-- where nothing is admitted or undone, points are moved and no more
pub only_moved : (E G : History) → AdmitsNothing G → points (E then G) ≡ moved G (points E)
only_moved E (Opened O) n = refl
only_moved E (G ▸ Admit b body) n = absurd n
only_moved E (G ▸ Undo b) n = absurd n
only_moved E (G ▸ Take f series) n = ap (map (taken f series)) (only_moved E G n)
only_moved E (G ▸ Settle f) n = ap (map (landed f Acknowledged)) (only_moved E G n)
only_moved E (G ▸ Drop f) n = ap (map (landed f Dropped)) (only_moved E G n)
only_moved E (G ▸ GiveBack f) n = ap (map (landed f Home)) (only_moved E G n)
only_moved E (G ▸ e) n = only_moved E G n

-- what is neither pending nor in flight stays as it is

abbrev pub is_settled_at : Place → Bool
is_settled_at Acknowledged = true
is_settled_at Dropped = true
is_settled_at place = false

abbrev pub is_settled : Accepted → Bool
is_settled a = is_settled_at a.place

pub settled_taken : (f : ℕ) (series : List Identity) (p : DataPoint) (b : ℕ) (s : List ℕ)
    (place : Place) → is_settled_at place ≡ true
    → taken f series (made p b s place) ≡ made p b s place
settled_taken f series p b s Acknowledged h = refl
settled_taken f series p b s Dropped h = refl
settled_taken f series p b s place h = absurd (let q : false ≡ true = h in cc)

pub settled_landed : (f : ℕ) (q : Place) (p : DataPoint) (b : ℕ) (s : List ℕ) (place : Place)
    → is_settled_at place ≡ true → landed f q (made p b s place) ≡ made p b s place
settled_landed f q p b s Acknowledged h = refl
settled_landed f q p b s Dropped h = refl
settled_landed f q p b s place h = absurd (let q : false ≡ true = h in cc)

pub settled_or_home : (p : DataPoint) (b : ℕ) (s : List ℕ) (place : Place)
    → rides [] (made p b s place) ≡ true → is_home place ≡ false → is_settled_at place ≡ true
settled_or_home p b s Home r h = absurd (let q : true ≡ false = h in cc)
settled_or_home p b s (InFlight f) r h = absurd (let q : false ≡ true = r in cc)
settled_or_home p b s place r h = refl

pub no_ride : (H : History) → live_flushes H ≡ [] → list_all (rides []) (points H) ≡ true
no_ride H e = subst (λ (ls : List Flight). list_all (rides ls) (points H) ≡ true) e (all_ride H)

pub moved_settled : (G : History) (qs : List Accepted) → list_all is_settled qs ≡ true
    → moved G qs ≡ qs
moved_settled G qs h = moved_keeps (λ us. us ≡ qs)
    (λ f series us e. ap (map (taken f series)) e
    ∙ map_same is_settled (taken f series)
    (λ a k. settled_taken f series a.point a.batch a.sender a.place k) qs h)
    (λ f q us e. ap (map (landed f q)) e
    ∙ map_same is_settled (landed f q)
    (λ a k. settled_landed f q a.point a.batch a.sender a.place k) qs h) G qs
    refl
