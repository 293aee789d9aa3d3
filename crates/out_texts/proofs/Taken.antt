-- What a flush takes is in series order.
use Rattle.std.proofs.Common.{◌≡◌, ℕ, true, List, [], ◌∷◌, map, Option, Some, None, refl, ap, ◌∙◌}
use Rattle.std.specs.Prelude.{Bool, filter, ◌==◌}
use Rattle.std.specs.List.{list_all}
use Rattle.std.proofs.lemmas.Bool.{and_parts, and_from, eq-eqb, cond-true}
use Rattle.series_id.specs.Identity.{Identity}
use Rattle.series_id.specs.Order.{series_before}
use Rattle.metric_events.specs.DataPoint.{DataPoint}
use Rattle.metric_events.specs.History.{History, ◌▸◌}
use Rattle.metric_events.specs.Points.{points}
use Rattle.metric_events.specs.Running.{live_flushes, held_senders}
use Rattle.metric_events.specs.Series.{merged, series_in_order, is_ascending}
use Rattle.metric_events.specs.Choice.{is_eligible, pick, cargo, series_taken, forwarded, present}
use Rattle.metric_events.specs.Choice.{flush_points}
use Rattle.metric_events.specs.declared.accepted.Accepted.{Accepted}
use Rattle.metric_events.specs.declared.event.Event.TheVariants.{Take}
use Rattle.metric_events.proofs.InOrder.{series_ascend, ascending_take}
use Rattle.delta_book.specs.declared.flush.Flush.{Flush}
use Rattle.delta_book.specs.Journal.{Journal, history}
use Rattle.delta_book.proofs.Journaled.{grows}
use Rattle.delta_book.specs.Flushes.{IsTaken}
use Rattle.out_texts.specs.Once.{HasEachOnce}
use Rattle.out_texts.proofs.EachOnce.{each_once}

abbrev series_of : List DataPoint → List Identity
series_of ps = map (λ p. p.series) ps

-- a point of this series, or none
abbrev IsOf : Identity → Option DataPoint → Type 0
IsOf x None = Unit {0}
IsOf x (Some p) = p.series ≡ x

merged_of : (x : Identity) (qs : List Accepted) → IsOf x (merged x qs)
merged_of x [] = tt
merged_of x (a ∷ qs) = refl

all_more : (t : Identity → Bool) (x : Identity) (o : Option DataPoint)
    (os : List (Option DataPoint)) → IsOf x o → t x ≡ true
    → list_all t (series_of (present os)) ≡ true
    → list_all t (series_of (present (o ∷ os))) ≡ true
all_more t x None os is tx h = h
all_more t x (Some p) os is tx h =
    and_from (t p.series) (list_all t (series_of (present os))) (ap t is ∙ tx) h

-- what holds of each series holds of those that something is sent of
all_sent : (E : History) (f : ℕ) (t : Identity → Bool) (xs : List Identity) → list_all t xs ≡ true
    → list_all t (series_of (present (map (forwarded E f) xs))) ≡ true
all_sent E f t [] h = refl
all_sent E f t (x ∷ xs) h =
    let parts = and_parts (t x) (list_all t xs) h in
    all_more t x (forwarded E f x) (map (forwarded E f) xs) (merged_of x (cargo E f x)) parts.0
    (all_sent E f t xs parts.1)

ascending_more : (x : Identity) (o : Option DataPoint) (os : List (Option DataPoint)) → IsOf x o
    → list_all (series_before x) (series_of (present os)) ≡ true
    → is_ascending (series_of (present os)) ≡ true
    → is_ascending (series_of (present (o ∷ os))) ≡ true
ascending_more x None os is before h = h
ascending_more x (Some p) os is before h =
    and_from (list_all (series_before p.series) (series_of (present os)))
    (is_ascending (series_of (present os)))
    (ap (λ y. list_all (series_before y) (series_of (present os))) is ∙ before) h

-- what is sent of series in order is in order
ascending_sent : (E : History) (f : ℕ) (xs : List Identity) → is_ascending xs ≡ true
    → is_ascending (series_of (present (map (forwarded E f) xs))) ≡ true
ascending_sent E f [] h = refl
ascending_sent E f (x ∷ xs) h =
    let parts = and_parts (list_all (series_before x) xs) (is_ascending xs) h in
    ascending_more x (forwarded E f x) (map (forwarded E f) xs) (merged_of x (cargo E f x))
    (all_sent E f (series_before x) xs parts.0) (ascending_sent E f xs parts.1)

abbrev eligible : History → List Accepted
eligible E = filter (is_eligible (live_flushes E) (held_senders E)) (points E)

picked_in_order : (E : History) (f max : ℕ)
    → is_ascending (series_of (flush_points (E ▸ Take f (pick E max)) f)) ≡ true
picked_in_order E f max =
    ap (λ xs. is_ascending (series_of (present (map (forwarded (E ▸ Take f (pick E max)) f) xs))))
    (cond-true (f == f) (pick E max) (series_taken E f) (eq-eqb f f refl))
    ∙ ascending_sent (E ▸ Take f (pick E max)) f (pick E max)
    (ascending_take max (series_in_order (eligible E)) (series_ascend (eligible E)))

-- in the request for what a flush takes, nothing that is shared occurs twice
pub taken_once : (old new : Journal) (seat max : ℕ) (flush : Flush) → IsTaken old new seat max flush
    → HasEachOnce flush.points
taken_once old new seat max flush h =
    each_once flush.points
    (ap (λ (ps : List DataPoint). is_ascending (series_of ps))
    (h.points ∙ ap (λ (E : History). flush_points E flush.number)
    (grows old new seat _ h.entry)) ∙ picked_in_order (history old) flush.number max)
