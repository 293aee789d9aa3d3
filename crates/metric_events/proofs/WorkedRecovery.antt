-- A recovery worked out by the definitions.
use Rattle.std.proofs.Common.{◌≡◌, ℕ, ◌+◌, [], ◌∷◌, refl, true, false}
use Rattle.series_id.specs.Order.{same_series, series_before, series_cmp, scope_cmp, metric_cmp}
use Rattle.metric_events.specs.History.{History, Start, Opened, ◌▸◌, ◌then◌}
use Rattle.metric_events.specs.Points.{points}
use Rattle.metric_events.specs.Running.{held_senders}
use Rattle.metric_events.specs.Series.{owner, frontier}
use Rattle.metric_events.specs.Legal.{is_in_order, is_too_large}
use Rattle.metric_events.specs.Close.{close}
use Rattle.metric_events.specs.Choice.{pick, flush_points}
use Rattle.metric_events.specs.Recovery.{IsAtRest, IsInTurn, pending, not_pending, quarantined}
use Rattle.metric_events.specs.Recovery.{readmitted}
use Rattle.metric_events.specs.Priming.{primer}
use Rattle.metric_events.specs.Lasting.{renumbered}
use Rattle.metric_events.specs.declared.batch.Batch.{Batch}
use Rattle.metric_events.specs.declared.event.Event.TheVariants.{Admit, Undo, Confirm, Take, Settle}
use Rattle.metric_events.specs.declared.event.Event.TheVariants.{Quarantine, Lift}
use Rattle.metric_events.proofs.WorkedHistories.{of_name, req, point, batch}

abbrev settled : History → Batch → History
settled E body = E ▸ Admit 1 body ▸ Confirm 1 ▸ Take 1 (req ∷ []) ▸ Settle 1

-- a batch was settled; then two came, of which one was undone, and their sender was quarantined
abbrev lost : History
lost = settled Start (batch 65 (point req 10 20 5 ∷ [])) ▸ Admit 2
    (batch 65 (point req 20 30 7 ∷ [])) ▸ Admit 3 (batch 65 (point req 30 40 2 ∷ [])) ▸ Undo 2 ▸
    Confirm 3 ▸ Quarantine (65 ∷ [])

-- a fresh history was primed; the batch is admitted again
abbrev primed : History
primed = settled Start (primer (record { series = req; owner = 65 ∷ []; frontier = 20 }))

abbrev again : History
again = quarantined (readmitted primed
    (record { number = 2; body = batch 65 (point req 30 40 2 ∷ []) } ∷ [])) (held_senders lost)

primed_rests : IsAtRest primed
unfolding same_series series_cmp scope_cmp metric_cmp
primed_rests = record { home = refl; batches = refl; live = refl; held = refl }

known_owner : owner req (points primed) ≡ owner req (not_pending lost)
unfolding same_series series_cmp scope_cmp metric_cmp
known_owner = refl

known_frontier : frontier req (points primed) ≡ frontier req (not_pending lost)
unfolding same_series series_cmp scope_cmp metric_cmp
known_frontier = refl

lost_in_turn : IsInTurn lost
unfolding same_series series_cmp scope_cmp metric_cmp
lost_in_turn = refl

same_pending : pending again ≡ pending lost
unfolding same_series series_cmp scope_cmp metric_cmp
same_pending = refl

same_held : held_senders again ≡ held_senders lost
same_held = refl

-- the sender is released, and a flush taken, which has another number after the fresh history
abbrev later : History
later = Start ▸ Lift (65 ∷ []) ▸ Take 9 (req ∷ [])

sent_later : flush_points (lost then later) 9 ≡ point req 30 40 2 ∷ []
unfolding same_series series_cmp scope_cmp metric_cmp
sent_later = refl

sent_again : flush_points (again then renumbered (λ b. b) (λ f. f + 1) later) 10
    ≡ point req 30 40 2 ∷ []
unfolding same_series series_cmp scope_cmp metric_cmp
sent_again = refl

-- where batches are open that were numbered another way, one Undo ends different ones
abbrev one_way : History
one_way = Start ▸ Admit 1 (batch 65 (point (of_name 97) 10 20 5 ∷ [])) ▸ Admit 2
    (batch 65 (point (of_name 98) 10 20 5 ∷ []))

abbrev other_way : History
other_way = Start ▸ Admit 2 (batch 65 (point (of_name 97) 10 20 5 ∷ [])) ▸ Admit 1
    (batch 65 (point (of_name 98) 10 20 5 ∷ []))

same_two : pending other_way ≡ pending one_way
same_two = refl

left_one_way : pick (one_way ▸ Undo 1) 10 ≡ of_name 98 ∷ []
unfolding same_series series_before series_cmp scope_cmp metric_cmp
left_one_way = refl

left_other_way : pick (other_way ▸ Undo 1) 10 ≡ of_name 97 ∷ []
unfolding same_series series_before series_cmp scope_cmp metric_cmp
left_other_way = refl

-- after a batch of another sender that is not undone, the next one is another writer's
other_writer : is_in_order (points (Start ▸ Admit 1 (batch 66 (point req 10 20 5 ∷ [])))) (65 ∷ [])
    (point req 20 30 7 ∷ []) ≡ false
unfolding same_series series_cmp scope_cmp metric_cmp
other_writer = refl

-- after greater sums a batch may be too large that was not before: here the series was made known
-- by the most that it may have. The next round has nothing of it but the mark
abbrev most : ℕ
most = 9223372036854775807

abbrev full : History
full = settled Start (batch 65 (point req 10 20 most ∷ []))

not_too_large : is_too_large (points (primed ▸ Admit 2 (batch 65 (point req 20 30 7 ∷ []))))
    (point req 20 30 7 ∷ []) ≡ false
unfolding same_series series_cmp scope_cmp metric_cmp
not_too_large = refl

too_large : is_too_large (points (full ▸ Admit 2 (batch 65 (point req 20 30 7 ∷ []))))
    (point req 20 30 7 ∷ []) ≡ true
unfolding same_series series_cmp scope_cmp metric_cmp
too_large = refl

small_again : is_too_large (points
    (Opened (close full) ▸ Admit 2 (batch 65 (point req 20 30 7 ∷ [])))) (point req 20 30 7 ∷ [])
    ≡ false
unfolding same_series series_before series_cmp scope_cmp metric_cmp
small_again = refl
