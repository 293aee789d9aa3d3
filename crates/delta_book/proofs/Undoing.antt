-- A batch that was just admitted can be undone and confirmed, and a flush that was just taken is
-- live.
use Rattle.std.proofs.Common.{◌≡◌, ℕ, true, not, ◌||◌, ◌==◌, List, [], ◌∷◌, map, None, refl}
use Rattle.std.proofs.lemmas.Bool.{or_left, eq-eqb}
use Rattle.std.proofs.Math.Bool.{or-true}
use Rattle.metric_events.specs.DataPoint.{DataPoint}
use Rattle.metric_events.specs.History.{History, ◌▸◌, IsNewBatch}
use Rattle.metric_events.specs.Points.{points, admitted, is_home, is_of_other_batch}
use Rattle.series_id.specs.Identity.{Identity}
use Rattle.metric_events.specs.Running.{open_batches, live_flushes}
use Rattle.metric_events.specs.Legal.{is_open, is_live, is_batch_home}
use Rattle.metric_events.specs.declared.batch.Batch.{Batch}
use Rattle.metric_events.specs.declared.event.Event.TheVariants.{Admit, Take}
use Rattle.metric_events.proofs.Lists.{all_append, all_weaker, any_append_right}
use Rattle.metric_events.proofs.Invariants.{new_points}
use Rattle.delta_book.specs.Refusals.{undo_refusal}

fresh_home : (b : ℕ) (s : List ℕ) (ps : List DataPoint)
    → is_batch_home b (map (admitted b s) ps) ≡ true
fresh_home b s [] = refl
fresh_home b s (p ∷ ps) = rw (or-true (not (b == b))) (fresh_home b s ps)

pub is_now_open : (b : ℕ) (body : Batch) (E : History)
    → is_open b (open_batches (E ▸ Admit b body)) ≡ true
is_now_open b body E =
    any_append_right (λ c. c == b) (open_batches E) (b ∷ []) (rw (eq-eqb b b refl) refl)

pub is_now_home : (b : ℕ) (body : Batch) (E : History) → IsNewBatch b E
    → is_batch_home b (points (E ▸ Admit b body)) ≡ true
is_now_home b body E new =
    all_append (λ a. not (a.batch == b) || is_home a.place) (points E)
    (map (admitted b body.sender) body.points)
    (all_weaker (is_of_other_batch b) (λ a. not (a.batch == b) || is_home a.place)
    (λ a h. or_left (not (a.batch == b)) (is_home a.place) h) (points E) (new_points b E new))
    (fresh_home b body.sender body.points)

pub can_be_undone : (b : ℕ) (body : Batch) (E : History) → IsNewBatch b E
    → undo_refusal (E ▸ Admit b body) b ≡ None
can_be_undone b body E new = rw (is_now_open b body E, is_now_home b body E new) refl

pub is_now_live : (f : ℕ) (series : List Identity) (E : History)
    → is_live f (live_flushes (E ▸ Take f series)) ≡ true
is_now_live f series E = any_append_right (λ l. l.number == f) (live_flushes E)
    (record { number = f; series = series } ∷ []) (rw (eq-eqb f f refl) refl)
