-- Which refusal applies to a batch, from what is kept.
use Rattle.std.proofs.Common.{◌≡◌, ◌<◌, ◌≤◌, ◌⊎◌, ℕ, Bool, true, false, cond, ◌&&◌, List, length}
use Rattle.std.proofs.Common.{refl, arith, inl, inr, Some, None}
use Rattle.std.specs.Prelude.{nat_lt}
use Rattle.std.proofs.lemmas.Bool.{le-ltb, lt-ltb}
use Rattle.metric_events.specs.History.{History}
use Rattle.metric_events.specs.Running.{open_batches, held_senders}
use Rattle.metric_events.specs.Legal.{is_held}
use Rattle.metric_events.specs.declared.limits.TheConstants.{MAX_OPEN}
use Rattle.metric_events.specs.declared.entry.Entry.{Entry}
use Rattle.delta_book.specs.Refusals.{door_refusal, has_room}
use Rattle.delta_book.specs.inner.Tables.{AreOpen}
use Rattle.delta_book.specs.declared.open.JournalRef.{JournalRef}
use Rattle.delta_book.specs.declared.faults.AdmitFault.TheVariants.{Full}
use Rattle.delta_book.proofs.Opened.{open_length}

pub full_refusal : (E : History) (s : List ℕ) (es : List Entry) (os : List JournalRef)
    → AreOpen es os (open_batches E) → is_held s (held_senders E) ≡ false
    → (MAX_OPEN ≤ length os) ⊎ (has_room E ≡ false) → Some Full ≡ door_refusal E s
full_refusal E s es os h free (inl m) =
    let o : nat_lt (length (open_batches E)) MAX_OPEN ≡ false =
    le-ltb (length (open_batches E)) MAX_OPEN
    (omega (arith, m, open_length es os (open_batches E) h)) in
    rw (free, o) refl
full_refusal E s es os h free (inr m) =
    rw (free, m) (ends (nat_lt (length (open_batches E)) MAX_OPEN))
  where
    ends : (v : Bool) → Some Full ≡ cond (v && false) None (Some Full)
    ends true = refl
    ends false = refl

pub no_refusal : (E : History) (s : List ℕ) (es : List Entry) (os : List JournalRef)
    → AreOpen es os (open_batches E) → is_held s (held_senders E) ≡ false → length os < MAX_OPEN
    → has_room E ≡ true → None ≡ door_refusal E s
no_refusal E s es os h free few room =
    let o : nat_lt (length (open_batches E)) MAX_OPEN ≡ true =
    lt-ltb (length (open_batches E)) MAX_OPEN
    (omega (arith, few, open_length es os (open_batches E) h)) in
    rw (free, o, room) refl
