-- A batch that may be admitted goes into the cells.
use Rattle.std.proofs.Common.{◌≡◌, ℕ, ◌+◌, ◌<◌, List, [], ◌∷◌, ◌++◌, length, refl, ap, sym, ◌∙◌}
use Rattle.std.proofs.Common.{subst, None}
use Rattle.std.specs.List.{All}
use Rattle.metric_events.specs.DataPoint.{DataPoint, IsPoint}
use Rattle.metric_events.specs.Points.{points}
use Rattle.metric_events.specs.Legal.{MayAdmit}
use Rattle.metric_events.specs.declared.batch.Batch.{Batch}
use Rattle.metric_events.specs.declared.entry.Entry.{Entry}
use Rattle.metric_events.specs.declared.event.Event.TheVariants.{Admit}
use Rattle.delta_book.specs.Journal.{Journal, history, admits, IsNumbered}
use Rattle.delta_book.specs.Refusals.{batch_fault, door_refusal, first_of}
use Rattle.delta_book.proofs.Admitting.{may_admit_now}
use Rattle.delta_book.specs.inner.Tables.{AreOpen, At}
use Rattle.delta_book.specs.declared.open.JournalRef.{JournalRef}
use Rattle.delta_book.proofs.Entries.{at_last}
use Rattle.delta_book.proofs.Opened.{open_more, open_push}

-- a batch that nothing kept out at the door or at its points may be admitted under the next number
pub may_be_put : (xs view : Journal) (n : ℕ) (body : Batch) (ps : List DataPoint) → xs ≡ view
    → n ≡ admits (history xs) → IsNumbered (history xs) → 0 < length body.points
    → All IsPoint body.points → None ≡ door_refusal (history view) body.sender
    → ps ≡ body.points → batch_fault (points (history xs)) body.sender ps ≡ None
    → MayAdmit (history xs) (n + 1) body
may_be_put xs view n body ps v m numbered some made door p none =
    subst (λ k. MayAdmit (history xs) (k + 1) body) (sym m)
    (may_admit_now (history xs) body numbered some made
    (ap (λ o. first_of o (batch_fault (points (history xs)) body.sender body.points))
    (ap (λ ys. door_refusal (history ys) body.sender) v ∙ sym door)
    ∙ (ap (λ (ys : List DataPoint). batch_fault (points (history xs)) body.sender ys) (sym p)
    ∙ none)))

pub opened_push : (xs ys : List Entry) (x : Entry) (os rs os' : List JournalRef) (bs : List ℕ)
    (b n : ℕ) (body : Batch) → AreOpen xs os bs → ys ≡ xs ++ x ∷ [] → x.event ≡ Admit b body
    → n ≡ length xs → rs ≡ os → os' ≡ rs ++ record { number = b; entry = n } ∷ []
    → AreOpen ys os' (bs ++ b ∷ [])
opened_push xs ys x os rs os' bs b n body h e v l r o =
    subst (λ zs. AreOpen zs os' (bs ++ b ∷ [])) (sym e)
    (subst (λ ps. AreOpen (xs ++ x ∷ []) ps (bs ++ b ∷ []))
    (sym (o ∙ ap (λ ps. ps ++ record { number = b; entry = n } ∷ []) r))
    (open_push (xs ++ x ∷ []) os bs (record { number = b; entry = n }) b body
    (open_more xs (x ∷ []) os bs h) refl
    (subst (λ j. At (xs ++ x ∷ []) j (Admit b body)) (sym l)
    (subst (At (xs ++ x ∷ []) (length xs)) v (at_last xs x)))))
