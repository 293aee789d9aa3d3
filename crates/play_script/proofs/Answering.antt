-- Which answer a call of the book gives.
use Rattle.std.proofs.Common.{◌≡◌, ◌≢◌, ℕ, ◌+◌, Bool, true, false, ◌==◌, length, List, [], ◌∷◌}
use Rattle.std.proofs.Common.{Option, Some, None, Ok, codes, refl, sym, ap, ◌∙◌, inl, inr, ◌⊎◌}
use Rattle.std.specs.Option.{unwrap_or}
use Rattle.metric_events.specs.History.{History}
use Rattle.metric_events.specs.declared.event.Event.TheVariants.{Admit}
use Rattle.delta_book.specs.Journal.{Journal, history, admits}
use Rattle.metric_events.specs.declared.point.PointFault.{PointFault}
use Rattle.metric_events.specs.declared.point.PointFault.TheVariants as point
use Rattle.delta_book.specs.Refusals.{admit_refusal}
use Rattle.delta_book.specs.declared.faults.AdmitFault.{AdmitFault}
use Rattle.delta_book.specs.declared.faults.AdmitFault.TheVariants as admit
use Rattle.play_script.specs.PointLines.{PointWords, first_fault}
use Rattle.metric_events.specs.DataPoint.{DataPoint}
use Rattle.otlp_read.specs.Reading.{text_reading}
use Rattle.otlp_read.specs.Tallies.{Tally}
use Rattle.play_script.specs.Commands.{Asked, AdmitLine, PostLine}
use Rattle.play_script.specs.Refused.{refusal_text}
use Rattle.play_script.specs.Replies.{said, batch_and_foreign}
use Rattle.delta_book.specs.Outcomes as book
use Rattle.play_script.specs.Run.{Answer, answer, Found, Missed, takes_memory, refused, only_says}
use Rattle.play_script.specs.Run.{called, body_of, posted, posted_batch}
use Rattle.play_script.specs.inner.Answered.{IsReply}
use Rattle.play_script.specs.declared.refusal.Refusal.{Refusal}
use Rattle.play_script.specs.declared.refusal.Refusal.TheVariants.{NoMemory}
use Rattle.play_script.specs.declared.refusal.Refusal.TheVariants as why

-- the answer that a command has with ample memory
pub answered : (asked : Asked) (E F : History) (text : List ℕ) (a : Answer) → answer E asked ≡ a
    → text ≡ a.text → F ≡ a.after → IsReply E asked text F
answered asked E F text a is told after = (
  Found,
  record {
    allowed = refl;
    text_is = told ∙ ap (λ b. b.text) (sym is);
    after_is =
        after ∙ ap (λ b. b.after) (sym is);
  },
)

-- nothing happened, and the reply says something
pub says : (asked : Asked) (old new : Journal) (text : List ℕ) → new ≡ old
    → answer (history old) asked ≡ only_says (history old) text
    → IsReply (history old) asked text (history new)
says asked old new text h is =
    answered asked (history old) (history new) text _ is refl (ap history h)

-- nothing happened, and the reply says why
pub refused_as : (asked : Asked) (old new : Journal) (why : Refusal) → new ≡ old
    → answer (history old) asked ≡ refused (history old) why
    → IsReply (history old) asked (said (codes "refused ") (refusal_text why)) (history new)
refused_as asked old new why h is =
    says asked old new (said (codes "refused ") (refusal_text why)) h is

-- there was no memory
pub without_memory : (asked : Asked) (old new : Journal) → takes_memory asked ≡ true → new ≡ old
    → IsReply (history old) asked (said (codes "refused ") (refusal_text NoMemory)) (history new)
without_memory asked old new may h =
    (Missed, record { allowed = may; text_is = refl; after_is = ap history h })

-- the refusal that a fault is, where there is one, else want of memory
pub refused_or : {F : Type 0} (asked : Asked) (old new : Journal) (refusal_of : F → Refusal)
    (none fault : F) (refusal : Option F) → takes_memory asked ≡ true → new ≡ old
    → refusal_text (refusal_of none) ≡ refusal_text NoMemory → fault ≡ unwrap_or refusal none
    → ((f : F) → refusal ≡ Some f
    → answer (history old) asked ≡ refused (history old) (refusal_of f))
    → IsReply (history old) asked (said (codes "refused ") (refusal_text (refusal_of fault)))
    (history new)
refused_or asked old new refusal_of none fault None may h same is k =
    rw (is, same) (without_memory asked old new may h)
refused_or asked old new refusal_of none fault (Some f) may h same is k =
    rw is (refused_as asked old new (refusal_of f) h (k f refl))

-- a point could not be made
pub point_refused : (sender : List ℕ) (points : List PointWords) (old : Journal)
    (fault : PointFault) → (fault ≡ point.NoMemory) ⊎ (first_fault points ≡ Some fault)
    → IsReply (history old) (AdmitLine sender points)
    (said (codes "refused ") (refusal_text (why.Point fault))) (history old)
point_refused sender points old fault (inl e) =
    rw e (without_memory (AdmitLine sender points) old old refl refl)
point_refused sender points old fault (inr e) =
    refused_as (AdmitLine sender points) old old (why.Point fault) refl (rw e refl)

-- the book did not admit the batch
pub batch_refused : (sender : List ℕ) (points : List PointWords) (old new : Journal)
    (fault : AdmitFault) → first_fault points ≡ None → new ≡ old
    → fault ≡ unwrap_or (admit_refusal (history old) (body_of sender points)) admit.NoMemory
    → IsReply (history old) (AdmitLine sender points)
    (said (codes "refused ") (refusal_text (why.Admit fault))) (history new)
batch_refused sender points old new fault made h is =
    refused_or (AdmitLine sender points) old new why.Admit admit.NoMemory fault
    (admit_refusal (history old) (body_of sender points)) refl h refl is
    (λ f e. rw (made, e) refl)

pub not_empty : (points : List DataPoint) (empty : Bool) → empty ≡ (length points == 0)
    → empty ≡ false → points ≢ []
not_empty [] empty is false_is = λ _. cc
not_empty (p ∷ ps) empty is false_is = λ e. cc

-- a body's points are put to the book
answer_posted : (E : History) (sender body : List ℕ) (t : Tally) → text_reading body ≡ Some (Ok t)
    → t.points ≢ []
    → answer E (PostLine sender body)
    ≡ called E (said (codes "batch ") (batch_and_foreign (admits E + 1) t.foreign))
    (book.Admit (posted_batch sender t.points))
answer_posted E sender body t h some = rw h (put t.points some)
  where
    put : (points : List DataPoint) → points ≢ []
        → posted E sender points t.foreign
        ≡ called E (said (codes "batch ") (batch_and_foreign (admits E + 1) t.foreign))
        (book.Admit (posted_batch sender points))
    put [] some = absurd (some refl)
    put (p ∷ ps) some = refl

-- the book did not admit a body's points
pub post_refused : (sender body : List ℕ) (old new : Journal) (t : Tally) (fault : AdmitFault)
    → text_reading body ≡ Some (Ok t) → t.points ≢ [] → new ≡ old
    → fault ≡ unwrap_or (admit_refusal (history old) (posted_batch sender t.points)) admit.NoMemory
    → IsReply (history old) (PostLine sender body)
    (said (codes "refused ") (refusal_text (why.Admit fault))) (history new)
post_refused sender body old new t fault h some same is =
    refused_or (PostLine sender body) old new why.Admit admit.NoMemory fault
    (admit_refusal (history old) (posted_batch sender t.points)) refl same refl is
    (λ f e. answer_posted (history old) sender body t h some ∙ rw e refl)
