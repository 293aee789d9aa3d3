-- The history that a run has come to.
use Rattle.std.specs.Prelude.{◌≡◌, ◌⊎◌, ℕ, List, ◌∷◌}
use Rattle.back_answers.specs.declared.answer.Act.TheVariants.{GiveBack}
use Rattle.metric_events.specs.History.{History, ◌▸◌}
use Rattle.metric_events.specs.declared.event.Event.TheVariants as event
use Rattle.metric_events.specs.DataPoint.{DataPoint}
use Rattle.play_script.specs.Replies.{wired_text}
use Rattle.out_texts.specs.Request.{request_text}
use Rattle.play_script.specs.declared.refusal.Refusal.TheVariants.{NoMemory}
use Rattle.play_script.specs.Run.{refused_text, Mark, line_answer}

-- the request of a flush, or no memory for it: then the flush is given back
abbrev pub IsForwarded : History → History → ℕ → List DataPoint → List ℕ → Type 0
IsForwarded E F f points text =
    ((text ≡ wired_text f (request_text points)) × (F ≡ E)) ⊎ ((text ≡ refused_text NoMemory)
    × (F ≡ E ▸ event.GiveBack f))

-- the history after them
abbrev pub history_after : History → List (List ℕ) → List Mark → History
history_after E (line ∷ lines) (mark ∷ marks) =
    history_after (line_answer E line mark).after lines marks
history_after E lines marks = E
