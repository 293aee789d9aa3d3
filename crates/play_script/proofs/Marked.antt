-- Replies line by line.
use Rattle.std.proofs.Common.{◌≡◌, ℕ, true, List, [], ◌∷◌, ◌++◌, Option, Some, None, Err, refl, sym}
use Rattle.std.proofs.Common.{ap, ◌∙◌, append_assoc, subst}
use Rattle.std.specs.Io.KnownBytes.{Keeps, Appends}
use Rattle.std.proofs.lemmas.Bool.{and_parts, and_from}
use Rattle.std.proofs.lemmas.List.{append-nil}
use Rattle.metric_events.specs.History.{History, Start}
use Rattle.play_script.specs.Commands.{command}
use Rattle.play_script.specs.Ends.{AppendsPart}
use Rattle.play_script.specs.Run.{line_answer, replies, are_marks, may_stand, run, Mark, Found}
use Rattle.play_script.specs.inner.Run.{history_after}
use Rattle.play_script.specs.inner.Answered.{IsReply}
use Rattle.play_script.specs.Played.{WritesAll, WritesPart, WritesBefore}
use Rattle.play_script.specs.inner.Played.{LineIsAnswered, LinesArePlayed}
use Rattle.play_script.specs.declared.fault.PlayFault.{PlayFault}
use Rattle.play_script.specs.declared.fault.PlayFault.TheVariants.{CannotWrite, NoMemory}
use Rattle.play_script.proofs.Ended.{appended}

-- the marks of lines that found memory
pub unmarked : List (List ℕ) → List Mark
unmarked [] = []
unmarked (line ∷ lines) = Found ∷ unmarked lines

pub unmarked_are : (lines : List (List ℕ)) → are_marks lines (unmarked lines) ≡ true
unfolding unmarked
unmarked_are [] = refl
unmarked_are (line ∷ lines) = unmarked_are lines

pub marks_follow : (done later : List (List ℕ)) (marks more : List Mark)
    → are_marks done marks ≡ true → are_marks later more ≡ true
    → are_marks (done ++ later) (marks ++ more) ≡ true
marks_follow [] later [] more h k = k
marks_follow (line ∷ done) later (mark ∷ marks) more h k =
    let parts = and_parts _ _ h in
    and_from _ _ parts.0 (marks_follow done later marks more parts.1 k)
marks_follow done later marks more h k = cc

pub replies_follow : (E : History) (done later : List (List ℕ)) (marks more : List Mark)
    → are_marks done marks ≡ true
    → replies E (done ++ later) (marks ++ more)
    ≡ replies E done marks ++ replies (history_after E done marks) later more
replies_follow E [] later [] more h = refl
replies_follow E (line ∷ done) later (mark ∷ marks) more h =
    let parts = and_parts _ _ h in
    let a = line_answer E line mark in
    ap (λ t. a.text ++ t) (replies_follow a.after done later marks more parts.1)
    ∙ sym (append_assoc a.text (replies a.after done marks)
    (replies (history_after a.after done marks) later more))
replies_follow E done later marks more h = cc

pub history_follows : (E : History) (done later : List (List ℕ)) (marks more : List Mark)
    → are_marks done marks ≡ true
    → history_after E (done ++ later) (marks ++ more)
    ≡ history_after (history_after E done marks) later more
history_follows E [] later [] more h = refl
history_follows E (line ∷ done) later (mark ∷ marks) more h =
    let parts = and_parts _ _ h in
    history_follows (line_answer E line mark).after done later marks more parts.1
history_follows E done later marks more h = cc

-- these lines are answered, with these marks: what was written, and the history
pub record AreDone (old new : Option (List ℕ)) (F : History) (all rest : List (List ℕ))
    (done : List (List ℕ)) (marks : List Mark) : Type 0 where
  pub whole : done ++ rest ≡ all
  pub marked : are_marks done marks ≡ true
  pub written : Appends old new (run done marks)
  pub history : F ≡ history_after Start done marks

abbrev pub SoFar : Option (List ℕ) → Option (List ℕ) → History → List (List ℕ) → List (List ℕ)
    → Type 0
SoFar old new F all rest =
    (done : List (List ℕ)) × (marks : List Mark) × AreDone old new F all rest done marks

kept : (old : Option (List ℕ)) → Appends old old []
kept None = tt
kept (Some xs) = sym (append-nil xs)

pub nothing_done : (old : Option (List ℕ)) (F : History) (all : List (List ℕ)) → F ≡ Start
    → SoFar old old F all all
nothing_done old F all h =
    ([], [], record { whole = refl; marked = refl; written = kept old; history = h })

one_mark : (line : List ℕ) (mark : Mark) → may_stand mark (command line) ≡ true
    → are_marks (line ∷ []) (mark ∷ []) ≡ true
one_mark line mark h = and_from _ _ h refl

-- one more line
pub line_done : (old mid new : Option (List ℕ)) (E F : History) (all rest after : List (List ℕ))
    (line text : List ℕ)
    → SoFar old mid E all rest → rest ≡ line ∷ after → IsReply E (command line) text F
    → Appends mid new text → SoFar old new F all after
line_done old mid new E F all rest after line text (done, marks, h) first (mark, a) wrote = (
  done ++ line ∷ [],
  marks ++ mark ∷ [],
  record {
    whole = append_assoc done (line ∷ []) after ∙ ap (λ r. done ++ r) (sym first) ∙ h.whole;
    marked =
        marks_follow done (line ∷ []) marks (mark ∷ []) h.marked (one_mark line mark a.allowed);
    written = subst (λ t. Appends old new t)
        (sym (replies_follow Start done (line ∷ []) marks (mark ∷ []) h.marked
        ∙ ap (λ t. run done marks ++ t)
        (one_reply E (history_after Start done marks) line mark h.history ∙ sym a.text_is)))
        (appended old mid new (run done marks) text h.written wrote);
    history = a.after_is ∙ ap (λ H. (line_answer H line mark).after) h.history
        ∙ sym (history_follows Start done (line ∷ []) marks (mark ∷ []) h.marked);
  },
)
  where
    one_reply : (E H : History) (line : List ℕ) (mark : Mark) → E ≡ H
        → replies H (line ∷ []) (mark ∷ []) ≡ (line_answer E line mark).text
    one_reply E H line mark h = append-nil _ ∙ ap (λ K. (line_answer K line mark).text) (sym h)

pub all_done : (old new : Option (List ℕ)) (F : History) (all : List (List ℕ))
    → SoFar old new F all [] → WritesAll old new all
all_done old new F all (done, marks, h) =
    let e : done ≡ all = sym (append-nil done) ∙ h.whole in (
      marks,
      ap (λ d. are_marks d marks) (sym e)
          ∙ h.marked,
      subst (λ d. Appends old new (run d marks)) e h.written,
    )

keeps_written : (old mid new : Option (List ℕ)) (xs : List ℕ) → Appends old mid xs → Keeps mid new
    → Appends old new xs
keeps_written None mid new xs h k = tt
keeps_written (Some a) None new xs h k = absurd h
keeps_written (Some a) (Some b) None xs h k = absurd k
keeps_written (Some a) (Some b) (Some c) xs h k = k ∙ h

-- there was no memory for the next line
pub stopped : (old mid new : Option (List ℕ)) (E : History) (all rest after : List (List ℕ))
    (line : List ℕ)
    → SoFar old mid E all rest → rest ≡ line ∷ after → Keeps mid new → WritesBefore old new all
stopped old mid new E all rest after line (done, marks, h) first keeps = (
  done,
  rest,
  h.whole,
  (λ e. cc),
  (marks, h.marked, keeps_written old mid new (run done marks) h.written keeps),
)

part_appended : (old mid new : Option (List ℕ)) (xs text more : List ℕ) → Appends old mid xs
    → AppendsPart mid new text → AppendsPart old new (xs ++ (text ++ more))
part_appended old mid new xs text more h (part, rest, whole, wrote) = (
  xs ++ part,
  rest ++ more,
  append_assoc xs part (rest ++ more)
      ∙ ap (λ t. xs ++ t) (sym (append_assoc part rest more) ∙ ap (λ t. t ++ more) whole),
  appended old mid new xs part h wrote,
)

-- the writer failed at the next line
pub broken : (old mid new : Option (List ℕ)) (E F : History) (all rest after : List (List ℕ))
    (line text : List ℕ)
    → SoFar old mid E all rest → rest ≡ line ∷ after → IsReply E (command line) text F
    → AppendsPart mid new text → WritesPart old new all
broken old mid new E F all rest after line text (done, marks, h) first (mark, a) wrote =
    let H = history_after Start done marks in
    let b = line_answer H line mark in
    let more = replies b.after after (unmarked after) in
    let whole : done ++ line ∷ after ≡ all = ap (λ r. done ++ r) (sym first) ∙ h.whole in
    let said : text ≡ b.text = a.text_is ∙ ap (λ K. (line_answer K line mark).text) h.history in
    let later_marks : are_marks (line ∷ after) (mark ∷ unmarked after) ≡ true =
    and_from _ _ a.allowed (unmarked_are after) in
    let marked =
    marks_follow done (line ∷ after) marks (mark ∷ unmarked after) h.marked later_marks in
    let is : run (done ++ line ∷ after) (marks ++ mark ∷ unmarked after)
    ≡ run done marks ++ (text ++ more) =
    replies_follow Start done (line ∷ after) marks (mark ∷ unmarked after) h.marked
    ∙ ap (λ t. run done marks ++ (t ++ more)) (sym said) in (
      marks ++ mark ∷ unmarked after,
      ap (λ ls. are_marks ls (marks ++ mark ∷ unmarked after)) (sym whole) ∙ marked,
      subst (λ t. AppendsPart old new t)
          (sym is ∙ ap (λ ls. run ls (marks ++ mark ∷ unmarked after)) whole)
          (part_appended old mid new (run done marks) text more h.written wrote),
    )

-- a line was not answered
pub line_failed : (old mid new : Option (List ℕ)) (E F : History) (all rest after : List (List ℕ))
    (line : List ℕ) (fault : PlayFault)
    → SoFar old mid E all rest → rest ≡ line ∷ after
    → LineIsAnswered E (command line) F mid new (Err fault)
    → LinesArePlayed old new all (Err fault)
line_failed old mid new E F all rest after line CannotWrite s first (text, a, wrote) =
    broken old mid new E F all rest after line text s first a wrote
line_failed old mid new E F all rest after line NoMemory s first h =
    stopped old mid new E all rest after line s first h
line_failed old mid new E F all rest after line fault s first h = absurd h
