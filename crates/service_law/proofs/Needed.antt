-- Without any one of the rules something may happen behind which a point is lost or counts twice:
-- one way for each.
use Rattle.std.proofs.Common.{◌≡◌, ℕ, false, List, [], ◌∷◌, length, slice_index, inl, refl, ap}
use Rattle.series_id.specs.Identity.{Identity}
use Rattle.series_id.specs.Order.{same_series, series_cmp, scope_cmp, metric_cmp}
use Rattle.metric_events.specs.declared.batch.Batch.{Batch}
use Rattle.series_id.specs.declared.kinds.Kind.TheVariants.{Sum}
use Rattle.metric_events.specs.DataPoint.{DataPoint}
use Rattle.service_law.specs.Machine.{Event, Do, Late, Kill, LosePower, Look, Start, Post, Place}
use Rattle.service_law.specs.Machine.{Write, Answer, Refuse, Begin, Turn, Commit, Tear, Deliver}
use Rattle.service_law.specs.Machine.{Acknowledge, Drop, Delete, Quarantine, behind}
use Rattle.service_law.specs.Counted.{IsCounted, Rule, AnswerWaits, RefusalWaits, OneStep}
use Rattle.service_law.specs.Counted.{AllOrNone, TakeTurns, JournalFirst, GroupsWhole, FailureEnds}
use Rattle.service_law.specs.Counted.{HeldKept, Primed, InOrder, Synced, Numbered, Fenced}
use Rattle.service_law.specs.Counted.{ReadBehind, SinkAnswers, RefusalTrue, OwnKey, without}

abbrev of_name : ℕ → Identity
of_name c = record {
  resource = [];
  scope_name = [];
  scope_version = [];
  scope_attrs = [];
  name =
      c ∷ [];
  unit = [];
  kind = Sum false;
  attrs = [];
}

abbrev point : Identity → ℕ → ℕ → ℕ → DataPoint
point series start end value = record {
  series = series;
  span =
      record { start = start; end = end };
  row = 1 ∷ value ∷ 0 ∷ [];
}

abbrev batch : ℕ → List DataPoint → Batch
batch s ps = record { sender = s ∷ []; points = ps }

abbrev x : Identity
x = of_name 120

abbrev y : Identity
y = of_name 121

-- two posts of A, one behind the other; one that has a point of each series, of A and of B
abbrev one : Batch
one = batch 65 (point x 1 2 5 ∷ [])

abbrev two : Batch
two = batch 65 (point x 2 3 7 ∷ [])

abbrev both : Batch
both = batch 65 (point x 1 2 5 ∷ point y 1 2 3 ∷ [])

abbrev strange : Batch
strange = batch 66 (point x 2 3 9 ∷ point y 1 2 3 ∷ [])

-- what leads to it
abbrev way : Rule → List Event
way AnswerWaits = Start ∷ Do (Post one) ∷ Do (Answer 0) ∷ Kill 0 ∷ []
way RefusalWaits = Start ∷ Do (Post one) ∷ Do (Refuse 0) ∷ Kill 0 ∷ []
way OneStep = Start ∷ Do (Post one) ∷ Do (Post two) ∷ Do (Place 1) ∷ Do (Place 0) ∷ Do (Write 2)
    ∷ Kill 0 ∷ Start ∷ []
way AllOrNone = Start ∷ Do (Post one) ∷ Do (Post strange) ∷ []
way TakeTurns = Start ∷ Do (Post one) ∷ Do Begin ∷ Do (Post two) ∷ Do Turn ∷ Do (Write 2)
    ∷ Do Commit ∷ Kill 0 ∷ Start ∷ []
way JournalFirst = Start ∷ Do (Post one) ∷ Do Begin ∷ Do Commit ∷ Kill 0 ∷ []
way GroupsWhole = Start ∷ Do (Post both) ∷ Do (Write 1) ∷ Do Begin ∷ Do (Tear 1) ∷ Start ∷ []
way FailureEnds = Start ∷ Do (Post one) ∷ Do (Write 1) ∷ Do Begin ∷ Do (Tear 0) ∷ []
way HeldKept = Start ∷ Do (Post one) ∷ Do (Write 1) ∷ Do (Quarantine (65 ∷ [])) ∷ Do Begin
    ∷ Do Commit ∷ Kill 0 ∷ Start ∷ []
way Primed = Start ∷ Do (Post one) ∷ Do (Write 1) ∷ Do (Answer 0) ∷ Do Begin ∷ Do Commit ∷ Kill 0
    ∷ Start ∷ Do (Post one) ∷ []
way InOrder = Start ∷ Do (Post one) ∷ Do (Post two) ∷ Do (Write 2) ∷ Kill 0 ∷ Start ∷ []
way Synced = Start ∷ Do (Post one) ∷ Kill 1 ∷ Start ∷ Do (Refuse 0) ∷ LosePower ∷ []
way Numbered = Start ∷ Do (Post one) ∷ Do (Write 1) ∷ Do Begin ∷ Do Commit ∷ Do Delete ∷ Kill 0
    ∷ Start ∷ Do (Post two) ∷ Do (Write 1) ∷ Do (Answer 1) ∷ Kill 0 ∷ Start ∷ []
way ReadBehind = Start ∷ Look ∷ Do (Post one) ∷ Do (Write 1) ∷ Do (Answer 0) ∷ Start ∷ []
way Fenced = Start ∷ Do (Post one) ∷ Start ∷ Late 0 (Write 1) ∷ []
way SinkAnswers =
    Start ∷ Do (Post one) ∷ Do (Write 1) ∷ Do Begin ∷ Do Commit ∷ Do (Acknowledge 0) ∷ []
way RefusalTrue =
    Start ∷ Do (Post one) ∷ Do (Write 1) ∷ Do Begin ∷ Do Commit ∷ Do (Deliver 0) ∷ Do (Drop 0) ∷ []
way OwnKey = Start ∷ Do (Post one) ∷ Do (Write 1) ∷ Do Begin ∷ Do Commit ∷ Do (Deliver 0) ∷ Kill 0
    ∷ Start ∷ Do (Deliver 0) ∷ []

fault : (rule : Rule) → IsCounted (behind (without rule) (way rule)) → ⊥
unfolding same_series series_cmp scope_cmp metric_cmp
fault AnswerWaits h = let e : 0 ≡ 1 = h.told one (point x 1 2 5) (inl refl) (inl refl) in cc e
fault RefusalWaits h = let e : 0 ≡ 1 = h.told one (point x 1 2 5) (inl refl) (inl refl) in cc e
fault OneStep h = let e : 1 ≡ 2 = ap length (h.places.each x) in cc e
fault AllOrNone h = let e : 1 ≡ 0 = ap length (h.places.each y) in cc e
fault TakeTurns h = let e : 1 ≡ 2 = ap length (h.places.each x) in cc e
fault JournalFirst h = let e : 1 ≡ 0 = ap length (h.places.each x) in cc e
fault GroupsWhole h = let e : 0 ≡ 1 = ap length (h.places.each y) in cc e
fault FailureEnds h = let e : 0 ≡ 1 = ap length (h.places.each x) in cc e
fault HeldKept h = let e : 0 ≡ 1 = ap length (h.places.each x) in cc e
fault Primed h = let e : 2 ≡ 1 = h.told one (point x 1 2 5) (inl refl) (inl refl) in cc e
fault InOrder h = let e : 1 ≡ 2 = ap length (h.places.each x) in cc e
fault Synced h = let e : 0 ≡ 1 = h.told one (point x 1 2 5) (inl refl) (inl refl) in cc e
fault Numbered h = let e : 1 ≡ 2 = ap length (h.places.each x) in cc e
fault ReadBehind h = let e : 0 ≡ 1 = ap length (h.places.each x) in cc e
fault Fenced h = let e : 0 ≡ 1 = ap length (h.places.each x) in cc e
fault SinkAnswers h = let e : 0 ≡ 1 = ap (λ row. slice_index row 0) (h.sums x) in cc e
fault RefusalTrue h = let e : 2 ≡ 1 = ap (λ row. slice_index row 0) (h.sums x) in cc e
fault OwnKey h = let e : 2 ≡ 1 = ap (λ row. slice_index row 0) (h.sink x) in cc e

pub needed_law : (rule : Rule) → (es : List Event) × (IsCounted (behind (without rule) es) → ⊥)
needed_law rule = (way rule, fault rule)
