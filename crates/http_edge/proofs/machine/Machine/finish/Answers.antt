use Rattle.std.proofs.Common.{ℕ, List, [], sym, subst, ◌∙◌, Some}
use Rattle.http_edge.specs.declared.phase.Phase.{Phase}
use Rattle.http_edge.specs.Message.{IsHeadAt}
use Rattle.http_edge.specs.inner.Body.{body_state}
use Rattle.http_edge.specs.Holds.{IsBehind}
use Rattle.http_edge.proofs.BodyLemmas.{at}
use Rattle.http_edge.proofs.FinishLemmas.{answers_of}
use Rattle.http_edge.proofs.MachineLemmas.{some_bytes, head_behind, not_yet_in_body, whole_in_body}
use Rattle.http_edge.proofs.MachineLemmas.{whole_is, some_fed}
use Rattle.http_edge.proofs.machine.Machine.finish.Goals as goal

pub returns-then-not-is_whole-clause-answers : goal.returns-then-not-is_whole-clause-answers
returns-then-not-is_whole-clause-answers c = λ bytes h.
    let head = c.in-InBody.head.items in
    let body = body_state c.in-InBody.body in
    let x = rw c.in-InBody.is at h in
    let sound = rw c.in-InBody.is at c.requires in (
      some_bytes bytes x.1 x.0 (head_behind head bytes x.1 body x.0 x.2),
      not_yet_in_body head bytes
          x.1 body x.0 sound.1 (sym c.is_whole.ensures ∙ c.if-not-is_whole.true) x.2,
    )

pub returns-else-not-is_whole-clause-answers : goal.returns-else-not-is_whole-clause-answers
returns-else-not-is_whole-clause-answers c = λ bytes h.
    let head = c.in-InBody.head.items in
    let content = c.in-InBody.body.content.items in
    let part = c.in-InBody.body.part.items in
    let x = rw c.in-InBody.is at h in
    let whole =
    whole_is c.in-InBody.body.phase (sym c.is_whole.ensures ∙ c.if-not-is_whole.false) in
    let P : Phase → Type 0 = λ p. IsBehind head (at p content part) bytes x.0 x.1 in
    let Q : List ℕ → Type 0 = λ s. IsHeadAt s x.0 [] in
    answers_of c.whole_request.result bytes content x.0
    (c.whole_request.ensures x.0 (subst Q (sym c.deref.ensures.value) x.2.at))
    (whole_in_body head bytes x.1 content part x.0 (subst P whole x.2))

pub returns-else-not-is_whole-clause-cut : goal.returns-else-not-is_whole-clause-cut
returns-else-not-is_whole-clause-cut c = λ bytes h fine some none.
    let head = c.in-InBody.head.items in
    let content = c.in-InBody.body.content.items in
    let part = c.in-InBody.body.part.items in
    let x = rw c.in-InBody.is at h in
    let whole =
    whole_is c.in-InBody.body.phase (sym c.is_whole.ensures ∙ c.if-not-is_whole.false) in
    let P : Phase → Type 0 = λ p. IsBehind head (at p content part) bytes x.0 x.1 in
    let b = whole_in_body head bytes x.1 content part x.0 (subst P whole x.2) in
    absurd (none b.0 (Some b.1) b.2)

pub returns-then-not-is_whole-clause-closed : goal.returns-then-not-is_whole-clause-closed
returns-then-not-is_whole-clause-closed c = λ h fine. let x = rw c.in-InBody.is at h in
    absurd (some_fed c.in-InBody.head.items (body_state c.in-InBody.body) x)

pub returns-else-not-is_whole-clause-closed : goal.returns-else-not-is_whole-clause-closed
returns-else-not-is_whole-clause-closed c = λ h fine. let x = rw c.in-InBody.is at h in
    absurd (some_fed c.in-InBody.head.items (body_state c.in-InBody.body) x)
