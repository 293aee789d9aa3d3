use Rattle.std.proofs.Common.{List, ℕ, take, drop, length, ◌≤◌, arith, sym, subst}
use Rattle.std.proofs.Math.Seq.{take-add}
use Rattle.std.proofs.lemmas.List.{take_rest, take-append-drop, length-drop}
use Rattle.std.proofs.lemmas.Result.{err_from_is_err_and}
use Rattle.http_edge.specs.inner.Body.{body_state, Reaches, Refuses}
use Rattle.http_edge.proofs.BodyLemmas.{goes_on, stays, refused_later}
use Rattle.http_edge.proofs.body.Body.feed.Goals as goal

pub steps-init : goal.steps-init
steps-init c =
    record { within = omega arith; reaches = stays (body_state c.args.self.now) c.requires }

pub steps-preserved : goal.steps-preserved
steps-preserved c =
    let piece = c.args.piece.now in
    let at = c.steps.at in
    let n = c.in_ok-at.field-0 in
    let within : n ≤ length (drop at piece) = simp take_rest at c.in_ok-at.ensures.1 in
    let P : List ℕ → Type 0 =
    λ s. Reaches (body_state c.args.self.now) (body_state c.step.new.self) s in
    record {
      within = omega (arith, within, length-drop at piece);
      reaches = subst P (sym (take-add at n piece))
          (goes_on (body_state c.args.self.now) (body_state c.steps.self)
          (body_state c.step.new.self) (take at piece) (take n (drop at piece))
          c.steps.invariant.reaches (simp take_rest at c.in_ok-at.ensures.2));
    }

pub returns-in_err-at-clause-fault : goal.returns-in_err-at-clause-fault
returns-in_err-at-clause-fault c =
    let p = err_from_is_err_and c.from_residual.result c.from_residual.ensures.1 in
    let piece = c.args.piece.now in
    let at = c.steps.at in
    let Q : List ℕ → Type 0 = λ s. Refuses c.in_err-at.field-0.0 (body_state c.args.self.now) s in
    rw (p.1, p.2) (subst Q (take-append-drop at piece)
    (refused_later (body_state c.args.self.now) (body_state c.steps.self) (take at piece)
    (drop at piece) c.in_err-at.field-0.0 c.steps.invariant.reaches
    (simp take_rest at c.in_err-at.ensures)))
