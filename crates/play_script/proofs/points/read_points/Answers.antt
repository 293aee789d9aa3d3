use Rattle.std.proofs.Common.{◌≡◌, ◌∷◌, [], not, true, sym, ap, ◌∙◌}
use Rattle.std.specs.Result.{is_ok}
use Rattle.std.proofs.lemmas.List.{map-append}
use Rattle.play_script.specs.Pieces.{words}
use Rattle.play_script.specs.PointLines.{point_words}
use Rattle.play_script.specs.inner.Views.{words_of, words_of_each}
use Rattle.play_script.proofs.PointSteps.{one_read, some_after}
use Rattle.play_script.proofs.points.read_points.Goals as goal
use Rattle.play_script.proofs.points.read_points.Goals.{then-not-refused, else-not-refused}

pub loop-next-preserved : goal.loop-next-preserved
loop-next-preserved c =
    let first = rw c.in-Some-rest.is at c.in-Some.ensures.point in
    let p = words_of c.in-Some.next.point in
    let read = words_of_each c.loop-next.points.items in
    let left = point_words (words c.loop-next.left.now) in
    let rest = point_words (words c.in-Some-rest.rest.now) in
    let all = point_words (words c.args.text.now) in (
      some_after p left rest first ∙ c.loop-next.invariant.0,
      elim c.if-not-refused.branch [
        | then-not-refused w ↦ λ e.
            let went : is_ok w.push.result ≡ true =
            w.is_err-refused.ensures.negation ∙ ap not (sym w.refused-is ∙ e) in
            let grown = rw went at w.push.ensures.items in
            one_read read _ p left rest all
            (ap (λ v. words_of_each v.items) w.points-is ∙ ap words_of_each grown
            ∙ map-append words_of c.loop-next.points.items (c.in-Some.next.point ∷ []))
            first (c.loop-next.invariant.1 w.if-not-refused.true)
        | else-not-refused w ↦ λ e. let was = w.if-not-refused.false in
            let now = sym w.refused-is ∙ e in cc
      ],
    )
