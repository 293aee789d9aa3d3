use Rattle.std.proofs.Common.{◌≡◌, length, false}
use Rattle.std.specs.Option.{is_some}
use Rattle.play_script.specs.Pieces.{words}
use Rattle.play_script.specs.PointLines.{point_words}
use Rattle.play_script.specs.inner.Views.{words_of_each}
use Rattle.play_script.proofs.PointSteps.{ReadSoFar}
use Rattle.play_script.proofs.points.read_points.Given as goal

abbrev pub invariant-loop-next : goal.invariant-loop-next
invariant-loop-next l = (is_some (point_words (words l.left))
    ≡ is_some (point_words (words l.text)))
    × (l.refused ≡ false → ReadSoFar (words_of_each l.points.items) (point_words (words l.left))
    (point_words (words l.text)))

abbrev pub decreases-loop-next : goal.decreases-loop-next
decreases-loop-next l = length l.left
