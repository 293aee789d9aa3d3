use Rattle.std.proofs.Common.{◌≡◌, map, take, drop}
use Rattle.play_script.specs.PointLines.{point_of, first_fault}
use Rattle.play_script.specs.inner.Views.{words_of_each}
use Rattle.play_script.proofs.points.make_points.Given as goal

abbrev pub invariant-loop-line : goal.invariant-loop-line
invariant-loop-line l = (l.points ≡ map point_of (words_of_each (take l.line-index l.lines)))
    × (first_fault (words_of_each (drop l.line-index l.lines))
    ≡ first_fault (words_of_each l.lines))
