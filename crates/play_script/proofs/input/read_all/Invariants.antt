use Rattle.std.proofs.Common.{◌≡◌, ◌≤◌, ◌-◌, vec_len}
use Rattle.std.specs.Io.KnownBytes.{Consumes}
use Rattle.play_script.proofs.input.read_all.Given as goal

abbrev pub invariant-loop-count : goal.invariant-loop-count
invariant-loop-count g l = Consumes (g.R.Source.remaining l.fn.reader)
    (g.R.Source.remaining l.reader) l.input.items × (vec_len l.input ≤ 16777216)
    × (g.R.Source.failures l.reader ≡ g.R.Source.failures l.fn.reader)

abbrev pub decreases-loop-count : goal.decreases-loop-count
decreases-loop-count g l = 16777216 - vec_len l.input
