use Rattle.std.proofs.Common.{ℕ, ◌≤◌, ◌<◌, arith}
use Rattle.play_script.proofs.Ended.{stopped}
use Rattle.play_script.proofs.input.read_all.Goals as goal

pub returns-then-count-len-clause-stops : goal.returns-then-count-len-clause-stops
returns-then-count-len-clause-stops g c =
    let P : ℕ → Type 0 = λ k. 16777216 < k in
    stopped P (g.R.Source.remaining c.args.reader.now) (g.R.Source.remaining c.loop-count.reader)
    (g.R.Source.remaining c.read.new.self) (g.R.Source.given c.read.new.self) c.in-Ok.count
    c.loop-count.input.items c.read.new.buf c.loop-count.invariant.0 c.in-Ok.ensures.bytes.0
    c.in-Ok.ensures.bound (omega (arith, c.read.auto.buf)) c.in-Ok.ensures.given
    (omega (arith, c.loop-count.input.ok.0))
    (omega (arith, c.loop-count.input.ok.0, c.len.ensures, c.in-Ok.ensures.given))

pub returns-then-is_err-clause-stops : goal.returns-then-is_err-clause-stops
returns-then-is_err-clause-stops g c =
    let P : ℕ → Type 0 = λ k. k ≤ 16777216 in
    stopped P (g.R.Source.remaining c.args.reader.now) (g.R.Source.remaining c.loop-count.reader)
    (g.R.Source.remaining c.read.new.self) (g.R.Source.given c.read.new.self) c.in-Ok.count
    c.loop-count.input.items c.read.new.buf c.loop-count.invariant.0 c.in-Ok.ensures.bytes.0
    c.in-Ok.ensures.bound (omega (arith, c.read.auto.buf)) c.in-Ok.ensures.given
    (omega (arith, c.loop-count.input.ok.0))
    (omega (arith, c.loop-count.input.ok.0, c.len.ensures, c.in-Ok.ensures.given))
