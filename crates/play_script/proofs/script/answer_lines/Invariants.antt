use Rattle.std.proofs.Common.{◌≡◌, length}
use Rattle.delta_book.specs.Journal.{history}
use Rattle.play_script.specs.Pieces.{lines}
use Rattle.play_script.proofs.Marked.{SoFar}
use Rattle.play_script.proofs.script.answer_lines.Given as goal

abbrev pub invariant-loop-rest : goal.invariant-loop-rest
invariant-loop-rest g l = SoFar (g.W.Sink.contents l.fn.writer) (g.W.Sink.contents l.writer)
    (history l.book) (lines l.input) (lines l.rest)
    × (g.W.Sink.failures l.writer ≡ g.W.Sink.failures l.fn.writer)

abbrev pub decreases-loop-rest : goal.decreases-loop-rest
decreases-loop-rest g l = length l.rest
