use Rattle.std.proofs.Common.{eqb}
use Rattle.play_script.proofs.Splitting.{first_kept}
use Rattle.play_script.proofs.pieces.cut_line.Goals as goal

pub returns-in-Some-clause-lines : goal.returns-in-Some-clause-lines
returns-in-Some-clause-lines c =
    let found = c.cut_at-piece.ensures.pieces in
    let split = rw c.in-Some.is at found in
    first_kept (λ b. eqb b 10) c.cut_at-piece.result.first.now c.in-Some.rest.now _ split
