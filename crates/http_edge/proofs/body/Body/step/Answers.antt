use Rattle.std.proofs.Common.{arith, take, length}
use Rattle.http_edge.proofs.BodyLemmas.{whole_reaches}
use Rattle.http_edge.proofs.body.Body.step.Goals as goal

pub returns-in-Whole : goal.returns-in-Whole
returns-in-Whole c =
    let b = c.args.self.now in (
      omega (arith, c.requires.some),
      omega arith,
      rw c.in-Whole.is
          (whole_reaches b.content.items b.part.items
          (take (length c.args.piece.now) c.args.piece.now)
          (rw c.in-Whole.is at c.requires.is_open)),
    )
