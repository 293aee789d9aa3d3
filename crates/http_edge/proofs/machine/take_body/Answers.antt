use Rattle.std.proofs.Common.{sym, ◌∙◌}
use Rattle.http_edge.proofs.BodyLemmas.{whole_reaches}
use Rattle.http_edge.proofs.MachineLemmas.{whole_is}
use Rattle.http_edge.proofs.machine.take_body.Goals as goal

pub returns-then-is_whole-clause-ok : goal.returns-then-is_whole-clause-ok
returns-then-is_whole-clause-ok c =
    let b = c.args.body.now in
    let done = sym c.is_whole.ensures ∙ c.if-is_whole.true in
    let whole = whole_is b.phase done in (
      rw whole (whole_reaches b.content.items b.part.items c.args.piece.now
          (rw whole at c.requires)),
      sym done,
    )
