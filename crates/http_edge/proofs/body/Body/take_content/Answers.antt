use Rattle.std.proofs.Common.{take, arith, ◌∙◌}
use Rattle.std.proofs.lemmas.List.{length-take-le}
use Rattle.http_edge.proofs.BodyLemmas.{content_more, content_end}
use Rattle.http_edge.proofs.body.Body.take_content.Goals as goal

pub returns-then-n-left : goal.returns-then-n-left
returns-then-n-left c =
    let b = c.args.self.now in
    let opened = rw c.requires.phase at c.requires.is_open in
    let len = length-take-le c.min-n.result c.args.piece.now (omega arith) in (
      omega (arith, opened.0),
      omega arith,
      rw c.requires.phase
          (content_end c.args.left b.content.items c.extend_from_slice.new.self.items b.part.items
          (take c.min-n.result c.args.piece.now) opened c.in_ok-extend_from_slice.ensures.items
          (len ∙ c.if-n-left.true)),
    )

pub returns : goal.returns
returns c =
    let b = c.args.self.now in
    let opened = rw c.requires.phase at c.requires.is_open in
    let len = length-take-le c.min-n.result c.args.piece.now (omega arith) in (
      omega (arith, opened.0),
      omega arith,
      rw c.requires.phase
          (content_more c.args.left c.min-n.result b.content.items
          c.extend_from_slice.new.self.items
          b.part.items (take c.min-n.result c.args.piece.now) opened
          c.in_ok-extend_from_slice.ensures.items len (omega arith)),
    )
