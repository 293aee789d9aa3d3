use Rattle.std.proofs.Common.{◌≡◌, [], ◌∷◌, ℕ, take, arith, ap, ◌∙◌}
use Rattle.std.proofs.lemmas.List.{take_more}
use Rattle.http_edge.proofs.BodyLemmas.{line_feed_reaches}
use Rattle.http_edge.proofs.body.Body.take_line_feed.Goals as goal

pub returns : goal.returns
returns c =
    let b = c.args.self.now in
    let one : take 1 c.args.piece.now ≡ 10 ∷ [] =
    take_more c.args.piece.now 0 0 (omega arith)
    ∙ ap (λ (x : ℕ). x ∷ []) c.if-piece-ne10.false in (
      omega arith,
      omega arith,
      rw (c.requires.phase, c.clear.ensures.items, one)
          (line_feed_reaches b.content.items b.part.items
          (rw c.requires.phase at c.requires.is_open)),
    )
