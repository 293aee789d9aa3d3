use Rattle.std.proofs.Common.{◌≡◌, [], ◌∷◌, ℕ, take, arith, ap, ◌∙◌}
use Rattle.std.proofs.lemmas.List.{take_more}
use Rattle.http_edge.proofs.BodyLemmas.{return_reaches}
use Rattle.http_edge.proofs.body.Body.take_return.Goals as goal

pub returns : goal.returns
returns c =
    let b = c.args.self.now in
    let one : take 1 c.args.piece.now ≡ 13 ∷ [] =
    take_more c.args.piece.now 0 0 (omega arith)
    ∙ ap (λ (x : ℕ). x ∷ []) c.if-piece-ne13.false in (
      omega arith,
      omega arith,
      rw (c.requires.phase, one)
          (return_reaches b.content.items b.part.items (rw c.requires.phase at c.requires.is_open)),
    )
