use Rattle.std.proofs.Common.{◌≡◌, ◌++◌, ◌∷◌, take}
use Rattle.std.specs.List.{flat_map}
use Rattle.out_texts.proofs.words.put_more.Given as goal

abbrev pub invariant-loop-item : goal.invariant-loop-item
invariant-loop-item g l = l.out.items
    ≡ l.fn.out.items ++ flat_map (λ x. l.mark ∷ g.T.HasText.text_of x) (take l.item-index l.more)
