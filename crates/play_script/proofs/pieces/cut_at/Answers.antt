use Rattle.std.proofs.Common.{◌∷◌, take, ◌+◌, ap, ◌∙◌, eqb, sym}
use Rattle.std.specs.List.{slice_split}
use Rattle.std.proofs.lemmas.List.{take_rest}
use Rattle.play_script.proofs.Splitting.{split_some, split_none}
use Rattle.play_script.proofs.pieces.cut_at.Goals as goal

pub returns-in-Some-clause-pieces : goal.returns-in-Some-clause-pieces
returns-in-Some-clause-pieces c =
    let xs = c.args.bytes.now in
    split_some (λ b. eqb b c.args.mark) xs c.in-Some.at (sym c.in-Some.ensures)
    ∙ ap (λ rest. take c.in-Some.at xs ∷ slice_split (λ b. eqb b c.args.mark) rest)
    (sym (take_rest xs (c.in-Some.at + 1)))

pub returns-in-None-clause-pieces : goal.returns-in-None-clause-pieces
returns-in-None-clause-pieces c =
    split_none (λ b. eqb b c.args.mark) c.args.bytes.now (sym c.in-None.ensures)
