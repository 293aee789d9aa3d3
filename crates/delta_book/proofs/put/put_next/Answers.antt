use Rattle.std.proofs.Common.{◌∙◌, ◌∷◌, [], ap, length, sym, subst}
use Rattle.series_cell.proofs.ByPlace.{written_back}
use Rattle.delta_book.specs.inner.Parts.{part_of}
use Rattle.delta_book.specs.inner.Tables.{Puts}
use Rattle.delta_book.proofs.PutIn.{then_ok}
use Rattle.delta_book.proofs.put.put_next.Goals as goal

pub returns-in-Ok-clause-put : goal.returns-in-Ok-clause-put
returns-in-Ok-clause-put c =
    let v = c.deref_mut.ensures.value in
    let new = c.put_at.new.cells in
    let part = part_of c.args.fill c.args.point.now in
    then_ok c.put_at.result _ _
    (λ k. subst (λ ks. Puts c.args.cells.now.items ks c.args.number c.args.sender.now (part ∷ []))
    (sym (written_back c.args.cells.now.items new c.args.cells.now.len
    (c.put_at.auto.cells ∙ ap length v) c.args.cells.now.ok.0))
    (subst (λ ks. Puts ks new c.args.number c.args.sender.now (part ∷ [])) v k))
    c.put_at.ensures.put

pub returns-in-Err-clause-rejection : goal.returns-in-Err-clause-rejection
returns-in-Err-clause-rejection c = c.put_new.ensures.rejection c.args.place
