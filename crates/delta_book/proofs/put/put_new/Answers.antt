use Rattle.std.proofs.Common.{◌∙◌, ◌∷◌, [], sym, subst}
use Rattle.delta_book.specs.inner.Parts.{part_of}
use Rattle.delta_book.specs.inner.Puts.{fits_alone}
use Rattle.delta_book.specs.inner.Tables.{Puts}
use Rattle.delta_book.proofs.Asked.{absent_at, nothing_against, fits_new}
use Rattle.delta_book.proofs.PutIn.{put_first, rejects_at}
use Rattle.delta_book.proofs.put.put_new.Goals as goal

pub returns-in-Err-clause-rejection : goal.returns-in-Err-clause-rejection
returns-in-Err-clause-rejection c = λ place qs h.
    let cs = c.args.cells.now.items in
    let p = c.args.point.now in
    rejects_at c.in-Err.rejection c.args.fill (fits_alone p) qs c.args.sender.now place p
    (fits_new cs qs p h (absent_at cs qs c.args.i p.series h c.requires.gap))
    c.in-Err.ensures.rejection

pub returns-clause-put : goal.returns-clause-put
returns-clause-put c =
    let cs = c.args.cells.now.items in
    subst (λ ks. Puts cs ks c.args.number c.args.sender.now
    (part_of c.args.fill c.args.point.now ∷ [])) (sym c.in-Ok-insert.ensures.items)
    (put_first cs c.args.i c.in-Ok.cell c.args.number c.args.sender.now c.args.fill c.args.point.now
    c.requires.gap c.in-Ok.ensures.id c.in-Ok.ensures.stands)

pub returns-clause-within : goal.returns-clause-within
returns-clause-within c = λ w qs h.
    let cs = c.args.cells.now.items in
    let p = c.args.point.now in
    sym (fits_new cs qs p h (absent_at cs qs c.args.i p.series h c.requires.gap))
    ∙ c.in-Ok.ensures.within w

pub returns-clause-next : goal.returns-clause-next
returns-clause-next c = λ place qs h.
    let cs = c.args.cells.now.items in
    let p = c.args.point.now in
    nothing_against cs qs c.args.sender.now place p h
    (absent_at cs qs c.args.i p.series h c.requires.gap)
