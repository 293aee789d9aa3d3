use Rattle.std.proofs.Common.{◌∙◌, ◌<◌, List, Option, ap, arith, length, get_or, sym}
use Rattle.book_desk.specs.declared.part.Part.{Part}
use Rattle.book_desk.proofs.Crossings.{crossing}
use Rattle.book_desk.proofs.desk.Desk.crosses.Goals as goal

pub returns-then-crosses-clause-crossing : goal.returns-then-crosses-clause-crossing
returns-then-crosses-clause-crossing c =
    let i = c.loop-i.i in
    let q = c.index-parts-i.result in
    let l : i < length c.args.self.now.books.items =
    omega (arith, c.if-parts-len.false, c.loop-i-test.true) in
    let m : i < length c.args.reader.now =
    omega (arith, c.loop-i-test.true, ap length c.parts-parts.ensures) in
    crossing c.args.stretch c.args.self.now.books.items c.args.reader.now c.args.first i
    c.index.result.now q (omega arith) l m c.index.ensures
    (c.index-parts-i.is ∙ ap (λ (ps : List (Option Part)). get_or ps i q) c.parts-parts.ensures)
    c.loop-i.invariant (sym c.crosses.ensures ∙ c.if-crosses.true)
