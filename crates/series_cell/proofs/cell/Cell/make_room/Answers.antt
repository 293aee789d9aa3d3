use Rattle.std.proofs.Common.{rules, arith, sym, ap, ◌∙◌, length}
use Rattle.series_cell.proofs.Lent.{lent_words, lent_lean}
use Rattle.series_cell.proofs.cell.Cell.make_room.Goals as goal

pub invariant_of-self : goal.invariant_of-self
invariant_of-self c = record {
  cell = search rules;
  words = lent_words c.deref_mut.ensures.value c.self.invariant;
  lean = λ n.
      let i = c.deref_mut.result.now in
      let none = sym c.make_room.ensures.items ∙ n in
      omega (
        arith,
        lent_lean c.deref_mut.ensures.value c.self.invariant none,
        ap length none,
        i.spans.ok.0,
        c.make_room.ensures.len,
        c.make_room.ensures.most,
      );
}
