use Rattle.std.proofs.Common.{◌≡◌, length, take, arith, length-take}
use Rattle.shared_book.proofs.Tallies.{one_more, passed_over, compared, differed, few_receipts}
use Rattle.shared_book.proofs.tally.Tally.note.Goals as goal
use Rattle.shared_book.proofs.tally.Tally.note.Goals.{then-self, else-self}

pub returns-then-number-ge16 : goal.returns-then-number-ge16
returns-then-number-ge16 g c =
    let e = c.index-journal-index.result in
    let more =
    one_more c.args.journal.now c.args.index e c.requires.index c.index-journal-index.is in
    record { after = rw more (passed_over _ e _ _ _ c.if-number-ge16.true c.requires.before) }

pub overflow_add-self : goal.overflow_add-self
overflow_add-self g c =
    let seat = c.index-journal-index.result.seat in
    let seen = take c.args.index c.args.journal.now in
    omega (
      arith,
      c.requires.before.counted seat (omega arith),
      few_receipts seat 0 seen,
      length-take c.args.index c.args.journal.now,
    )

pub returns : goal.returns
returns g c =
    let e = c.index-journal-index.result in
    let more =
    one_more c.args.journal.now c.args.index e c.requires.index c.index-journal-index.is in
    let at : length (take c.args.index c.args.journal.now) ≡ c.args.index =
    omega (arith, length-take c.args.index c.args.journal.now) in
    elim c.if-self.branch [
      | then-self w ↦ record {
        after =
            rw (w.self-is, more) (compared _ e _ _ _ (omega arith) c.if-number-ge16.false
            (rw w.if-self.true at c.requires.before) (rw at w.are_next-self.ensures.all)
            (rw at w.are_next-self.ensures.any));
      }
      | else-self w ↦ record {
        after =
            rw (w.self-is, w.if-self.false, more)
            (differed _ e _ _ (omega arith) (rw w.if-self.false at c.requires.before));
      }
    ]
