use Rattle.std.proofs.Common.{◌≡◌, ◌++◌, ◌∷◌, [], List, ◌<◌, ◌+◌, length, take, sym, ap, subst, ◌∙◌}
use Rattle.std.proofs.Common.{arith}
use Rattle.std.proofs.lemmas.List.{take_more}
use Rattle.metric_events.specs.DataPoint.{DataPoint}
use Rattle.book_desk.specs.Drafts.{HasRead}
use Rattle.book_desk.specs.inner.Alone.{alone}
use Rattle.book_desk.proofs.draft_of.draft_of.Goals as goal

pub loop-i-preserved : goal.loop-i-preserved
loop-i-preserved c =
    let ps = c.args.points.now in
    let l : c.loop-i.i < length ps = omega arith in
    let e : take c.loop-i.i ps ++ c.in_ok-copy.field-0 ∷ [] ≡ take (c.loop-i.i + 1) ps =
    ap (λ (p : DataPoint). take c.loop-i.i ps ++ p ∷ [])
    (c.in_ok-copy.ensures ∙ c.index-points-i.is)
    ∙ sym (take_more ps c.loop-i.i c.index-points-i.result l) in
    record {
      read = subst (λ (xs : List DataPoint). HasRead c.add.new.self (alone xs)) e
          (c.in_ok-add.ensures.read (alone (take c.loop-i.i ps)) c.loop-i.invariant.read);
      from = c.in_ok-add.ensures.from;
      sender = c.in_ok-add.ensures.sender ∙ c.loop-i.invariant.sender;
      window = c.in_ok-add.ensures.window ∙ c.loop-i.invariant.window;
      books = c.in_ok-add.ensures.books ∙ c.loop-i.invariant.books;
      few = omega (arith, c.in_ok-add.ensures.more, c.loop-i.invariant.few);
    }
