use Rattle.std.proofs.Common.{◌≡◌, ◌∙◌, ◌+◌, ◌-◌, arith, length, refl}
use Rattle.delta_book.specs.Journal.{journal_of}
use Rattle.delta_book.proofs.Retracting.{may_leave, left, journal_less, stored_pop, some_entry}
use Rattle.delta_book.proofs.Retracting.{some_batch}
use Rattle.delta_book.proofs.book.Book.retract.Goals as goal

pub overflow_sub-last : goal.overflow_sub-last
overflow_sub-last c = omega (
  arith,
  c.len-last.ensures,
  some_entry c.self.inside c.requires.0 _ (c.self.view_is ∙ c.requires.1.1.1),
)

pub remove_batch-requires : goal.remove_batch-requires
remove_batch-requires c =
    let b = c.self.inside in
    let ex = c.self.view_is ∙ c.requires.1.1.1 in
    may_leave b c.requires.0 c.requires.1.0 c.args.batch (c.len-last.result - 1) c.requires.1.1.0
    c.deref.result.now c.points_at.result.now c.self.invariant ex c.deref.ensures.value
    (omega (arith, c.len-last.ensures, some_entry b c.requires.0 _ ex)) c.points_at.ensures

pub invariant_of-self : goal.invariant_of-self
invariant_of-self c =
    let b = c.self.inside in
    let i = c.self.invariant in
    let ex = c.self.view_is ∙ c.requires.1.1.1 in
    let n : (c.len-last.result - 1) + 1 ≡ length b.entries.items =
    omega (arith, c.len-last.ensures, some_entry b c.requires.0 _ ex) in
    stored_pop b _ c.requires.0 c.requires.1.0 c.args.batch c.requires.1.1.0 i ex
    (journal_less (journal_of b.opening b.entries.items) c.requires.0 _ c.truncate.new.self.items
    (c.len-last.result - 1) ex n c.truncate.ensures.items)
    (left b c.requires.0 c.requires.1.0 c.args.batch (c.len-last.result - 1) c.requires.1.1.0
    c.deref.result.now c.points_at.result.now c.remove_batch.new.cells.items i ex
    c.deref.ensures.value n c.points_at.ensures c.remove_batch.ensures)
    c.close.ensures.others refl refl
    (omega (arith, c.close.ensures.room, i.open_room))
    i.live_room
    (omega (arith, c.truncate.ensures.capacity, i.room))
    (omega (arith, some_batch b c.requires.0 c.requires.1.0 c.args.batch c.requires.1.1.0 i ex))
    refl refl

pub returns : goal.returns
returns c = λ before seat body h.
    let b = c.self.inside in
    let ex = c.self.view_is ∙ h in
    journal_less (journal_of b.opening b.entries.items) before _ c.truncate.new.self.items
    (c.len-last.result - 1) ex
    (omega (arith, c.len-last.ensures, some_entry b before _ ex)) c.truncate.ensures.items
