use Rattle.std.proofs.Common.{◌≡◌, ◌∙◌, false, arith, ap, sym, inl, inr}
use Rattle.metric_events.specs.Running.{held_senders}
use Rattle.metric_events.specs.Legal.{is_held}
use Rattle.delta_book.specs.Journal.{journal_of, history}
use Rattle.delta_book.specs.Refusals.{door_refusal, has_room}
use Rattle.delta_book.proofs.Refusing.{full_refusal, no_refusal}
use Rattle.delta_book.proofs.book.Book.door_fault.Goals as goal
use Rattle.delta_book.proofs.book.Book.door_fault.Goals.{then-len-ge-MAX_OPEN-via-then-len-ge-MAX_OPEN}
use Rattle.delta_book.proofs.book.Book.door_fault.Goals.{then-len-ge-MAX_OPEN-via-else-len-ge-MAX_OPEN+then-not-has_room}

pub returns-then-len-ge-MAX_OPEN : goal.returns-then-len-ge-MAX_OPEN
returns-then-len-ge-MAX_OPEN c =
    let b = c.self.inside in
    let E = history (journal_of b.opening b.entries.items) in
    let free : is_held c.args.sender.now (held_senders E) ≡ false =
    ap (is_held c.args.sender.now) (sym (c.deref.ensures.value ∙ c.self.invariant.held_are))
    ∙ (sym c.has_sender.ensures ∙ c.if-has_sender.false) in
    full_refusal E c.args.sender.now b.entries.items b.opened.items c.self.invariant.opened free
    (elim c.then-len-ge-MAX_OPEN.branch [
      | then-len-ge-MAX_OPEN-via-then-len-ge-MAX_OPEN w ↦
          inl (omega (arith, w.if-len-ge-MAX_OPEN.true, c.len.ensures))
      | then-len-ge-MAX_OPEN-via-else-len-ge-MAX_OPEN+then-not-has_room w ↦
          inr (ap (λ xs. has_room (history xs)) c.self.view_is
          ∙ (sym w.has_room.ensures ∙ w.if-not-has_room.true))
    ]) ∙ ap (λ xs. door_refusal (history xs) c.args.sender.now) c.self.view_is

pub returns : goal.returns
returns c =
    let b = c.self.inside in
    let E = history (journal_of b.opening b.entries.items) in
    let free : is_held c.args.sender.now (held_senders E) ≡ false =
    ap (is_held c.args.sender.now) (sym (c.deref.ensures.value ∙ c.self.invariant.held_are))
    ∙ (sym c.has_sender.ensures ∙ c.if-has_sender.false) in
    no_refusal E c.args.sender.now b.entries.items b.opened.items c.self.invariant.opened free
    (omega (arith, c.if-len-ge-MAX_OPEN.false, c.len.ensures))
    (ap (λ xs. has_room (history xs)) c.self.view_is
    ∙ (sym c.has_room.ensures ∙ c.if-not-has_room.false))
    ∙ ap (λ xs. door_refusal (history xs) c.args.sender.now) c.self.view_is
