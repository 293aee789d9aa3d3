use Rattle.std.proofs.Common.{◌≡◌, ◌+◌, ◌≤◌, length, take}
use Rattle.std.specs.List.{All}
use Rattle.book_desk.specs.Drafts.{HasRead}
use Rattle.book_desk.specs.inner.Alone.{alone}
use Rattle.book_desk.specs.Splits.{IsFrom}
use Rattle.book_desk.proofs.draft_of.draft_of.Given as goal

abbrev pub invariant-loop-i : goal.invariant-loop-i
invariant-loop-i l = record {
  read : HasRead l.draft (alone (take l.i l.points));
  from : All (IsFrom l.draft.sender) l.draft.parts.items;
  sender : l.draft.sender ≡ l.fn.sender;
  window : l.draft.window ≡ l.fn.window;
  books : length l.draft.parts.items ≡ l.books;
  few : l.draft.counts.points + l.draft.counts.outside ≤ l.i;
}
