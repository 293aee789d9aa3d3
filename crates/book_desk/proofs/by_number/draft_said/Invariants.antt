use Rattle.std.proofs.Common.{◌≡◌, ◌+◌, ◌≤◌, length}
use Rattle.std.specs.List.{All}
use Rattle.otlp_read.specs.Tallies.{Tally, nothing}
use Rattle.book_desk.specs.Drafts.{HasRead}
use Rattle.book_desk.specs.Splits.{IsFrom}
use Rattle.book_desk.specs.Words.{said}
use Rattle.book_desk.proofs.by_number.draft_said.Given as goal

abbrev pub invariant-loop-left : goal.invariant-loop-left
invariant-loop-left l = record {
  read : (t : Tally) × (said l.names 0 l.words nothing ≡ said l.names 0 l.left t)
      × HasRead l.draft t;
  from : All (IsFrom l.draft.sender) l.draft.parts.items;
  sender : l.draft.sender ≡ l.fn.sender;
  window : l.draft.window ≡ l.fn.window;
  books : length l.draft.parts.items ≡ l.books;
  few : l.draft.counts.points + l.draft.counts.outside + length l.left ≤ length l.words;
}

abbrev pub decreases-loop-left : goal.decreases-loop-left
decreases-loop-left l = length l.left
