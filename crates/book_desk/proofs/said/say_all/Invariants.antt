use Rattle.std.proofs.Common.{◌++◌, List, take}
use Rattle.metric_events.specs.DataPoint.{DataPoint}
use Rattle.book_desk.specs.Naming.{Extends}
use Rattle.book_desk.specs.Said.{AreSaid}
use Rattle.book_desk.proofs.said.say_all.Given as goal

abbrev pub invariant-loop-i : goal.invariant-loop-i
invariant-loop-i l = record {
  said : (ps : List DataPoint) → AreSaid l.fn.names l.fn.words.items ps
      → AreSaid l.names l.words.items (ps ++ take l.i l.points);
  more : Extends l.fn.names l.names;
}
