use Rattle.std.proofs.Common.{List, take, subst, arith}
use Rattle.std.specs.List.{flat_map}
use Rattle.metric_events.specs.DataPoint.{DataPoint}
use Rattle.book_desk.specs.Said.{AreSaid}
use Rattle.book_desk.specs.Splits.{points_in}
use Rattle.book_desk.proofs.WordsSaid.{extends_same, extends_more, none_said, part_more}
use Rattle.book_desk.proofs.said.words_said.Goals as goal

pub loop-i-init : goal.loop-i-init
loop-i-init c = record {
  said = none_said c.args.names.now c.in_ok-words.words.items c.in_ok-words.ensures.items;
  more = extends_same c.args.names.now;
}

pub loop-i-preserved : goal.loop-i-preserved
loop-i-preserved c = record {
  said = subst (λ (qs : List DataPoint). AreSaid c.say_part.new.names c.say_part.new.words.items qs)
      (part_more c.args.parts.now c.loop-i.i c.index-parts-i.result (omega arith)
      c.index-parts-i.is)
      (c.in_ok-say_part.ensures.said (flat_map points_in (take c.loop-i.i c.args.parts.now))
      c.loop-i.invariant.said);
  more = extends_more _ _ _ c.loop-i.invariant.more c.say_part.ensures.more;
}
