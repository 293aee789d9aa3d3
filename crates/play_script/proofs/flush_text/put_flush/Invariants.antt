use Rattle.std.proofs.Common.{◌≡◌, ◌++◌, take}
use Rattle.std.specs.List.{flat_map}
use Rattle.play_script.specs.Replies.{point_line}
use Rattle.play_script.proofs.flush_text.put_flush.Given as goal

abbrev pub invariant-loop-point : goal.invariant-loop-point
invariant-loop-point l =
    l.out.items ≡ l.initial.out.items ++ flat_map point_line (take l.point-index l.points)
