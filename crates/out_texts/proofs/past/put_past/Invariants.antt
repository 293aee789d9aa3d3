use Rattle.std.proofs.Common.{◌≡◌, ◌++◌, map, take}
use Rattle.std.specs.List.{flat_map}
use Rattle.delta_book.specs.PastRows.{past_row}
use Rattle.out_texts.specs.Past.{past_line}
use Rattle.out_texts.proofs.past.put_past.Given as goal

abbrev pub invariant-loop-past : goal.invariant-loop-past
invariant-loop-past l =
    l.out.items ≡ l.fn.out.items ++ flat_map past_line (map past_row (take l.past-index l.rows))
