use Rattle.std.proofs.Common.{◌≡◌, ◌++◌, take}
use Rattle.std.specs.List.{flat_map}
use Rattle.series_id.specs.inner.Written.{attribute_bytes}
use Rattle.series_id.proofs.written.write_attributes.Given as goal

abbrev pub invariant-loop-pair : goal.invariant-loop-pair
invariant-loop-pair l =
    l.out.items ≡ l.fn.out.items ++ flat_map attribute_bytes (take l.pair-index l.pairs)
