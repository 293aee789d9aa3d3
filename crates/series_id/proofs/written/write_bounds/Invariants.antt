use Rattle.std.proofs.Common.{◌≡◌, ◌++◌, take}
use Rattle.std.specs.List.{flat_map}
use Rattle.series_id.specs.inner.Written.{int_bytes}
use Rattle.series_id.proofs.written.write_bounds.Given as goal

abbrev pub invariant-loop-bound : goal.invariant-loop-bound
invariant-loop-bound l =
    l.out.items ≡ l.fn.out.items ++ flat_map int_bytes (take l.bound-index l.bounds)
