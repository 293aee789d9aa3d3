use Rattle.std.proofs.Common.{◌≡◌, ◌++◌, take}
use Rattle.std.specs.List.{flat_map}
use Rattle.series_id.specs.inner.Written.{scalar_bytes}
use Rattle.series_id.proofs.written.write_scalars.Given as goal

abbrev pub invariant-loop-value : goal.invariant-loop-value
invariant-loop-value l =
    l.out.items ≡ l.fn.out.items ++ flat_map scalar_bytes (take l.value-index l.values)
