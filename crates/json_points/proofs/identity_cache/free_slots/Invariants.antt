use Rattle.std.proofs.Common.{◌≡◌, length}
use Rattle.json_points.proofs.identity_cache.free_slots.Given as goal

abbrev pub invariant-loop : goal.invariant-loop
invariant-loop l = length l.slots.items ≡ l.counter
