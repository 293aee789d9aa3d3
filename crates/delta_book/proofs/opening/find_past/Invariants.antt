use Rattle.std.proofs.Common.{◌≡◌, ◌-◌, ◌≤◌, true, length, take, drop}
use Rattle.std.specs.List.{list_all}
use Rattle.series_id.specs.Order.{series_before}
use Rattle.delta_book.proofs.opening.find_past.Given as goal

abbrev pub invariant-loop-low : goal.invariant-loop-low
invariant-loop-low l = record {
  ends : l.high ≤ length l.opened;
  order : l.low ≤ l.high;
  below : list_all (λ s. series_before s.series l.series) (take l.low l.opened) ≡ true;
  above : list_all (λ s. series_before l.series s.series) (drop l.high l.opened) ≡ true;
}

abbrev pub decreases-loop-low : goal.decreases-loop-low
decreases-loop-low l = l.high - l.low
