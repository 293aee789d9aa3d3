use Rattle.std.proofs.Common.{◌≡◌, ◌-◌, ◌≤◌, true, length, map, take, drop}
use Rattle.std.specs.List.{list_all}
use Rattle.series_id.specs.Order.{series_before}
use Rattle.metric_events.specs.Series.{is_ascending}
use Rattle.delta_book.specs.Tables.{id_of}
use Rattle.delta_book.proofs.cells.search_place.Given as goal

abbrev pub invariant-loop-low : goal.invariant-loop-low
invariant-loop-low l = record {
  ends : l.high ≤ length l.cells;
  order : l.low ≤ l.high;
  below : is_ascending (map id_of l.cells) ≡ true
      → list_all (λ c. series_before c.id l.series) (take l.low l.cells) ≡ true;
  above : is_ascending (map id_of l.cells) ≡ true
      → list_all (λ c. series_before l.series c.id) (drop l.high l.cells) ≡ true;
}

abbrev pub decreases-loop-low : goal.decreases-loop-low
decreases-loop-low l = l.high - l.low
