use Rattle.series_id.specs.Totals.{resource_total, scope_total, stream_total, series_total}
use Rattle.series_id.proofs.Exact.{resource_exact, resource_tied, scope_exact, scope_tied}
use Rattle.series_id.proofs.Exact.{stream_exact, stream_tied, series_exact, series_levels}
use Rattle.series_id.proofs.laws.levels.Goals as goal

pub returns : goal.returns
returns c = record {
  resource = (resource_total, λ x y. (resource_exact x y, resource_tied x y));
  scope = (scope_total, λ x y. (scope_exact x y, scope_tied x y));
  stream = (stream_total, λ x y. (stream_exact x y, stream_tied x y));
  series = (series_total, series_exact);
  in_turn = series_levels;
}
