use Rattle.std.proofs.Common.{rules}
use Rattle.std.proofs.lemmas.List.Sorted.{IsPartitionPoint-from_clause, IsPartitionedBy-leb}
use Rattle.series_cell.specs.Spans.{ends_by}
use Rattle.series_cell.specs.declared.batch_span.BatchSpan.{BatchSpan}
use Rattle.series_cell.proofs.Ends.{place_is}
use Rattle.series_cell.proofs.batch_span.find_start.Goals as goal

pub returns-clause-value : goal.returns-clause-value
returns-clause-value c = λ sorted.
    let parted =
    IsPartitionedBy-leb (λ (m : BatchSpan). m.span.end) c.args.spans.now c.args.start sorted in
    let point = IsPartitionPoint-from_clause (ends_by c.args.start) c.args.spans.now
    _ c.partition_point.ensures.partitioned parted (λ a r q k. search rules) in
    place_is c.args.start c.args.spans.now c.partition_point.result c.partition_point.ensures.bound
    point
