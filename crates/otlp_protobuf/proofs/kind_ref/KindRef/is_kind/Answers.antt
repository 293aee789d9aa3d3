use Rattle.std.proofs.Common.{ap, map, sym, subst, Some, ◌∙◌}
use Rattle.series_id.specs.Kinds.{IsKind}
use Rattle.series_id.specs.declared.limits.TheConstants.{MAX_BOUND}
use Rattle.otlp_read.specs.Integers.{signed_in}
use Rattle.otlp_read.specs.Lists.{all_of}
use Rattle.otlp_protobuf.specs.Members.{double_data}
use Rattle.otlp_protobuf.proofs.KeptLemmas.{kind_again}
use Rattle.otlp_protobuf.proofs.kind_ref.KindRef.is_kind.Goals as goal

pub returns-in-Histogram-Histogram : goal.returns-in-Histogram-Histogram
returns-in-Histogram-Histogram c = record {
  only = λ within same.
      rw (c.in-Histogram-Histogram.is-0, c.in-Histogram-Histogram.is-1)
      (kind_again _ c.in-Histogram-Histogram.its (subst IsKind c.in-Histogram-Histogram.is-1 within)
      (ap (λ ns. all_of (signed_in MAX_BOUND MAX_BOUND) (map double_data ns)) (sym c.of.ensures)
      ∙ c.are_bounds.ensures.only same ∙ ap (λ bs. Some bs) c.as_slice.ensures));
}
