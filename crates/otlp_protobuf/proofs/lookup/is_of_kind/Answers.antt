use Rattle.std.proofs.Common.{Some, ap, subst, sym, ◌∙◌}
use Rattle.series_id.specs.Identity.{Identity}
use Rattle.series_id.specs.Kinds.{IsKind}
use Rattle.otlp_protobuf.proofs.lookup.is_of_kind.Goals as goal

pub returns : goal.returns
returns c =
    let kind = c.kind.ensures ∙ ap (λ (x : Identity). x.kind) c.as_series.ensures in
    record {
      only = λ whole same. c.is_kind.ensures.only (subst IsKind (sym kind) whole) same
          ∙ ap (λ k. Some k) kind;
    }
