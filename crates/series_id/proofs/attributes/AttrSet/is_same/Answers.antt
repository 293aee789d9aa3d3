use Rattle.std.proofs.Common.{ap, ◌∙◌}
use Rattle.std.specs.Ordering.{is_eq}
use Rattle.series_id.specs.Attributes.{attrs_cmp}
use Rattle.series_id.specs.Totals.{attrs_total}
use Rattle.series_id.proofs.Exact.{attrs_exact}
use Rattle.series_id.proofs.Order.{tied-decides}
use Rattle.series_id.proofs.attributes.AttrSet.is_same.Goals as goal

pub returns : goal.returns
returns c = tied-decides attrs_cmp attrs_total attrs_exact c.args.self.now c.args.other.now
    c.is_eq.result (c.is_eq.ensures ∙ ap is_eq c.compare.ensures)
