use Rattle.std.proofs.Common.{ap, ◌∙◌}
use Rattle.std.proofs.lemmas.Option.{IfSome_then}
use Rattle.otlp_read.specs.Attributes.{pair_of}
use Rattle.otlp_read.specs.Lists.{list_in}
use Rattle.json_points.specs.inner.Nodes.{data_at}
use Rattle.json_points.specs.inner.Slots.{slot_data}
use Rattle.json_points.proofs.ListLemmas.{list_there, no_list}
use Rattle.json_points.proofs.lookup.pairs_in.Goals as goal

pub returns-in_default-clause-pairs : goal.returns-in_default-clause-pairs
returns-in_default-clause-pairs c =
    ap (λ o. list_in pair_of (slot_data o)) c.in_default.is ∙ no_list pair_of

pub returns-clause-pairs : goal.returns-clause-pairs
returns-clause-pairs c =
    let f = c.in_ok-items.ensures.found in
    IfSome_then c.put_pairs.result c.put_pairs.ensures.pairs (λ n h.
    ap (λ o. list_in pair_of (slot_data o)) c.in-Some.is
    ∙ list_there pair_of (data_at c.in-Some.node) f.0 _ f.1 (h f.0 f.2))
