use Rattle.std.proofs.Common.{Some, refl, ap, sym, ◌∙◌}
use Rattle.std.proofs.lemmas.Result.{IfOk-weaker}
use Rattle.otlp_read.specs.Lists.{list_in}
use Rattle.json_points.specs.inner.Nodes.{data_at}
use Rattle.json_points.specs.inner.Slots.{slot_data}
use Rattle.json_points.proofs.ListLemmas.{list_there, no_array_there, no_list}
use Rattle.json_points.proofs.lists.list_in.Goals as goal

pub returns-in_default : goal.returns-in_default
returns-in_default g c =
    ap (λ xs. Some xs) c.new.ensures.items
    ∙ sym (ap (λ o. list_in g.T.Element.reads (slot_data o)) c.in_default.is
    ∙ no_list g.T.Element.reads)

pub returns-in-None : goal.returns-in-None
returns-in-None g c =
    sym (ap (λ o. list_in g.T.Element.reads (slot_data o)) c.in-Some.is
    ∙ no_array_there g.T.Element.reads (data_at c.in-Some.node)
    (c.items.ensures.none c.in-None.is))

pub returns-in-Some-items : goal.returns-in-Some-items
returns-in-Some-items g c =
    let f = c.in-Some-items.ensures.found in
    IfOk-weaker c.all_of.result _ _ (λ o h.
    h f.0 f.2 ∙ sym (ap (λ x. list_in g.T.Element.reads (slot_data x)) c.in-Some.is
    ∙ list_there g.T.Element.reads (data_at c.in-Some.node) f.0 _ f.1 refl)) c.all_of.ensures
