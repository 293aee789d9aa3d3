use Rattle.std.proofs.Common.{sym, ◌∙◌}
use Rattle.otlp_protobuf.proofs.ListLemmas.{no_front, one_more, one_stops, all_read, over}
use Rattle.otlp_protobuf.proofs.lists.all_of.Goals as goal

pub loop-content-init : goal.loop-content-init
loop-content-init g c = rw (c.new-found.ensures.items, c.of-rest.ensures) (no_front _)

pub loop-content-preserved : goal.loop-content-preserved
loop-content-preserved g c =
    rw c.in_ok-push.ensures.items (one_more g.T.Element.shows g.T.Element.reads
    c.loop-content.found.items c.in-Some-2.element _ c.in-Some.content.now _ _ c.in-Some.ensures
    (sym c.in_ok-element.ensures ∙ c.in-Some-2.is) c.loop-content.invariant)

pub returns-in_default-2 : goal.returns-in_default-2
returns-in_default-2 g c =
    sym (one_stops g.T.Element.shows g.T.Element.reads c.loop-content.found.items
    _ c.in-Some.content.now _ _ c.in-Some.ensures
    (sym c.in_ok-element.ensures ∙ c.in_default-2.is) c.loop-content.invariant)

pub returns : goal.returns
returns g c =
    sym (all_read g.T.Element.shows g.T.Element.reads c.loop-content.found.items
    _ _ (over _ _ c.next_content.result c.next_content.ensures c.in_default.is)
    c.loop-content.invariant)
