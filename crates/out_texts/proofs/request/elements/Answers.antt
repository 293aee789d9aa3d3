use Rattle.std.proofs.Common.{ap, ◌∙◌}
use Rattle.std.proofs.lemmas.List.{take_rest}
use Rattle.out_texts.specs.Sharing.{same}
use Rattle.out_texts.proofs.Loops.{group_more, groups_done}
use Rattle.out_texts.proofs.request.elements.Goals as goal

pub loop-left-preserved : goal.loop-left-preserved
loop-left-preserved g c =
    group_more (same c.args.level) (λ p ps. g.E.Element.element_of p.series ps)
    _ c.loop-left.left.now c.first-item.result _ c.run.result _ _ c.loop-left.values.items
    c.in_ok-build.field-0 _
    c.in-len1-up.len_at_least c.first-item.is (take_rest c.loop-left.left.now 1) c.run.ensures.value
    c.run.ensures.few c.split_at.ensures.back c.split_at-in-len1-up.ensures.front
    c.in_ok-push.ensures.items (c.in_ok-build.ensures
    ∙ ap (λ s. g.E.Element.element_of s c.split_at-in-len1-up.result.0.now)
    c.series.ensures) c.loop-left.invariant

pub returns : goal.returns
returns g c = groups_done (same c.args.level) (λ p ps. g.E.Element.element_of p.series ps)
    _ c.loop-left.left.now c.loop-left.values.items c.in_default.len_below c.loop-left.invariant
