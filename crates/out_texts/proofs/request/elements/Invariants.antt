use Rattle.std.proofs.Common.{◌≡◌, ◌++◌, map, length}
use Rattle.serde_json.specs.View.{view}
use Rattle.out_texts.specs.Groups.{groups, members}
use Rattle.out_texts.specs.Sharing.{same}
use Rattle.out_texts.proofs.request.elements.Given as goal

abbrev pub invariant-loop-left : goal.invariant-loop-left
invariant-loop-left g l = map view l.values.items
    ++ map (λ k. g.E.Element.element_of k.0.series (members k)) (groups (same l.level) l.left)
    ≡ map (λ k. g.E.Element.element_of k.0.series (members k)) (groups (same l.level) l.points)

abbrev pub decreases-loop-left : goal.decreases-loop-left
decreases-loop-left g l = length l.left
