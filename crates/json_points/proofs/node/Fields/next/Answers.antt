use Rattle.std.proofs.Common.{sym, subst}
use Rattle.serde_json.specs.Data.{put}
use Rattle.json_points.specs.inner.Nodes.{data_at, AreMembers}
use Rattle.json_points.proofs.NodeLemmas.{next_member, no_member}
use Rattle.json_points.proofs.node.Fields.next.Goals as goal
use Rattle.json_points.proofs.node.Fields.next.Goals.{in-Some, in-None}

pub invariant_of-result : goal.invariant_of-result
invariant_of-result c =
    (next_member c.self.inside.members c.in-Some.element c.next.new.self c.in-Some.name.now
    c.self.invariant.0 c.self.invariant.1 c.self.invariant.2 c.in-Some.ensures.value).1

pub invariant_of-self : goal.invariant_of-self
invariant_of-self c = elim c.match-next.branch [
  | in-Some w ↦ (
    put w.in-Some.name.now (data_at w.in-Some.element) c.self.invariant.0,
    c.self.invariant.1,
    (next_member c.self.inside.members w.in-Some.element c.next.new.self w.in-Some.name.now
        c.self.invariant.0 c.self.invariant.1 c.self.invariant.2 w.in-Some.ensures.value).0,
  )
  | in-None w ↦ rw w.in-None.ensures.stays c.self.invariant
]

pub returns-clause-value : goal.returns-clause-value
returns-clause-value c before d has =
    let here = subst (λ ts. AreMembers ts before d) (sym c.self.view_is) has in
    elim c.match-next.branch [
      | in-Some w ↦ rw w.result-is ((next_member c.self.inside.members w.in-Some.element
          c.next.new.self w.in-Some.name.now before d here w.in-Some.ensures.value).0)
      | in-None w ↦ rw w.result-is
          (no_member c.self.inside.members c.next.new.self before d here w.in-None.ensures.value)
    ]
