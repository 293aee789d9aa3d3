use Rattle.serde_json.specs.Data.{no_members, put}
use Rattle.json_points.specs.inner.Nodes.{data_at}
use Rattle.json_points.proofs.PartLemmas.{no_parts_there, all_there}
use Rattle.json_points.proofs.sums.parts_of.Goals as goal

pub loop-name-init : goal.loop-name-init
loop-name-init c = (no_members, c.in-Some.ensures.found, c.no_parts-parts.ensures)

pub loop-name-preserved : goal.loop-name-preserved
loop-name-preserved c =
    let now = c.loop-name.invariant in (
      put c.in-Some-next.name.now (data_at c.in-Some-next.value) now.0,
      c.in-Some-next.ensures.value
          now.0 _ now.1,
      c.put_part.ensures now.0 now.2,
    )

pub returns-in_default : goal.returns-in_default
returns-in_default c =
    no_parts_there _ _ (c.fields.ensures.none c.in_default.is) c.no_parts-parts.ensures

pub returns : goal.returns
returns c =
    let now = c.loop-name.invariant in
    all_there c.next.result c.loop-name.parts now.0 _ _ (c.next.ensures.value now.0 _ now.1)
    c.in_default-next.is now.2
