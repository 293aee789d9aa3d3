use Rattle.play_script.proofs.PointSteps.{name_is_text}
use Rattle.play_script.proofs.points.text_of.Goals as goal

pub unreachable-requires : goal.unreachable-requires
unreachable-requires c = c.in-Err.ensures.cases.0 (name_is_text c.args.name.now c.requires)
