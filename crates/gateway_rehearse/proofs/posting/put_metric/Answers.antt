use Rattle.gateway_rehearse.specs.Posts.{metric_text}
use Rattle.gateway_rehearse.proofs.posting.put_metric.Goals as goal

pub returns : goal.returns
unfolding metric_text
returns c = c.put_between.ensures
