use Rattle.std.proofs.Common.{codes, ◌+◌, ◌*◌, []}
use Rattle.gateway_rehearse.specs.Posts.{between, point_text}
use Rattle.gateway_rehearse.proofs.Putting.{put_three}
use Rattle.gateway_rehearse.proofs.posting.put_point.Goals as goal

pub returns : goal.returns
unfolding point_text
returns c =
    let k = c.args.batch in
    put_three c.put_between-3.result c.args.out.now.items
    (between [] (k + 1) (codes "\",\"startTimeUnixNano\":\""))
    (between [] (10 * k + 10) (codes "\",\"timeUnixNano\":\""))
    (between [] (10 * k + 20) (codes
    "\"}]}}]}]}]}")) _ _ _ c.in_ok-put_between.ensures c.in_ok-put_between-2.ensures c.put_between-3.ensures
