use Rattle.std.proofs.Common.{codes, []}
use Rattle.gateway_rehearse.specs.Posts.{between, head_text}
use Rattle.gateway_rehearse.proofs.Putting.{put_two}
use Rattle.gateway_rehearse.proofs.posting.put_head.Goals as goal

pub returns : goal.returns
unfolding head_text
returns c =
    put_two c.put_between-2.result c.args.out.now.items
    (between
    (codes
    "POST /v1/metrics HTTP/1.1\r\nHost: localhost\r\nContent-Type: application/json\r\nX-Sender: s")
    c.args.sender (codes "\r\nContent-Length: "))
    (between [] c.args.size (codes "\r\nConnection: close\r\n\r\n"))
    _ _ c.in_ok-put_between.ensures c.put_between-2.ensures
