use Rattle.std.proofs.lemmas.Option.{IfSome_then}
use Rattle.forward_law.proofs.Alone.{forwarded_alone}
use Rattle.forward_law.proofs.book.forward_alone.Goals as goal

pub returns : goal.returns
returns c =
    IfSome_then c.forward.result c.forward.ensures
    (λ text h. forwarded_alone c.in-Ok.book _ c.args.sender c.args.bytes.now text.items
    c.in-Ok.ensures h)
