use Rattle.book_desk.specs.Splits.{IsFrom}
use Rattle.book_desk.proofs.Splits.{one_more, set_all}
use Rattle.book_desk.proofs.split.put_home.Goals as goal

pub returns-clause-split : goal.returns-clause-split
returns-clause-split c = λ ps s l.
    one_more c.args.parts.now c.args.home c.args.place c.put.new.part c.index-parts-home.result ps
    c.args.point s l c.requires.home c.requires.within c.in_ok-put.ensures.points
    c.in_ok-put.ensures.places

pub returns-clause-from : goal.returns-clause-from
returns-clause-from c = set_all (IsFrom c.args.sender.now) c.args.parts.now c.args.home
    c.put.new.part c.requires.from c.in_ok-put.ensures.from c.requires.within
