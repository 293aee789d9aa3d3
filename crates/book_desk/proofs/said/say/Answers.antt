use Rattle.std.proofs.Common.{ap, ◌∙◌, Some}
use Rattle.series_id.specs.Identity.{Identity}
use Rattle.book_desk.proofs.WordsSaid.{extends_numbered, said_more}
use Rattle.book_desk.proofs.said.say.Goals as goal

pub returns-clause-said : goal.returns-clause-said
returns-clause-said c = λ ps s.
    said_more c.args.names.now c.number_of.new.self c.args.words.now.items
    c.push_point.new.words.items c.in_ok-number.number ps c.args.point.now
    (extends_numbered c.shared_series.result.now c.args.names.now c.number_of.new.self
    c.in_ok-number.number c.in_ok-number.ensures.numbered)
    c.in_ok-push_point.ensures (c.in_ok-number.ensures.number
    ∙ ap (λ (x : Identity). Some x) c.shared_series.ensures) c.requires s
