use Rattle.std.proofs.Common.{◌≡◌, None, sym, subst, ◌∙◌}
use Rattle.http_edge.specs.Holds.{Progress, Holds, fault_in}
use Rattle.http_edge.specs.inner.Holds.{progress_of}
use Rattle.http_edge.proofs.MachineLemmas.{reports_of, whole_there}
use Rattle.http_edge.proofs.decoder.Decoder.feed.Goals as goal

pub returns-clause-reports : goal.returns-clause-reports
returns-clause-reports c = λ bytes h.
    let P : Progress → Type 0 = λ p. Holds p bytes in
    reports_of c.feed.result (progress_of c.self.inside.machine) (progress_of c.feed.new.self)
    c.args.piece.now bytes c.feed.ensures.fed.ok c.feed.ensures.fed.fault
    (subst P (sym c.self.view_is) h)

pub returns-clause-whole : goal.returns-clause-whole
returns-clause-whole c = λ bytes m h fine b.
    let P : Progress → Type 0 = λ p. Holds p bytes in
    let Q : Progress → Type 0 = λ p. fault_in p ≡ None in
    let there = whole_there (progress_of c.self.inside.machine) bytes m c.self.invariant
    (subst Q (sym c.self.view_is) fine) (subst P (sym c.self.view_is) h) b in
    let stays = c.feed.ensures.fed.whole there in
    (stays.0, stays.1 ∙ c.self.view_is)
