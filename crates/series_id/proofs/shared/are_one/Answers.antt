use Rattle.std.proofs.lemmas.Slice.Eq.{slice_eq-Decides}
use Rattle.std.proofs.lemmas.Bool.Decides.{Decides-eqb}
use Rattle.series_id.proofs.ByBytes.{answers}
use Rattle.series_id.proofs.shared.are_one.Goals as goal

pub returns : goal.returns
returns c = λ x y p q j k.
    answers x y c.args.mine.now c.args.its.now c.eq.result p q j k
    (slice_eq-Decides Decides-eqb c.args.mine.now c.args.its.now c.eq.result c.eq.ensures)
