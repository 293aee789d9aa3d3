use Rattle.std.proofs.Common.{refl}
use Rattle.delta_book.proofs.Passed.{many_is}
use Rattle.delta_book.proofs.limits.exceeds_max_series.Goals as goal

pub returns : goal.returns
returns c = λ qs h. many_is _ c.args.cells.now qs _ refl refl h
