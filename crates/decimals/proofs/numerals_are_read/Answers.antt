use Rattle.decimals.proofs.Told.{number_tells}
use Rattle.decimals.proofs.numerals_are_read.Goals as goal

pub returns : goal.returns
returns c = number_tells
