use Rattle.series_cell.proofs.Reading.{tells}
use Rattle.series_cell.proofs.laws.reading.Goals as goal

pub returns : goal.returns
returns c = tells
