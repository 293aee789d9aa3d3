use Rattle.delta_book.proofs.Admitting.{may_admit}
use Rattle.delta_book.proofs.Admissible.{not_refused}
use Rattle.delta_book.proofs.laws.admission.Goals as goal

pub returns : goal.returns
returns c E b body new some made = (may_admit E b body new some made, not_refused E b body)
