use Rattle.metric_events.specs.Opening.{first_opening}
use Rattle.thread_tests.proofs.workers.an_order_that_nobody_takes_is_gone.Given as goal

abbrev pub ghosts-orders_of_nobody-L-Ledger : goal.ghosts-orders_of_nobody-L-Ledger
ghosts-orders_of_nobody-L-Ledger g a = record { name = a.blank.name; parts = a.blank.parts }

abbrev pub ghosts-orders_of_nobody-L-Round : goal.ghosts-orders_of_nobody-L-Round
ghosts-orders_of_nobody-L-Round g a = record { opening = first_opening }
