use Rattle.metric_events.specs.Opening.{first_opening}
use Rattle.thread_tests.proofs.workers.an_order_comes_back_as_its_turn.Given as goal

abbrev pub ghosts-an_order_is_made-L-Ledger : goal.ghosts-an_order_is_made-L-Ledger
ghosts-an_order_is_made-L-Ledger g a = record { name = a.blank.name; parts = a.blank.parts }

abbrev pub ghosts-an_order_is_made-L-Round : goal.ghosts-an_order_is_made-L-Round
ghosts-an_order_is_made-L-Round g a = record { opening = first_opening }
