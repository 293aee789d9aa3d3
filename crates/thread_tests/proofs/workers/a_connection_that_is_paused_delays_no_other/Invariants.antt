use Rattle.metric_events.specs.Opening.{first_opening}
use Rattle.thread_tests.proofs.workers.a_connection_that_is_paused_delays_no_other.Given as goal

abbrev pub ghosts-a_connection_while_another_is_paused-L-Ledger
    : goal.ghosts-a_connection_while_another_is_paused-L-Ledger
ghosts-a_connection_while_another_is_paused-L-Ledger g a =
    record { name = a.blank.name; parts = a.blank.parts }

abbrev pub ghosts-a_connection_while_another_is_paused-L-Round
    : goal.ghosts-a_connection_while_another_is_paused-L-Round
ghosts-a_connection_while_another_is_paused-L-Round g a = record { opening = first_opening }
