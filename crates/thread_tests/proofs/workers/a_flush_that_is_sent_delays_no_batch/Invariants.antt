use Rattle.metric_events.specs.Opening.{first_opening}
use Rattle.thread_tests.proofs.workers.a_flush_that_is_sent_delays_no_batch.Given as goal

abbrev pub ghosts-a_batch_while_a_flush_is_sent-L-Ledger
    : goal.ghosts-a_batch_while_a_flush_is_sent-L-Ledger
ghosts-a_batch_while_a_flush_is_sent-L-Ledger g a =
    record { name = a.blank.name; parts = a.blank.parts }

abbrev pub ghosts-a_batch_while_a_flush_is_sent-L-Round
    : goal.ghosts-a_batch_while_a_flush_is_sent-L-Round
ghosts-a_batch_while_a_flush_is_sent-L-Round g a = record { opening = first_opening }
