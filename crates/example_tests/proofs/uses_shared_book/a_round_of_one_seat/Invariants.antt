use Rattle.metric_events.specs.Opening.{first_opening}
use Rattle.example_tests.proofs.uses_shared_book.a_round_of_one_seat.Given as goal

abbrev pub ghosts-round_of_one-L-Ledger : goal.ghosts-round_of_one-L-Ledger
ghosts-round_of_one-L-Ledger g a = record { name = a.blank.name; parts = a.blank.parts }

abbrev pub ghosts-round_of_one-L-Round : goal.ghosts-round_of_one-L-Round
ghosts-round_of_one-L-Round g a = record { opening = first_opening }
