use Rattle.metric_events.specs.Opening.{first_opening}
use Rattle.thread_tests.proofs.seats.two_seats_of_four_admissions.Given as goal

abbrev pub ghosts-four_admissions-L-Ledger : goal.ghosts-four_admissions-L-Ledger
ghosts-four_admissions-L-Ledger g a = record { name = a.blank.name; parts = a.blank.parts }

abbrev pub ghosts-four_admissions-L-Round : goal.ghosts-four_admissions-L-Round
ghosts-four_admissions-L-Round g a = record { opening = first_opening }
