use Rattle.gateway_serve.proofs.one_round.one_round.Given as goal

abbrev pub ghosts-round_over-L-Ledger : goal.ghosts-round_over-L-Ledger
ghosts-round_over-L-Ledger g a = record { name = a.blank.name; parts = a.blank.parts }

abbrev pub ghosts-round_over-L-Round : goal.ghosts-round_over-L-Round
ghosts-round_over-L-Round g a = record { opening = a.book.opening }
