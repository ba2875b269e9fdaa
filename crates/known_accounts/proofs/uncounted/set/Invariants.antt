-- The ledger of the call is that of the blank.
use Rattle.known_accounts.proofs.uncounted.set.Given as goal

abbrev pub ghosts-set_in : goal.ghosts-set_in
ghosts-set_in a = record { name = a.blank.name; parts = a.blank.parts }
