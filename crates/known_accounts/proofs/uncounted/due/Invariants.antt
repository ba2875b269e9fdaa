-- The ledger of the call is that of the blank.
use Rattle.known_accounts.proofs.uncounted.due.Given as goal

abbrev pub ghosts-due_in : goal.ghosts-due_in
ghosts-due_in a = record { name = a.blank.name; parts = a.blank.parts }
