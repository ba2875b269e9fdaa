-- The ledger of the call is that of the blank.
use Rattle.open_incidents.proofs.uncounted.remove.Given as goal

abbrev pub ghosts-remove_in : goal.ghosts-remove_in
ghosts-remove_in a = record { name = a.blank.name; parts = a.blank.parts }
