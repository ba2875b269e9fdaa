-- The ledger of the call is that of the blank.
use Rattle.open_incidents.proofs.uncounted.insert.Given as goal

abbrev pub ghosts-insert_in : goal.ghosts-insert_in
ghosts-insert_in a = record { name = a.blank.name; parts = a.blank.parts }
