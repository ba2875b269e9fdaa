use Rattle.std.specs.Prelude.{[], ◌∷◌}
use Rattle.line_gate.proofs.locked_store.LockedStore.submit.Given as goal

-- the entry is what the store has answered
abbrev pub ghosts-enter_one : goal.ghosts-enter_one
ghosts-enter_one g a = record { entries = record { caller = a.done.now.caller; event = a.of.now.value; at = a.done.now.at; reply = a.done.now.reply } ∷ [] }
