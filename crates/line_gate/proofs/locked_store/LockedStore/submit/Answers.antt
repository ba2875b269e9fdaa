use Rattle.std.proofs.Common.{[], ◌∷◌}
use Rattle.line_gate.proofs.Carried.{later_further, later_grown}
use Rattle.line_gate.proofs.locked_store.LockedStore.submit.Goals as goal

pub returns-in-Ok-clause-later : goal.returns-in-Ok-clause-later
returns-in-Ok-clause-later g c = later_further _ _ _ c.meet.ensures.later (later_grown (_ ∷ []) _ _ c.enter_one.ensures.grown)
