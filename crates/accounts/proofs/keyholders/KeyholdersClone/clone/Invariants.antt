use Rattle.std.proofs.Common.{◌≡◌, take}
use Rattle.accounts.proofs.keyholders.KeyholdersClone.clone.Given as goal

abbrev pub invariant-loop-keyholder : goal.invariant-loop-keyholder
invariant-loop-keyholder l = l.copy ≡ take l.keyholder-index l.keyholder-items
