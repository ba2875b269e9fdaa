-- So many of the accounts found have a signal.
use Rattle.std.proofs.Common.{◌≡◌, ◌≤◌, ◌+◌, ◌++◌, List, length, take}
use Rattle.alarm_rules.specs.Setups.{Account, meaning}
use Rattle.known_accounts.specs.Supervised.{ArePlacesOf}
use Rattle.centre_core.specs.Raised.{raised_of}
use Rattle.centre_core.proofs.carrying.raise_at.Given as goal

abbrev pub invariant-loop-i : goal.invariant-loop-i
invariant-loop-i l = record {
  so_far : (found : List Account) → ArePlacesOf l.places (meaning l.setup).accounts found
      → l.raised.items ≡ l.initial.raised.items ++ raised_of (take l.i found) l.class l.at (meaning l.setup);
  few : length l.raised.items ≤ length l.initial.raised.items + l.i;
}
