-- The deadlines of so many accounts are set.
use Rattle.std.proofs.Common.{length}
use Rattle.alarm_rules.specs.Setups.{meaning}
use Rattle.known_accounts.specs.Roomed.{HasPlaces}
use Rattle.known_accounts.proofs.Renewed.{FirstAre}
use Rattle.known_accounts.proofs.deadlines.Deadlines.renew_all.Given as goal

abbrev pub invariant-loop-place : goal.invariant-loop-place
invariant-loop-place l = record {
  places : HasPlaces (length (meaning l.fn.setup).accounts) l.self;
  first : FirstAre l.place (meaning l.fn.setup).accounts l.fn.rows l.self;
}
