-- A place is found just where the account is.
use Rattle.centre_core.proofs.Carried.{found_known}
use Rattle.alarm_rules.specs.Setups.{meaning}
use Rattle.centre_core.proofs.carrying.found.Goals as goal

pub returns-clause-found : goal.returns-clause-found
returns-clause-found c = record {
  is = c.place.ensures.place;
  within = c.place.ensures.within;
  there = c.place.ensures.there;
  number = c.place.ensures.number;
}

pub returns-clause-known : goal.returns-clause-known
returns-clause-known c = found_known (meaning c.args.setup.now) c.args.account.now c.place.result c.place.ensures.place c.place.ensures.within c.place.ensures.there
