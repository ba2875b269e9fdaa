use Rattle.std.proofs.Common.{◌≤◌, ◌<◌, ◌++◌, ◌∷◌, [], ℕ, take}
use Rattle.arc_data.specs.Incidents.{Ascends}
use Rattle.arc_data.specs.declared.incident.Incident.{Incident}
use Rattle.summary_rules.specs.Lists.{Every}
use Rattle.centre_core.specs.Decoding.{IsIncidentFine}
use Rattle.centre_core.proofs.conditions.are_incidents.Given as goal

abbrev pub invariant-loop-i : goal.invariant-loop-i
invariant-loop-i l = record {
  each : Every (IsIncidentFine l.head) (take l.i l.incidents);
  numbers : Ascends 0 (take l.i l.incidents) l.before;
  most : (high : ℕ) → Ascends 0 (take l.i l.incidents) high → l.before ≤ high;
  next : (x : Incident) (high : ℕ) → Ascends 0 (take l.i l.incidents ++ x ∷ []) high → l.before < x.number;
}
