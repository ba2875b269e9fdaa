-- The numbers of open incidents rise over a history.
use Rattle.std.proofs.Common.{List, [], ◌∷◌, Bool, true, false, cond}
use Rattle.centre_rules.specs.Summary.{Summary}
use Rattle.centre_rules.specs.Marks.{Mark}
use Rattle.centre_rules.specs.Cases.{Ascends, incidents, opened}
use Rattle.centre_rules.specs.History.{marks, marks_of, onto, is_recorded}
use Rattle.centre_rules.proofs.Steps.{incidents_begin, incidents_step, opened_step}
use Rattle.centre_rules.proofs.Tables.{ascends_table}
use Rattle.centre_laws.specs.Numbers.{NumbersRise}

rise_onto : (s : Summary) (xs ms : List Mark) → Ascends 0 (incidents s ms) (opened s ms) → Ascends 0 (incidents s (onto xs ms)) (opened s (onto xs ms))
rise_onto s [] ms a = a
rise_onto s (x ∷ xs) ms a = rise_onto s xs (x ∷ ms) (rw (incidents_step s x ms, opened_step s x ms) (ascends_table x (opened s ms) (incidents s ms) a))

rise_if : (s : Summary) (xs ms : List Mark) (b : Bool) → Ascends 0 (incidents s ms) (opened s ms) → Ascends 0 (incidents s (cond b (onto xs ms) ms)) (opened s (cond b (onto xs ms) ms))
rise_if s xs ms true a = rise_onto s xs ms a
rise_if s xs ms false a = a

pub rise : NumbersRise
rise s [] a = rw (incidents_begin s) a
rise s (e ∷ h) a = rise_if s (marks_of s (marks s h) e.event e.at e.reply) (marks s h) (is_recorded e.reply) (rise s h a)
