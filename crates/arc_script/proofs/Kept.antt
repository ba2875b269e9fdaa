-- Scripts of which all parts are the same are one, whatever proves that the parts are in their ranges: so what a line of a script leaves of
-- it is the old one but for what it was fed.
use Rattle.std.specs.Prelude.{◌≡◌, ◌<◌, ◌^◌, ℕ, List, IsOk, vec_len}
use Rattle.std.proofs.Common.{refl}
use Rattle.std.proofs.Props.{props}
use Rattle.alarm_rules.specs.Setups.{setup_of}
use Rattle.arc_script.specs.declared.script.Script.{Script}
use mathlib.Core.HLevel.{is_prop→PathP}

valid_once : (text : List ℕ) → IsProp (IsOk (setup_of text))
valid_once text = hlevel props

few_once : (n : ℕ) → IsProp (n < 2 ^ 32)
few_once n = hlevel props

same_once : (n k : ℕ) → IsProp (n ≡ k)
same_once n k = hlevel props

pub same_script : (a b : Script) → a.setup ≡ b.setup → a.limits ≡ b.limits → a.lines ≡ b.lines → a.desks ≡ b.desks → a.clock ≡ b.clock
    → a.number ≡ b.number → a.opened_before ≡ b.opened_before → a.tally ≡ b.tally → a ≡ b
same_script a b setup limits lines desks clock number opened tally = λ i. record {
  setup = setup i;
  limits = limits i;
  lines = lines i;
  desks = desks i;
  clock = clock i;
  number = number i;
  opened_before = opened i;
  tally = tally i;
  valid = is_prop→PathP (λ j. IsOk (setup_of (setup j))) (λ j. valid_once (setup j)) a.valid b.valid i;
  few = is_prop→PathP (λ j. (limits j).bytes < 2 ^ 32) (λ j. few_once (limits j).bytes) a.few b.few i;
  sixteen = is_prop→PathP (λ j. vec_len (lines j) ≡ 16) (λ j. same_once (vec_len (lines j)) 16) a.sixteen b.sixteen i;
  eight = is_prop→PathP (λ j. vec_len (desks j) ≡ 8) (λ j. same_once (vec_len (desks j)) 8) a.eight b.eight i;
}

-- all but the lines and the tally is kept
pub lines_kept : (old new : Script) → new.setup ≡ old.setup → new.limits ≡ old.limits → new.desks ≡ old.desks → new.clock ≡ old.clock
    → new.number ≡ old.number → new.opened_before ≡ old.opened_before
    → new ≡ record old { lines = new.lines; sixteen = new.sixteen; tally = new.tally }
lines_kept old new setup limits desks clock number opened =
    same_script new (record old { lines = new.lines; sixteen = new.sixteen; tally = new.tally }) setup limits refl desks clock number opened refl

-- all but the desks and the tally is kept
pub desks_kept : (old new : Script) → new.setup ≡ old.setup → new.limits ≡ old.limits → new.lines ≡ old.lines → new.clock ≡ old.clock
    → new.number ≡ old.number → new.opened_before ≡ old.opened_before
    → new ≡ record old { desks = new.desks; eight = new.eight; tally = new.tally }
desks_kept old new setup limits lines clock number opened =
    same_script new (record old { desks = new.desks; eight = new.eight; tally = new.tally }) setup limits lines refl clock number opened refl
