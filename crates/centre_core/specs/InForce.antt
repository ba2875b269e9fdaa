-- The law that a hall in memory has the setup of its text in force.
use Rattle.std.specs.Prelude.{◌≡◌, ℕ, List, [], Option, Some, None, Result, Ok, Err, IsOk, unwrap_or, option_and_then}
use Rattle.std.specs.Result.{result_ok, result_unwrap_or}
use Rattle.std.proofs.Common.{◌∙◌, ap, refl, sym}
use Rattle.std.proofs.lemmas.Bool.{false≢true}
use Rattle.arc_data.specs.declared.setup_fault.SetupFault.{SetupFault}
use Rattle.alarm_rules.specs.Setups.{Setup, setup_of, meaning}
use Rattle.centre_rules.specs.Summary.{Summary}
use Rattle.centre_rules.specs.Marks.{force}
use Rattle.centre_rules.specs.History.{Entry, marks}
use Rattle.centre_rules.specs.State.{State}
use Rattle.centre_core.specs.Setting.{IsSetting, IsSetFor, text_of}

ok_is : (read : Result Setup SetupFault) (otherwise : Setup) → IsOk read
    → result_ok read ≡ Some (result_unwrap_or read otherwise)
ok_is (Ok setup) otherwise is = refl
ok_is (Err fault) otherwise is = absurd (false≢true is)

setting_is : (text : Option (List ℕ)) → IsSetting text
    → option_and_then (λ t. result_ok (setup_of t)) text ≡ Some (meaning (unwrap_or text []))
setting_is None is = absurd is
setting_is (Some text) is = ok_is (setup_of text) (record { accounts = []; plans = []; operators = []; lapse = None }) is

-- the setup in force after the history is that of the text
pub in_force : (s : State) (b : Summary) (h : List Entry) → IsSetFor b s h
    → force b (marks b h) ≡ Some (meaning (text_of s))
in_force s b h w =
    ap (option_and_then (λ t. result_ok (setup_of t))) (sym w.stands.same.text) ∙ setting_is s.sum.text w.setting
