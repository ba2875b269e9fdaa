-- What has been worked out for an event.
use Rattle.std.proofs.Common.{◌≡◌, ◌≤◌, ℕ, List, [], ◌++◌, length, true, false, Option, Some, None, refl, sym, ap, ◌∙◌, arith}
use Rattle.std.specs.Prelude.{◌&&◌, IfSome, IsOk, Result, Ok, Err, is_some, option_and_then, unwrap_or}
use Rattle.std.specs.List.{flat_map}
use Rattle.std.specs.Result.{result_ok, result_unwrap_or}
use Rattle.std.proofs.lemmas.Bool.{false≢true}
use Rattle.arc_data.specs.declared.event.Event.{Event}
use Rattle.arc_data.specs.declared.event.Event.TheVariants.{Message as Sent, Beat, Tick}
use Rattle.arc_data.specs.declared.event.Message.{Message}
use Rattle.arc_data.specs.declared.reply.Reply.{Reply}
use Rattle.arc_data.specs.declared.reply.Reply.TheVariants.{Taken, Repeat, Heard, Raised, Unknown}
use Rattle.arc_data.specs.declared.setup_fault.SetupFault.{SetupFault}
use Rattle.arc_data.specs.declared.signal.Signal.{Signal}
use Rattle.alarm_rules.specs.Setups.{Setup, has_number, setup_of, meaning}
use Rattle.alarm_rules.specs.Signals.{signals, has_signals}
use Rattle.centre_rules.specs.Summary.{Summary}
use Rattle.centre_rules.specs.Marks.{Mark, Carried, force}
use Rattle.centre_rules.specs.Carrying.{carried_by, carried_sent, if_in_force, raised, raised_where, is_silent, is_late}
use Rattle.arc_data.specs.declared.signal.Class.TheVariants.{CommFail, LateClose}
use Rattle.centre_rules.specs.Answers.{answer_over, if_known, knows_account, repeat_of, taken_or}
use Rattle.known_accounts.specs.Supervised.{IsPlaceIn}
use Rattle.accounts.proofs.StandLemmas.{place-there}
use Rattle.centre_core.specs.Kept.{IsWorked, IsPlain}
use Rattle.centre_core.proofs.Carried.{found_known}

no_signals : (s : Summary) (e : Event) (at : ℕ) → IsPlain e → carried_by s [] e at ≡ []
no_signals s (Sent m via) at p = absurd p
no_signals s (Beat account) at p = absurd p
no_signals s Tick at p = absurd p
no_signals s event at p = refl

pub plain_worked : (s : Summary) (e : Event) (at : ℕ) (r : Reply) (xs : List Carried) → IsPlain e → r ≡ answer_over s [] e at → xs ≡ [] → IsWorked s e at r xs
plain_worked s e at r xs plain answer none = record {
  answer = answer;
  carried = λ q. none ∙ sym (no_signals s e at plain);
  few = rw none (omega arith);
}

pub plain_event : (e : Event) → ((m : Message) (via : List ℕ) → e ≡ Sent m via → ⊥) → ((account : List ℕ) → e ≡ Beat account → ⊥) → (e ≡ Tick → ⊥) → IsPlain e
plain_event (Sent m via) f g h = f m via refl
plain_event (Beat account) f g h = g account refl
plain_event Tick f g h = h refl
plain_event event f g h = tt

-- The setup in force.

ok_is : (read : Result Setup SetupFault) (otherwise : Setup) → IsOk read → result_ok read ≡ Some (result_unwrap_or read otherwise)
ok_is (Ok setup) otherwise is = refl
ok_is (Err fault) otherwise is = absurd (false≢true is)

pub force_is : (s : Summary) (text : List ℕ) → s.text ≡ Some text → IsOk (setup_of text) → force s [] ≡ Some (meaning text)
force_is s text is ok = ap (option_and_then (λ t. result_ok (setup_of t))) is ∙ ok_is (setup_of text) _ ok

-- Messages.

pub message_unknown : (s : Summary) (m : Message) (via : List ℕ) (at : ℕ) → (knows_account (force s []) m.account && has_signals m.token m.content) ≡ false → (r : Reply) (xs : List Carried) → r ≡ Unknown → xs ≡ [] → IsWorked s (Sent m via) at r xs
message_unknown s m via at lacks r xs is none = record {
  answer = is ∙ sym (ap (λ b. if_known b (taken_or (repeat_of s [] m at))) lacks);
  carried = λ q. absurd (false≢true (rw is at q));
  few = rw none (omega arith);
}

pub message_repeat : (s : Summary) (m : Message) (via : List ℕ) (at first : ℕ) → (knows_account (force s []) m.account && has_signals m.token m.content) ≡ true → repeat_of s [] m at ≡ Some first
    → (r : Reply) (xs : List Carried) → r ≡ Repeat first → xs ≡ [] → IsWorked s (Sent m via) at r xs
message_repeat s m via at first known found r xs is none = record {
  answer = is ∙ ap taken_or (sym found) ∙ sym (ap (λ b. if_known b (taken_or (repeat_of s [] m at))) known);
  carried = λ q. absurd (false≢true (rw is at q));
  few = rw none (omega arith);
}

pub message_taken : (s : Summary) (m : Message) (via : List ℕ) (at : ℕ) (setup : Setup) (signals_are : List Signal) (xs : List Carried) → force s [] ≡ Some setup → knows_account (Some setup) m.account ≡ true
    → signals m.token m.content ≡ Some signals_are → repeat_of s [] m at ≡ None → xs ≡ flat_map (carried_sent setup m.account via at) signals_are → length xs ≤ 16 → IsWorked s (Sent m via) at Taken xs
message_taken s m via at setup signals_are xs in_force known read none are few = record {
  answer =
      let both : (knows_account (force s []) m.account && has_signals m.token m.content) ≡ true = rw (in_force, known, read) refl in
      ap taken_or (sym none) ∙ sym (ap (λ b. if_known b (taken_or (repeat_of s [] m at))) both);
  carried = λ q. are ∙ sym (
      ap (λ (o : Option Setup). if_in_force o (λ x. flat_map (carried_sent x m.account via at) (unwrap_or (signals m.token m.content) []))) in_force
      ∙ ap (λ (o : Option (List Signal)). flat_map (carried_sent setup m.account via at) (unwrap_or o [])) read);
  few = omega (arith, few);
}

-- Heartbeats.

-- an account has a place in the setup in force just where that knows it
known_in : (account : List ℕ) (place : Option ℕ) (text : Option (List ℕ)) → IfSome text (λ t. IsOk (setup_of t)) → IsPlaceIn account place text
    → is_some place ≡ knows_account (option_and_then (λ t. result_ok (setup_of t)) text) account
known_in account place None ok there = ap is_some there.is
known_in account place (Some t) ok there =
    let forced : result_ok (setup_of t) ≡ Some (meaning t) = ok_is (setup_of t) _ ok in
    found_known (meaning t) account place there.is there.within (place-there (has_number account) (meaning t).accounts place there.is)
    ∙ sym (ap (λ (o : Option Setup). knows_account o account) forced)

pub beat_worked : (s : Summary) (account : List ℕ) (place : Option ℕ) (at : ℕ) (r : Reply) (xs : List Carried) → IfSome s.text (λ t. IsOk (setup_of t)) → IsPlaceIn account place s.text
    → r ≡ if_known (is_some place) Heard → xs ≡ [] → IsWorked s (Beat account) at r xs
beat_worked s account place at r xs ok there is none = record {
  answer = is ∙ ap (λ b. if_known b Heard) (known_in account place s.text ok there);
  carried = λ q. none;
  few = rw none (omega arith);
}

-- Ticks.

-- what a Tick raises under a setup
abbrev pub raised_under : Summary → List Mark → ℕ → Setup → List Carried
raised_under s ms at setup = raised_where (is_silent s ms at) CommFail at setup ++ raised_where (is_late s ms at) LateClose at setup

pub tick_worked : (s : Summary) (at : ℕ) (xs : List Carried) (r : Reply) → xs ≡ raised s [] at → length xs ≤ 4000 → r ≡ Raised (length xs) → IsWorked s Tick at r xs
tick_worked s at xs r are few is = record {
  answer = is ∙ ap (λ (l : List Carried). Raised (length l)) are;
  carried = λ q. are;
  few = omega (arith, few);
}

pub raised_none : (s : Summary) (at : ℕ) → s.text ≡ None → raised s [] at ≡ []
raised_none s at none =
    ap (λ (o : Option (List ℕ)). if_in_force (option_and_then (λ t. result_ok (setup_of t)) o) (raised_under s [] at)) none

pub raised_some : (s : Summary) (at : ℕ) (text : List ℕ) → s.text ≡ Some text → IsOk (setup_of text) → raised s [] at ≡ raised_under s [] at (meaning text)
raised_some s at text is ok = ap (λ (o : Option Setup). if_in_force o (raised_under s [] at)) (force_is s text is ok)
