-- The number of events.
use Rattle.std.proofs.Common.{◌≡◌, ◌≢◌, ℕ, List, [], length, Bool, true, false, cond, Option, Some, None, refl, ◌∙◌, ap, arith}
use Rattle.std.specs.Prelude.{option_and_then, if◌then◌else◌, nat_le, ◌&&◌, ◌==◌}
use Rattle.std.specs.List.{filter_map}
use Rattle.std.proofs.lemmas.Bool.Decides.{nat_tests}
use Rattle.arc_data.specs.declared.signal.Signal.{Signal}
use Rattle.alarm_rules.specs.SiaCodes.{Item, after_letter, in_number, items_of, sia_signals, signal_of_item}
use Rattle.sia_codes.specs.Events.{up_to_eight, signals_with, signals_of}

abbrev unless_empty : List Signal → Option (List Signal)
unless_empty signals = if length signals == 0 then None else Some signals

at_least_one : (signals : List Signal) (t : Bool) → cond (nat_le 1 (length signals) && t) (Some signals) None ≡ option_and_then unless_empty (cond t (Some signals) None)
at_least_one signals true = grind (arith, nat_tests)
at_least_one signals false = grind (arith, nat_tests)

numbered : (signals : List Signal) → in_number signals ≡ option_and_then unless_empty (up_to_eight signals)
numbered signals = at_least_one signals (nat_le (length signals) 8)

all_numbered : (items : Option (List Item)) → option_and_then (λ found. in_number (filter_map signal_of_item found)) items ≡ option_and_then unless_empty (signals_with [] items)
all_numbered None = refl
all_numbered (Some items) = numbered (filter_map signal_of_item items)

unless_empty-none : (signals : List Signal) → length signals ≡ 0 → unless_empty signals ≡ None
unless_empty-none signals empty = rw empty refl

unless_empty-some : (signals : List Signal) → length signals ≢ 0 → unless_empty signals ≡ Some signals
unless_empty-some signals some = grind (arith, nat_tests)

pub sia_signals-no_letter : (text : List ℕ) → after_letter text ≡ None → sia_signals text ≡ None
unfolding sia_signals
sia_signals-no_letter text is = rw is refl

counted : (text rest : List ℕ) → after_letter text ≡ Some rest → sia_signals text ≡ option_and_then unless_empty (signals_of rest)
unfolding sia_signals
counted text rest is = rw is (all_numbered (items_of rest))

pub sia_signals-unread : (text rest : List ℕ) → after_letter text ≡ Some rest → signals_of rest ≡ None → sia_signals text ≡ None
sia_signals-unread text rest is none = counted text rest is ∙ ap (option_and_then unless_empty) none

pub sia_signals-empty : (text rest : List ℕ) (signals : List Signal) → after_letter text ≡ Some rest → signals_of rest ≡ Some signals → length signals ≡ 0 → sia_signals text ≡ None
sia_signals-empty text rest signals is read empty = counted text rest is ∙ ap (option_and_then unless_empty) read ∙ unless_empty-none signals empty

pub sia_signals-some : (text rest : List ℕ) (signals : List Signal) → after_letter text ≡ Some rest → signals_of rest ≡ Some signals → length signals ≢ 0 → sia_signals text ≡ Some signals
sia_signals-some text rest signals is read some = counted text rest is ∙ ap (option_and_then unless_empty) read ∙ unless_empty-some signals some
