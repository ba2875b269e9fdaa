-- The signals that are carried, one after another.
use Rattle.std.proofs.Common.{◌≡◌, ◌<◌, ◌≤◌, ℕ, zero, suc, ◌+◌, List, [], ◌∷◌, ◌++◌, take, length, Bool, true, false, cond, refl, sym, ap, ◌∙◌, Option, Some, None, arith}
use Rattle.std.specs.Prelude.{slice_get, is_some, IfSome}
use Rattle.std.specs.List.{find, flat_map}
use Rattle.std.specs.Option.{option_map}
use Rattle.std.proofs.lemmas.List.{take_more, append-nil}
use Rattle.std.proofs.lemmas.Grind.{flat_map-append}
use Rattle.std.proofs.lemmas.Option.{slice_get_within, get_or_from_slice_get}
use Rattle.std.proofs.lemmas.Iterator.Adapters.{position_from-zero}
use Rattle.std.proofs.lemmas.Bool.Decides.{nat_tests}
use Rattle.std.specs.List.{position_from, filter_map}
use Rattle.std.specs.Prelude.{option_and_then}
use Rattle.arc_data.specs.Digits.{is_between}
use Rattle.alarm_rules.specs.SiaCodes.{in_number}
use Rattle.arc_data.specs.declared.signal.Class.{Class}
use Rattle.arc_data.specs.declared.event.Token.{Token}
use Rattle.arc_data.specs.declared.event.Token.TheVariants.{SiaDcs, AdmCid}
use Rattle.arc_data.specs.declared.signal.Signal.{Signal}
use Rattle.alarm_rules.specs.ContactId.{contact_id_signal}
use Rattle.alarm_rules.specs.SiaCodes.{sia_signals, sia_items, signal_of_item}
use Rattle.alarm_rules.specs.Setups.{Setup, Account, account_of, place_of, has_number, steps_of}
use Rattle.alarm_rules.specs.Signals.{signals, data_of}

-- The first so many of a list, and one more.

pub next_of : {A : Type 0} (xs : List A) (i : ℕ) (x : A) → slice_get xs i ≡ Some x → take (i + 1) xs ≡ take i xs ++ x ∷ []
next_of xs i x e = take_more xs i x (slice_get_within xs i x e) ∙ ap (λ y. take i xs ++ y ∷ []) (get_or_from_slice_get xs i x x e)

pub flat_next : {A B : Type 0} (f : A → List B) (xs : List A) (i : ℕ) (x : A) → slice_get xs i ≡ Some x → flat_map f (take (i + 1) xs) ≡ flat_map f (take i xs) ++ f x
flat_next f xs i x e = ap (flat_map f) (next_of xs i x e) ∙ flat_map-append f (take i xs) (x ∷ []) ∙ ap (λ ys. flat_map f (take i xs) ++ ys) (append-nil (f x))

-- An account that has no place is none.

none_if : (b : Bool) (i : ℕ) (x : Account) (o : Option ℕ) (f : Option Account) → (o ≡ None → f ≡ None) → cond b (Some i) o ≡ None → cond b (Some x) f ≡ None
none_if true i x o f rest e = absurd (cc)
none_if false i x o f rest e = rest e

none_from : (p : Account → Bool) (i : ℕ) (xs : List Account) → position_from p i xs ≡ None → find p xs ≡ None
none_from p i [] e = refl
none_from p i (x ∷ xs) e = none_if (p x) i x (position_from p (i + 1) xs) (find p xs) (none_from p (i + 1) xs) e

pub no_account : (setup : Setup) (number : List ℕ) → place_of setup number ≡ None → account_of setup number ≡ None
no_account setup number e = none_from (has_number number) 0 setup.accounts (sym (position_from-zero (has_number number) setup.accounts) ∙ e)

below : (xs : List Account) (i : ℕ) → i < length xs → slice_get xs i ≡ None → ⊥
below [] i lt none = omega (arith, lt)
below (x ∷ xs) zero lt none = absurd (cc)
below (x ∷ xs) (suc i) lt none = below xs i (omega (arith, lt)) none

some_if : (o : Option Account) → (o ≡ None → ⊥) → true ≡ is_some o
some_if None not = absurd (not refl)
some_if (Some x) not = refl

-- an account that has a place is one
pub found_known : (setup : Setup) (number : List ℕ) (place : Option ℕ) → place ≡ place_of setup number → IfSome place (λ p. p < length setup.accounts)
    → IfSome place (λ p. slice_get setup.accounts p ≡ account_of setup number) → is_some place ≡ is_some (account_of setup number)
found_known setup number None at within there = sym (ap is_some (no_account setup number (sym at)))
found_known setup number (Some p) at within there = some_if (account_of setup number) (λ none. below setup.accounts p within (there ∙ none))

pub no_steps : (setup : Setup) (number : List ℕ) (class : Class) (at : ℕ) → account_of setup number ≡ None → steps_of setup number class at ≡ []
no_steps setup number class at lacks = rw (lacks, steps_of) refl

-- A message has at most eight signals.

in_range : (n : ℕ) → is_between 1 8 n ≡ true → n ≤ 8
in_range n e = grind (arith, nat_tests)

number_few : (b : Bool) (found xs : List Signal) → is_between 1 8 (length found) ≡ b → cond b (Some found) None ≡ Some xs → length xs ≤ 8
number_few true found xs is e = let same : found ≡ xs = cc in rw (← same) (in_range (length found) is)
number_few false found xs is e = absurd (cc)

sia_few : (items : Option (List _)) (xs : List Signal) → option_and_then (λ is. in_number (filter_map signal_of_item is)) items ≡ Some xs → length xs ≤ 8
sia_few None xs e = absurd (cc)
sia_few (Some items) xs e = number_few (is_between 1 8 (length (filter_map signal_of_item items))) (filter_map signal_of_item items) xs refl e

one_few : (o : Option Signal) (xs : List Signal) → option_map (λ signal. signal ∷ []) o ≡ Some xs → length xs ≤ 8
one_few None xs e = absurd (cc)
one_few (Some signal) xs e = let same : signal ∷ [] ≡ xs = cc in rw (← same) (omega arith)

pub signals_few : (token : Token) (content : List ℕ) (xs : List Signal) → signals token content ≡ Some xs → length xs ≤ 8
unfolding sia_signals
signals_few AdmCid content xs e = one_few (contact_id_signal (data_of content)) xs e
signals_few SiaDcs content xs e = sia_few (sia_items (data_of content)) xs e
