-- Signals of the accounts at some places.
use Rattle.std.proofs.Common.{◌≡◌, ◌<◌, ◌≤◌, ◌+◌, ◌∙◌, ℕ, zero, suc, List, [], ◌∷◌, ◌++◌, map, take, length, Bool, true, false, cond, Some, sym, ap, arith, get_or, append_assoc}
use Rattle.std.specs.Prelude.{slice_get}
use Rattle.std.specs.List.{filter, All}
use Rattle.std.proofs.lemmas.List.{length-map, map-append, take_all}
use Rattle.std.proofs.lemmas.Option.{slice_get_within}
use Rattle.arc_data.specs.declared.signal.Class.{Class}
use Rattle.alarm_rules.specs.Setups.{Setup, Account}
use Rattle.centre_rules.specs.Carrying.{carried, own_signal}
use Rattle.centre_rules.specs.Marks.{Carried}
use Rattle.known_accounts.specs.Supervised.{ArePlacesOf}
use Rattle.centre_core.specs.Raised.{raised_of}
use Rattle.centre_core.proofs.Carried.{next_of}

-- Places of accounts that were found.

-- the account at each place is the one that was found
pub found_at : (accounts : List Account) (places : List ℕ) (found : List Account) (i d : ℕ) (x : Account) → ArePlacesOf places accounts found → i < length places
    → slice_get accounts (get_or places i d) ≡ Some x → slice_get found i ≡ Some x
found_at accounts [] found i d x are lt at = absurd (omega (arith, lt))
found_at accounts (p ∷ ps) [] i d x are lt at = absurd (cc)
found_at accounts (p ∷ ps) (y ∷ ys) zero d x are lt at = cc
found_at accounts (p ∷ ps) (y ∷ ys) (suc i) d x are lt at =
    let rest : ArePlacesOf ps accounts ys = cc in
    found_at accounts ps ys i d x rest (omega (arith, lt)) at

-- there is an account at each place
pub within_of : (accounts : List Account) (places : List ℕ) (found : List Account) → ArePlacesOf places accounts found → All (λ place. place < length accounts) places
within_of accounts [] found are k d lt = absurd (omega (arith, lt))
within_of accounts (p ∷ ps) [] are k d lt = absurd (cc)
within_of accounts (p ∷ ps) (y ∷ ys) are zero d lt =
    let at : slice_get accounts p ≡ Some y = cc in
    slice_get_within accounts p y at
within_of accounts (p ∷ ps) (y ∷ ys) are (suc k) d lt =
    let rest : ArePlacesOf ps accounts ys = cc in
    within_of accounts ps ys rest k d (omega (arith, lt))

pub long_of : (accounts : List Account) (places : List ℕ) (found : List Account) → ArePlacesOf places accounts found → length places ≡ length found
long_of accounts places found are = sym (length-map places (slice_get accounts)) ∙ ap length are ∙ length-map found Some

passing_if : (b : Bool) (x : Account) (xs : List Account) (n : ℕ) → length xs ≤ n → length (cond b (x ∷ xs) xs) ≤ n + 1
passing_if true x xs n le = omega (arith, le)
passing_if false x xs n le = omega (arith, le)

passing_few : (test : Account → Bool) (xs : List Account) → length (filter test xs) ≤ length xs
passing_few test [] = omega arith
passing_few test (x ∷ xs) = omega (arith, passing_if (test x) x (filter test xs) (length xs) (passing_few test xs))

-- there are no more places of accounts that pass a test than accounts
pub few_of : (test : Account → Bool) (accounts : List Account) (places : List ℕ) → ArePlacesOf places accounts (filter test accounts) → length places ≤ length accounts
few_of test accounts places are = omega (arith, long_of accounts places (filter test accounts) are, passing_few test accounts)

-- Their signals, one after another.

module _ (class : Class) (at : ℕ) (setup : Setup) where
  pub raised_next : (found : List Account) (i : ℕ) (x : Account) (before old new : List Carried) → slice_get found i ≡ Some x
      → old ≡ before ++ raised_of (take i found) class at setup → new ≡ old ++ carried setup x.number at true [] (own_signal class) ∷ []
      → new ≡ before ++ raised_of (take (i + 1) found) class at setup
  raised_next found i x before old new here so_far pushed =
      let signal : Account → Carried = λ a. carried setup a.number at true [] (own_signal class) in
      pushed ∙ ap (λ ys. ys ++ signal x ∷ []) so_far ∙ append_assoc before (map signal (take i found)) (signal x ∷ [])
      ∙ ap (λ ys. before ++ ys) (sym (ap (map signal) (next_of found i x here) ∙ map-append signal (take i found) (x ∷ [])))

  pub raised_all : (found : List Account) (n : ℕ) (before new : List Carried) → length found ≤ n → new ≡ before ++ raised_of (take n found) class at setup
      → new ≡ before ++ raised_of found class at setup
  raised_all found n before new le so_far = so_far ∙ ap (λ xs. before ++ raised_of xs class at setup) (take_all n found le)
