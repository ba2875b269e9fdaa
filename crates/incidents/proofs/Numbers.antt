-- Numbers told apart, and numbers that rise.
use Rattle.std.proofs.Common.{◌≡◌, ◌<◌, ◌≤◌, ℕ, zero, suc, ◌+◌, List, [], ◌∷◌, ◌++◌, length, Bool, true, false, eqb, refl, arith}
use Rattle.std.specs.List.{remove}
use Rattle.std.proofs.lemmas.Bool.{eqb-true}
use Rattle.arc_data.specs.declared.incident.Incident.{Incident}
use Rattle.arc_data.specs.Incidents.{has_number, Ascends, Each}

-- Numbers told apart.

pub apart : (a b : ℕ) (t : Bool) → eqb a b ≡ t → (a ≡ b → ⊥) → t ≡ false
apart a b true e f = absurd (f (eqb-true a b e))
apart a b false e f = refl

pub below_apart : (n : ℕ) (i : Incident) → i.number < n → has_number n i ≡ false
below_apart n i lt = apart i.number n (has_number n i) refl (λ e. omega (arith, lt, e))

pub above_apart : (n : ℕ) (i : Incident) → n < i.number → has_number n i ≡ false
above_apart n i lt = apart i.number n (has_number n i) refl (λ e. omega (arith, lt, e))

pub ascends_weak : (low below : ℕ) (is : List Incident) (high : ℕ) → low ≤ below → Ascends below is high → Ascends low is high
ascends_weak low below [] high le a = omega (arith, le, a)
ascends_weak low below (i ∷ is) high le a = (omega (arith, le, a.0), a.1)

pub ascends_remove : (low : ℕ) (is : List Incident) (high place : ℕ) → Ascends low is high → place < length is → Ascends low (remove is place) high
ascends_remove low [] high place a lt = absurd (omega (arith, lt))
ascends_remove low (i ∷ is) high zero a lt = ascends_weak low i.number is high (omega (arith, a.0)) a.1
ascends_remove low (i ∷ is) high (suc place) a lt = (a.0, ascends_remove i.number is high place a.1 (omega (arith, lt)))

pub ascends_more : (i : Incident) (low : ℕ) (is : List Incident) (high : ℕ) → i.number ≡ high + 1 → Ascends low is high → Ascends low (is ++ i ∷ []) (high + 1)
ascends_more i low [] high e a = (omega (arith, e, a), omega (arith, e))
ascends_more i low (j ∷ is) high e a = (a.0, ascends_more i j.number is high e a.1)

-- a number above all that stand there, and at most the greatest one allowed
pub ascends_put : (i : Incident) (low : ℕ) (is : List Incident) (high : ℕ) → low < i.number → Each (λ j. j.number < i.number) is → i.number ≤ high → Ascends low is high → Ascends low (is ++ i ∷ []) high
ascends_put i low [] high lt above le a = (lt, le)
ascends_put i low (j ∷ is) high lt above le a = (a.0, ascends_put i j.number is high above.0 above.1 le a.1)

-- a number above all that stand there, which then is the greatest one
pub ascends_under : (i : Incident) (low : ℕ) (is : List Incident) (high : ℕ) → low < i.number → Each (λ j. j.number < i.number) is → Ascends low is high → Ascends low (is ++ i ∷ []) i.number
ascends_under i low [] high lt above a = (lt, omega arith)
ascends_under i low (j ∷ is) high lt above a = (a.0, ascends_under i j.number is high above.0 above.1 a.1)

pub ascends_top : (i : Incident) (low : ℕ) (is : List Incident) (high : ℕ) → high < i.number → Ascends low is high → Ascends low (is ++ i ∷ []) i.number
ascends_top i low [] high lt a = (omega (arith, lt, a), omega arith)
ascends_top i low (j ∷ is) high lt a = (a.0, ascends_top i j.number is high lt a.1)

ascends_low : (low : ℕ) (is : List Incident) (high : ℕ) → Ascends low is high → low ≤ high
ascends_low low [] high a = a
ascends_low low (i ∷ is) high a = omega (arith, a.0, ascends_low i.number is high a.1)

-- none has a number above the greatest one allowed
pub ascends_within : (low : ℕ) (is : List Incident) (high : ℕ) → Ascends low is high → Each (λ j. j.number < high + 1) is
ascends_within low [] high a = tt
ascends_within low (i ∷ is) high a = (omega (arith, ascends_low i.number is high a.1), ascends_within i.number is high a.1)
