-- Numbers of incidents that rise, one incident after another.
use Rattle.std.proofs.Common.{◌<◌, ◌≤◌, ℕ, zero, suc, List, [], ◌∷◌, ◌++◌, take, arith}
use Rattle.arc_data.specs.Incidents.{Ascends}
use Rattle.arc_data.specs.declared.incident.Incident.{Incident}

ascends_le : (low : ℕ) (is : List Incident) (high : ℕ) → Ascends low is high → low ≤ high
ascends_le low [] high w = w
ascends_le low (i ∷ is) high w = omega (arith, w.0, ascends_le i.number is high w.1)

pub ascends_take : (low : ℕ) (is : List Incident) (high n : ℕ) → Ascends low is high → Ascends low (take n is) high
ascends_take low is high zero w = ascends_le low is high w
ascends_take low [] high (suc n) w = w
ascends_take low (i ∷ is) high (suc n) w = (w.0, ascends_take i.number is high n w.1)

pub ascends_wider : (low : ℕ) (is : List Incident) (high more : ℕ) → Ascends low is high → high ≤ more → Ascends low is more
ascends_wider low [] high more w le = omega (arith, w, le)
ascends_wider low (i ∷ is) high more w le = (w.0, ascends_wider i.number is high more w.1 le)

pub ascends_more : (low : ℕ) (is : List Incident) (high : ℕ) (x : Incident) → Ascends low is high → high < x.number → Ascends low (is ++ x ∷ []) x.number
ascends_more low [] high x w lt = (omega (arith, w, lt), omega arith)
ascends_more low (i ∷ is) high x w lt = (w.0, ascends_more i.number is high x w.1 lt)

pub ascends_last : (low : ℕ) (is : List Incident) (x : Incident) (high : ℕ) → Ascends low (is ++ x ∷ []) high → x.number ≤ high
ascends_last low [] x high w = w.1
ascends_last low (i ∷ is) x high w = ascends_last i.number is x high w.1

pub ascends_two : (low : ℕ) (is : List Incident) (x y : Incident) (high : ℕ) → Ascends low ((is ++ x ∷ []) ++ y ∷ []) high → x.number < y.number
ascends_two low [] x y high w = w.1.0
ascends_two low (i ∷ is) x y high w = ascends_two i.number is x y high w.1
