-- Pairs of numbers in order.
use Rattle.std.specs.Prelude.{◌≡◌, ◌≤◌, ◌<◌, ℕ, List, [], ◌∷◌, false, Option, None, Some, ⊤, length, take, drop}
use Rattle.std.specs.List.{All, AllByRecursion, Contains}
use Rattle.std.specs.Ordering.{is_gt}
use Rattle.std.specs.declared.cmp.Ordering.TheVariants.{Less, Greater}
use Rattle.arc_text.specs.Comparisons.{order_of}

-- the pair comes after none of these
abbrev pub IsBeforeAll : ℕ × ℕ → List (ℕ × ℕ) → Type 0
IsBeforeAll pair pairs = AllByRecursion (λ p. is_gt (order_of pair p) ≡ false) pairs

-- each pair comes after none of those that stand behind it
abbrev pub IsOrdered : List (ℕ × ℕ) → Type 0
IsOrdered [] = ⊤
IsOrdered (p ∷ ps) = IsBeforeAll p ps × IsOrdered ps

-- one of the pairs that comes after none of them, or none where there are no pairs
abbrev pub IsLeast : Option (ℕ × ℕ) → List (ℕ × ℕ) → Type 0
IsLeast None pairs = pairs ≡ []
IsLeast (Some p) pairs = Contains pairs p × IsBeforeAll p pairs

-- all pairs before the place are less than this one, and all from it on are greater
pub record IsApart (pair : ℕ × ℕ) (pairs : List (ℕ × ℕ)) (place : ℕ) : Type 0 where
  pub within : place ≤ length pairs
  pub below : AllByRecursion (λ p. order_of p pair ≡ Less) (take place pairs)
  pub above : AllByRecursion (λ p. order_of p pair ≡ Greater) (drop place pairs)

-- priorities are less than 256
abbrev pub ArePriorities : List (ℕ × ℕ) → Type 0
ArePriorities pairs = All (λ p. p.0 < 256) pairs

-- what contracts see of pairs in order: the pairs, and for how many there is memory
pub record PairsValue : Type 0 where
  pub pairs : List (ℕ × ℕ)
  pub room : ℕ
