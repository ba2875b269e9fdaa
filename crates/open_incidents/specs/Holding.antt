-- The list of the open incidents that have a claimer.
use Rattle.std.specs.Prelude.{◌≡◌, ◌≤◌, ◌==◌, ℕ, List, [], ◌∷◌, Bool, not, nat_lt, if◌then◌else◌, map, length, is_some}
use Rattle.std.specs.List.{filter}
use Rattle.arc_data.specs.declared.incident.Incident.{Incident}

-- numbers, and for how many there is memory
pub record HeldValue : Type 0 where
  pub numbers : List ℕ
  pub room : ℕ

-- it has a claimer
abbrev pub is_held : Incident → Bool
is_held i = is_some i.holder

-- the numbers of those of the incidents that have one
abbrev pub held_numbers : List Incident → List ℕ
held_numbers is = map (λ i. i.number) (filter is_held is)

-- the list is that of the incidents that have a claimer, and there is memory for all the incidents
pub record IsHeldOf (is : List Incident) (held : HeldValue) : Type 0 where
  pub numbers : held.numbers ≡ held_numbers is
  pub memory : length is ≤ held.room

-- before the first number that is greater
abbrev pub with_number : ℕ → List ℕ → List ℕ
with_number n [] = n ∷ []
with_number n (m ∷ ms) = if nat_lt n m then n ∷ m ∷ ms else m ∷ with_number n ms

-- all numbers but one
abbrev pub without_number : ℕ → List ℕ → List ℕ
without_number n ms = filter (λ m. not (m == n)) ms
