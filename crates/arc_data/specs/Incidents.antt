-- Open incidents told apart.
use Rattle.std.specs.Prelude.{ℕ, ◌<◌, ◌≤◌, ◌==◌, ◌&&◌, List, [], ◌∷◌, Bool}
use Rattle.std.specs.Str.{bytes_eq}
use Rattle.arc_data.specs.Classes.{same_class}
use Rattle.arc_data.specs.declared.incident.Incident.{Incident}
use Rattle.arc_data.specs.declared.signal.Class.{Class}

abbrev pub has_number : ℕ → Incident → Bool
has_number number i = i.number == number

-- it is of this account and class
abbrev pub is_of : List ℕ → Class → Incident → Bool
is_of account class i = bytes_eq i.account account && same_class i.class class

-- the numbers rise, from above one number to at most another
abbrev pub Ascends : ℕ → List Incident → ℕ → Type 0
Ascends low [] high = low ≤ high
Ascends low (i ∷ is) high = (low < i.number) × Ascends i.number is high

-- each incident of the list has this
abbrev pub Each : (Incident → Type 0) → List Incident → Type 0
Each P [] = Unit {0}
Each P (i ∷ is) = P i × Each P is
