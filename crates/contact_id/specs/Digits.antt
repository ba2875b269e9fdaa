-- Three decimal digits.
use Rattle.std.specs.Prelude.{ℕ, ◌+◌, ◌/◌, ◌%◌, List, [], ◌∷◌}

-- the three digits that spell a number below 1,000
abbrev pub digits_of : ℕ → List ℕ
digits_of n = (48 + n / 100) ∷ (48 + n / 10 % 10) ∷ (48 + n % 10) ∷ []
