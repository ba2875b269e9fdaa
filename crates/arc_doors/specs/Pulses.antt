-- What a pulse tells of its moments, and what a call does to that.
use Rattle.std.specs.Prelude.{◌≡◌, ℕ, List, [], ◌∷◌, ◌++◌, Option, Some, None, MatchOption}

-- the moments that are left, and those that were given; the earliest given stands first
pub record Moments : Type 0 where
  pub left : List ℕ
  pub given : List ℕ

-- no moment is left, where the pulse tells them
abbrev pub HasNoMoment : Option Moments → Type 0
HasNoMoment None = Unit {0}
HasNoMoment (Some m) = m.left ≡ []

-- the first of the moments left is given
abbrev pub TakesMoment : ℕ → Option Moments → Option Moments → Type 0
TakesMoment moment None after = after ≡ None
TakesMoment moment (Some m) after =
    (rest : List ℕ) × (m.left ≡ moment ∷ rest) × (after ≡ Some (record { left = rest; given = m.given ++ moment ∷ [] }))

-- a moment is the next one left, and none comes only where none is left
abbrev pub GivesMoment : Option Moments → Option Moments → Option ℕ → Type 0
GivesMoment before after r = MatchOption r ((after ≡ before) × HasNoMoment before) (λ moment. TakesMoment moment before after)
