-- The lines of a panel's input: how each is spelled.
use Rattle.std.specs.Prelude.{◌≡◌, ◌≤◌, ◌++◌, ℕ, List, [], ◌∷◌, codes, decimal, length}
use Rattle.arc_data.specs.Moments.{IsMoment}
use Rattle.panel_rules.specs.Panels.{Happening, Queue, Step, Hear, token_bytes}

-- how what happens is spelled: its letter, and what belongs to it behind one space
abbrev pub spelling : Happening → List ℕ
spelling (Step now) = codes "T " ++ decimal now
spelling (Queue token content) = codes "E " ++ (token_bytes token ++ 32 ∷ content)
spelling (Hear body) = codes "R " ++ body

-- a moment lies before the year 10000; data and bodies are any bytes
abbrev pub IsSpoken : Happening → Type 0
IsSpoken (Step now) = IsMoment now
IsSpoken other = Unit {0}

-- the line says this
pub record Says (line : List ℕ) (x : Happening) : Type 0 where
  pub spelled : line ≡ spelling x
  pub ranges : IsSpoken x

-- No line says two things.
abbrev pub HasOneMeaning : Type 0
HasOneMeaning = (line : List ℕ) (x other : Happening) → Says line x → Says line other → x ≡ other

-- how many bytes a line has at most
abbrev pub line_limit : ℕ
line_limit = 16384

-- the moment of the last step: 0 before the first
abbrev pub moment_at : Happening → ℕ → ℕ
moment_at (Step now) before = now
moment_at x before = before

abbrev pub moment : List Happening → ℕ
moment [] = 0
moment (x ∷ h) = moment_at x (moment h)

-- the moment of a step is no less than that of the step before
abbrev pub MayFollow : List Happening → Happening → Type 0
MayFollow h (Step now) = moment h ≤ now
MayFollow h other = Unit {0}

-- may be done behind a step at a moment
abbrev pub MayStep : ℕ → Happening → Type 0
MayStep before (Step now) = IsMoment now × (before ≤ now)
MayStep before other = Unit {0}

-- Behind what happened, the newest first, the line says this. It has at most 16,384 bytes.
pub record IsPlayable (h : List Happening) (line : List ℕ) (x : Happening) : Type 0 where
  pub short : length line ≤ line_limit
  pub says : Says line x
  pub follows : MayFollow h x

-- Behind what happened before, these lines say what happened after; both the newest first.
abbrev pub AreSaid : List Happening → List (List ℕ) → List Happening → Type 0
AreSaid before [] after = after ≡ before
AreSaid before (line ∷ lines) after = (x : Happening) × IsPlayable before line x × AreSaid (x ∷ before) lines after
