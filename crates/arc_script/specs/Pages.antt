-- What a line of a script writes, and the port that keeps it.
use Rattle.std.specs.Prelude.{◌==◌, ℕ, List, [], ◌∷◌, ◌++◌, if◌then◌else◌, codes, decimal, Some}
use Rattle.arc_io.specs.Seen.{PortSeen, untold}

-- frames without their line feeds and carriage returns, and a space before each
abbrev pub spaced : List ℕ → List ℕ
spaced [] = []
spaced (b ∷ bs) = if b == 10 then 32 ∷ spaced bs else if b == 13 then spaced bs else b ∷ spaced bs

-- and a space and `-` where there are none
abbrev pub replied : List ℕ → List ℕ
replied [] = codes " -"
replied (b ∷ bs) = spaced (b ∷ bs)

-- a letter, a space and a number
abbrev pub head_of : ℕ → ℕ → List ℕ
head_of letter number = letter ∷ 32 ∷ decimal number

-- the output of a line that made all anew
abbrev pub counted_line : ℕ → List ℕ
counted_line count = codes "X recorded " ++ decimal count ++ 10 ∷ []

-- a page on which nothing was written, and of which one reading was taken, this moment
abbrev pub blank : ℕ → PortSeen
blank moment = record untold { left = Some []; written = Some []; readings = Some (moment ∷ []); noise = Some [] }
