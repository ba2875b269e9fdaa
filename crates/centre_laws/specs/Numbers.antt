-- The numbers of open incidents.
use Rattle.std.specs.Prelude.{List}
use Rattle.centre_rules.specs.Summary.{Summary}
use Rattle.centre_rules.specs.Cases.{Ascends, opened, incidents}
use Rattle.centre_rules.specs.History.{Entry, marks}

-- the numbers of its open incidents rise, and none is greater than how many were opened; so it is where there are none
abbrev pub IsNumbered : Summary → Type 0
IsNumbered s = Ascends 0 s.incidents s.opened

-- over such a beginning it stays so
abbrev pub NumbersRise : Type 0
NumbersRise = (s : Summary) (h : List Entry) → IsNumbered s → Ascends 0 (incidents s (marks s h)) (opened s (marks s h))
