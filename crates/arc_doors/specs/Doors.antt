-- What a door tells of its links, and what its calls do to that.
use Rattle.std.specs.Prelude.{◌≡◌, ◌≤◌, ◌<◌, ℕ, false, List, [], ◌∷◌, ◌++◌, length}
use Rattle.std.specs.Prelude.{Option, Some, None, Result, MatchOption, MatchResult, IfSome, IfOk}
use Rattle.arc_io.specs.Causes.{HasCause}
use Rattle.arc_io.specs.Seen.{PortSeen}

-- Of each link, what it told: as it is, of those that are left; as it was given; and as it was got back. The oldest stands first.
pub record Links : Type 0 where
  pub left : List PortSeen
  pub given : List PortSeen
  pub back : List PortSeen

-- What a door tells at one moment. Links that it does not tell are None, before and after each call.
pub record DoorSeen : Type 0 where
  pub links : Option Links
  -- how often taking a link has failed
  pub faults : ℕ

-- no link is left, where the door tells its links
abbrev pub HasNoneLeft : Option Links → Type 0
HasNoneLeft None = Unit {0}
HasNoneLeft (Some l) = l.left ≡ []

-- a link is out: more were given than got back, where the door tells its links
abbrev pub HasOneOut : Option Links → Type 0
HasOneOut None = Unit {0}
HasOneOut (Some l) = length l.back < length l.given

-- no more links were got back than given, where the door tells its links
abbrev pub IsBackWithin : Option Links → Type 0
IsBackWithin None = Unit {0}
IsBackWithin (Some l) = length l.back ≤ length l.given

-- the first of the links left is given
abbrev pub TakesLink : PortSeen → Option Links → Option Links → Type 0
TakesLink p None after = after ≡ None
TakesLink p (Some l) after =
    (rest : List PortSeen) × (l.left ≡ p ∷ rest) × (after ≡ Some (record l { left = rest; given = l.given ++ p ∷ [] }))

-- a link is the next one left, none comes only where none is left, and then and at `Err` all stays
abbrev pub GivesNextLink : {L E : Type 0} → (L → PortSeen) → Option Links → Option Links → Result (Option L) E → Type 0
GivesNextLink seen before after r =
    MatchResult r
    (λ next. MatchOption next ((after ≡ before) × HasNoneLeft before) (λ link. TakesLink (seen link) before after))
    (λ _. after ≡ before)

-- a call that takes a link: one that was given can be read
pub record Gives {L E : Type 0} (seen : L → PortSeen) (d d' : DoorSeen) (result : Result (Option L) E) : Type 0 where
  pub links : GivesNextLink seen d.links d'.links result
  pub cause : HasCause d.faults d'.faults result
  pub ready : IfOk result (λ next. IfSome next (λ link. (seen link).ended ≡ false))

-- a link is got back
abbrev pub after_back : PortSeen → Option Links → Option Links
after_back p None = None
after_back p (Some l) = Some (record l { back = l.back ++ p ∷ [] })
