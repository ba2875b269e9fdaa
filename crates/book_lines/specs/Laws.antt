-- What words for moments, and the clocks of zones, add up to.
use Rattle.std.specs.Prelude.{◌≡◌, ◌⊎◌, ℕ, ◌+◌, ◌*◌, ◌/◌, ◌%◌, ◌++◌, List, Bool, if◌then◌else◌, Some, codes, pos}
use Rattle.arc_data.specs.Moments.{IsMoment}
use Rattle.civil_time.specs.Calendar.{date_of}
use Rattle.zone_rules.specs.Zones.{Zone}
use Rattle.zone_rules.specs.ZonedTime.{zoned_day, zoned_minute}
use Rattle.book_lines.specs.Asked.{moment_named}
use Rattle.book_lines.specs.Clocks.{offset_at, shown}
use Rattle.book_lines.specs.Dates.{date_text, time_text}
use Rattle.book_lines.specs.declared.clock.Clock.TheVariants.{Ruled}

-- `2026-11-28T18:19:00`
abbrev pub moment_word : ℕ → List ℕ
moment_word t = date_text (date_of (t / 86_400)) ++ codes "T" ++ time_text t

-- the word of a moment, or the date of a day whose first second that is, or whose last
abbrev pub IsMomentWord : Bool → List ℕ → ℕ → Type 0
IsMomentWord last word t =
    (word ≡ moment_word t)
    ⊎ ((n : ℕ) × (word ≡ date_text (date_of n)) × (t ≡ (if last then n * 86_400 + 86_399 else n * 86_400)))

-- each moment is read from its own word
abbrev pub MomentsAreRead : Type 0
MomentsAreRead = (last : Bool) (t : ℕ) → IsMoment t → moment_named last (moment_word t) ≡ Some t

-- the date of a day alone is read as its first second, or as its last
abbrev pub DatesAreRead : Type 0
DatesAreRead =
    (last : Bool) (n : ℕ) → IsMoment (n * 86_400)
    → moment_named last (date_text (date_of n)) ≡ Some (if last then n * 86_400 + 86_399 else n * 86_400)

-- no other word is read
abbrev pub OthersAreNotRead : Type 0
OthersAreNotRead = (last : Bool) (word : List ℕ) (t : ℕ) → moment_named last word ≡ Some t → IsMoment t × IsMomentWord last word t

-- seconds that are local time in a zone: the day and the minute of the day are those of the zone, and the second is the moment's own
pub record IsLocalTime (zone : Zone) (t seconds : ℕ) : Type 0 where
  pub day : pos (seconds / 86_400) ≡ zoned_day zone t
  pub minute : seconds / 60 % 1440 ≡ zoned_minute zone t
  pub second : seconds % 60 ≡ t % 60

-- what a clock by the rule of a zone shows is local time in it
abbrev pub ZonesShowLocalTime : Type 0
ZonesShowLocalTime = (zone : Zone) (t seconds : ℕ) → shown (offset_at (Ruled zone) t) t ≡ Some seconds → IsLocalTime zone t seconds
