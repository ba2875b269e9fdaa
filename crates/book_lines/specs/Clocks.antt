-- The clock of a book: one that is always as far from GMT, or local time by the rule of a zone; and how a book tells a moment by it.
use Rattle.std.specs.Prelude.{ℕ, ◌+◌, ◌-◌, ◌*◌, ◌/◌, ◌%◌, ◌≤◌, ◌++◌, List, [], Bool, if◌then◌else◌, nat_lt, nat_le}
use Rattle.std.specs.Prelude.{Option, Some, None, codes, ℤ, pos, int_lt, unsigned_abs}
use Rattle.arc_data.specs.Digits.{two_digits}
use Rattle.civil_time.specs.ZonedMinutes.{minutes_ahead}
use Rattle.book_lines.specs.Dates.{date_time}
use Rattle.book_lines.specs.declared.clock.Clock.{Clock}
use Rattle.book_lines.specs.declared.clock.Clock.TheVariants.{Fixed, Ruled}
use Rattle.book_lines.specs.declared.clock.Offset.{Offset}
use Rattle.book_lines.specs.declared.clock.Offset.TheVariants.{Gmt, Ahead, Behind}

-- at most 1,560 minutes from GMT, as any rule's local time is
abbrev pub IsSmall : Offset → Type 0
IsSmall Gmt = Unit {0}
IsSmall (Ahead minutes) = minutes ≤ 1560
IsSmall (Behind minutes) = minutes ≤ 1560

abbrev pub IsNear : Clock → Type 0
IsNear (Fixed offset) = IsSmall offset
IsNear (Ruled zone) = Unit {0}

-- so many minutes ahead of GMT, or behind it where they are negative
abbrev pub offset_of : ℤ → Offset
offset_of minutes = if int_lt minutes (pos 0) then Behind (unsigned_abs minutes) else Ahead (unsigned_abs minutes)

-- How far the clock is from GMT at a moment: by a rule, as far as it says for the minute of GMT that the moment lies in.
abbrev pub offset_at : Clock → ℕ → Offset
offset_at (Fixed offset) t = offset
offset_at (Ruled zone) t = offset_of (minutes_ahead zone (t / 60))

-- The seconds that a clock so far from GMT shows at a moment, counted from the beginning of 1970 by its own days; none where it shows no
-- year from 1970 to 9999.
abbrev pub shown : Offset → ℕ → Option ℕ
shown Gmt t = Some t
shown (Ahead minutes) t = if nat_lt (t + 60 * minutes) 253_402_300_800 then Some (t + 60 * minutes) else None
shown (Behind minutes) t = if nat_le (60 * minutes) t then Some (t - 60 * minutes) else None

-- it shows so many seconds or more
abbrev pub is_from : Offset → ℕ → ℕ → Bool
is_from Gmt first t = nat_le first t
is_from (Ahead minutes) first t = nat_le first (t + 60 * minutes)
is_from (Behind minutes) first t = nat_le (first + 60 * minutes) t

abbrev pub reaches : Clock → ℕ → ℕ → Bool
reaches clock first t = is_from (offset_at clock t) first t

-- it shows so many seconds or less
abbrev pub is_up_to : Offset → ℕ → ℕ → Bool
is_up_to Gmt last t = nat_le t last
is_up_to (Ahead minutes) last t = nat_le (t + 60 * minutes) last
is_up_to (Behind minutes) last t = nat_le t (last + 60 * minutes)

abbrev pub within : Clock → ℕ → ℕ → Bool
within clock last t = is_up_to (offset_at clock t) last t

-- hours and minutes, as `01:30`
abbrev pub hours_text : ℕ → List ℕ
hours_text minutes = two_digits (minutes / 60) ++ codes ":" ++ two_digits (minutes % 60)

-- how far the clock is from GMT, which stands behind what it shows: nothing behind GMT itself
abbrev pub suffix : Offset → List ℕ
suffix Gmt = []
suffix (Ahead minutes) = codes "+" ++ hours_text minutes
suffix (Behind minutes) = codes "-" ++ hours_text minutes

-- what the clock shows, and how far it is from GMT; where it shows nothing, GMT, and that it is that
abbrev pub text_by : Offset → Option ℕ → ℕ → List ℕ
text_by offset (Some seconds) t = date_time seconds ++ suffix offset
text_by offset None t = date_time t ++ codes "+00:00"

unfoldable pub text_at : Offset → ℕ → List ℕ
text_at offset t = text_by offset (shown offset t) t

-- the date and the time of a moment by a clock, as `2026-11-28 19:19:00+01:00`
abbrev pub moment_text : Clock → ℕ → List ℕ
moment_text clock t = text_at (offset_at clock t) t
