-- Hours by the minutes of the local week, from 0 at the beginning of Monday. They come again each 10,080 minutes.
use Rattle.std.specs.Prelude.{◌≡◌, ◌<◌, ◌≤◌, ◌+◌, ◌-◌, ◌*◌, ◌/◌, ◌%◌, ◌&&◌, ℕ, ℤ, pos, ◌+ℤ◌, unsigned_abs}
use Rattle.std.specs.Prelude.{Bool, true, false, not, nat_lt, Option, Some, None, List}
use Rattle.std.specs.List.{list_any}
use Rattle.arc_data.specs.declared.window.Window.{Window}
use Rattle.alarm_rules.specs.Weeks.{holds}

-- the minutes that a local clock was past the beginning of a Monday when 1970 began in GMT, which was on a Thursday
abbrev pub shift_of : ℤ → ℕ
shift_of ahead = unsigned_abs (ahead +ℤ pos 4320)

-- the minute of the local week
abbrev pub week_minute : ℤ → ℕ → ℕ
week_minute ahead minute = (minute + shift_of ahead) % 10_080

-- the window holds the minute of the week
abbrev pub held_at : ℕ → Window → Bool
held_at s = holds (s / 1440) (s % 1440)

-- some window holds the minute of the week
abbrev pub open_at : List Window → ℕ → Bool
open_at windows s = list_any (held_at s) windows

-- the minute of the week that a window ends at: what ends with Sunday ends at minute 0
abbrev pub end_of : Window → ℕ
end_of w = (w.weekday * 1440 + w.to) % 10_080

-- the hours close as this minute begins, where local time is so many minutes ahead before it and from it on
abbrev pub closes_between : List Window → ℤ → ℤ → ℕ → Bool
closes_between windows before ahead minute =
    nat_lt 0 minute && open_at windows (week_minute before (minute - 1)) && not (open_at windows (week_minute ahead minute))

-- the same where it is so many minutes ahead all the time
abbrev pub closes_at : List Window → ℤ → ℕ → Bool
closes_at windows ahead = closes_between windows ahead ahead

-- minute is the first one after another that has this place in the week, and comes within a week
pub record IsNextAt (ahead : ℤ) (place after minute : ℕ) : Type 0 where
  pub at : week_minute ahead minute ≡ place
  pub later : after < minute
  pub near : minute ≤ after + 10_080
  pub first : (u : ℕ) → after < u → week_minute ahead u ≡ place → minute ≤ u

-- the hours close at a minute after another one
pub record IsFound (ahead : ℤ) (windows : List Window) (after minute : ℕ) : Type 0 where
  pub closing : closes_at windows ahead minute ≡ true
  pub later : after < minute

-- and at none between
pub record IsFirstClose (ahead : ℤ) (windows : List Window) (after minute : ℕ) : Type 0 where
  pub closing : closes_at windows ahead minute ≡ true
  pub later : after < minute
  pub first : (u : ℕ) → after < u → u < minute → closes_at windows ahead u ≡ false

-- what was found is no later than u
abbrev pub Reaches : Option ℕ → ℕ → Type 0
Reaches None u = ⊥
Reaches (Some t) u = t ≤ u

-- what was found is no later than any minute after this one at which the window ends and no other holds
abbrev pub Settles : ℤ → List Window → ℕ → Option ℕ → Window → Type 0
Settles ahead windows after found w =
    (u : ℕ) → after < u → week_minute ahead u ≡ end_of w → open_at windows (end_of w) ≡ false → Reaches found u

-- The first minute after another one that passes a test, and comes no later than the last; and that there is none up to the last, or
-- before it.
pub record IsFirstUpTo (test : ℕ → Bool) (after last minute : ℕ) : Type 0 where
  pub closing : test minute ≡ true
  pub later : after < minute
  pub near : minute ≤ last
  pub first : (u : ℕ) → after < u → u < minute → test u ≡ false

abbrev pub NoneUpTo : (ℕ → Bool) → ℕ → ℕ → Type 0
NoneUpTo test after last = (u : ℕ) → after < u → u ≤ last → test u ≡ false

abbrev pub NoneBefore : (ℕ → Bool) → ℕ → ℕ → Type 0
NoneBefore test after last = (u : ℕ) → after < u → u < last → test u ≡ false
