-- Local time by the minutes that it is ahead of GMT.
use Rattle.std.proofs.Common.{◌≡◌, ◌≤◌, ◌*◌, ◌/◌, ℕ, ℤ, pos, ◌+ℤ◌, sym, ap, ◌∙◌, arith, min, unsigned_abs}
use Rattle.std.specs.Int.{int_div_euclid, int_rem_euclid}
use Rattle.jiff_core.specs.Calendar.{IsWithin}
use Rattle.jiff_core.specs.Timestamp.{nanos_of_seconds}
use Rattle.jiff_core.proofs.SignedLemmas.{signed_arith, int_div_euclid-parts, int_rem_euclid-parts, unsigned_abs-parts}
use Rattle.jiff_tz.specs.declared.posix.TimeZone.{TimeZone}
use Rattle.jiff_tz.specs.PosixText.{tz_view}
use Rattle.jiff_tz.specs.PosixRule as jiff
use Rattle.zone_rules.specs.Zones.{Zone, zone_of_rule}
use Rattle.zone_rules.specs.Daylight.{ahead_at}
use Rattle.zone_rules.specs.ZonedTime.{last_asked, offset_at, zoned_day, zoned_minute}
use Rattle.zone_rules.proofs.Windows.{ahead-jiff}
use Rattle.civil_time.specs.ZonedMinutes.{minutes_ahead}

-- whole minutes of GMT are whole minutes
whole : (m : ℕ) → m * 60 / 60 * 60 ≡ m * 60
whole m = omega arith

-- what the zone says at a whole minute
pub minutes_ahead-at : (zone : Zone) (m : ℕ) → minutes_ahead zone m ≡ int_div_euclid (ahead_at zone (min (m * 60) last_asked)) (pos 60)
minutes_ahead-at zone m = ap (λ t. int_div_euclid (ahead_at zone (min t last_asked)) (pos 60)) (whole m)

asked-most : (m : ℕ) → min (m * 60) last_asked ≤ last_asked
asked-most m = omega arith

-- that is what jiff gives for the rule
pub minutes_ahead-jiff : (rule : TimeZone) (m : ℕ)
    → minutes_ahead (zone_of_rule (tz_view rule)) m
    ≡ int_div_euclid ((jiff.offset_at rule (nanos_of_seconds (pos (min (m * 60) last_asked)))).seconds) (pos 60)
minutes_ahead-jiff rule m =
    minutes_ahead-at (zone_of_rule (tz_view rule)) m
    ∙ ap (λ z. int_div_euclid z (pos 60)) (ahead-jiff rule (min (m * 60) last_asked) (asked-most m))

-- the local day and the minute of the day, by whole minutes
local-day : (m : ℕ) (a : ℤ) → int_div_euclid (pos (m * 60) +ℤ a) (pos 86_400) ≡ int_div_euclid (pos m +ℤ int_div_euclid a (pos 60)) (pos 1440)
local-day m a =
    let in_seconds = int_div_euclid-parts (pos (m * 60) +ℤ a) 86_400 (omega arith) in
    let ahead = int_div_euclid-parts a 60 (omega arith) in
    let in_minutes = int_div_euclid-parts (pos m +ℤ int_div_euclid a (pos 60)) 1440 (omega arith) in
    omega (arith, signed_arith)

local-minute : (m : ℕ) (a : ℤ)
    → unsigned_abs (int_rem_euclid (pos (m * 60) +ℤ a) (pos 86_400)) / 60
    ≡ unsigned_abs (int_rem_euclid (pos m +ℤ int_div_euclid a (pos 60)) (pos 1440))
local-minute m a =
    let in_seconds = int_rem_euclid-parts (pos (m * 60) +ℤ a) 86_400 (omega arith) in
    let ahead = int_div_euclid-parts a 60 (omega arith) in
    let in_minutes = int_rem_euclid-parts (pos m +ℤ int_div_euclid a (pos 60)) 1440 (omega arith) in
    let same = local-day m a in
    let of_seconds = unsigned_abs-parts (int_rem_euclid (pos (m * 60) +ℤ a) (pos 86_400)) in
    let of_minutes = unsigned_abs-parts (int_rem_euclid (pos m +ℤ int_div_euclid a (pos 60)) (pos 1440)) in
    omega (arith, signed_arith)

-- a zone's local minutes at a moment
abbrev pub zoned-minutes : Zone → ℕ → ℤ
zoned-minutes zone t = pos (t / 60) +ℤ minutes_ahead zone (t / 60)

ahead-in_minute : (zone : Zone) (t : ℕ) → minutes_ahead zone (t / 60) ≡ int_div_euclid (offset_at zone t) (pos 60)
ahead-in_minute zone t = minutes_ahead-at zone (t / 60)

pub zoned_day-minutes : (zone : Zone) (t : ℕ) → zoned_day zone t ≡ int_div_euclid (zoned-minutes zone t) (pos 1440)
zoned_day-minutes zone t =
    local-day (t / 60) (offset_at zone t) ∙ ap (λ a. int_div_euclid (pos (t / 60) +ℤ a) (pos 1440)) (sym (ahead-in_minute zone t))

pub zoned_minute-minutes : (zone : Zone) (t : ℕ) → zoned_minute zone t ≡ unsigned_abs (int_rem_euclid (zoned-minutes zone t) (pos 1440))
zoned_minute-minutes zone t =
    local-minute (t / 60) (offset_at zone t)
    ∙ ap (λ a. unsigned_abs (int_rem_euclid (pos (t / 60) +ℤ a) (pos 1440))) (sym (ahead-in_minute zone t))
