-- A zone of one offset has the local time of that offset.
use Rattle.std.proofs.Common.{◌≡◌, ℕ, ℤ, pos, ◌+ℤ◌, ap, arith, unsigned_abs}
use Rattle.std.specs.Int.{int_rem_euclid}
use Rattle.jiff_core.proofs.SignedLemmas.{signed_arith, int_div_euclid-parts, int_rem_euclid-parts, unsigned_abs-parts}
use Rattle.arc_data.specs.LocalTime.{local_seconds, local_day, local_minute}
use Rattle.zone_rules.specs.Zones.{fixed_zone}
use Rattle.zone_rules.specs.ZonedTime.{zoned_seconds, zoned_day, zoned_minute}
use Rattle.zone_rules.specs.Laws.{IsLocalTime}

-- a minute of a day does not end in another one
same-day : (minutes : ℤ) (t : ℕ) → zoned_day (fixed_zone minutes) t ≡ local_day t minutes
same-day minutes t =
    let zoned = int_div_euclid-parts (zoned_seconds (fixed_zone minutes) t) 86_400 (omega arith) in
    let local = int_div_euclid-parts (local_seconds t minutes) 86_400 (omega arith) in
    omega (arith, signed_arith)

same-minute : (minutes : ℤ) (t : ℕ) → zoned_minute (fixed_zone minutes) t ≡ local_minute t minutes
same-minute minutes t =
    let zoned = int_rem_euclid-parts (zoned_seconds (fixed_zone minutes) t) 86_400 (omega arith) in
    let local = int_rem_euclid-parts (local_seconds t minutes) 86_400 (omega arith) in
    let day = same-day minutes t in
    let of_zoned = unsigned_abs-parts (int_rem_euclid (zoned_seconds (fixed_zone minutes) t) (pos 86_400)) in
    let of_local = unsigned_abs-parts (int_rem_euclid (local_seconds t minutes) (pos 86_400)) in
    omega (arith, signed_arith)

pub fixed-local : (minutes : ℤ) (t : ℕ) → IsLocalTime minutes t
fixed-local minutes t = record {
  day = same-day minutes t;
  minute = same-minute minutes t;
  weekday = ap (λ day. unsigned_abs (int_rem_euclid (day +ℤ pos 3) (pos 7))) (same-day minutes t);
}
