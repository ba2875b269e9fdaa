use Rattle.std.proofs.Common.{◌%◌, arith, pos, ◌+ℤ◌, unsigned_abs}
use Rattle.std.specs.Int.{int_div_euclid, int_rem_euclid}
use Rattle.jiff_core.proofs.SignedLemmas.{signed_arith, int_rem_euclid-parts, unsigned_abs-parts}
use Rattle.zone_rules.specs.ZonedTime.{zoned_seconds, zoned_day}
use Rattle.civil_time.proofs.laws.law_local_times_add_up.Goals as goal

pub returns : goal.returns
returns c = λ zone t.
    let seconds = zoned_seconds zone t in
    let day = zoned_day zone t +ℤ pos 3 in
    let rest = int_rem_euclid-parts seconds 86_400 (omega arith) in
    let of_day = unsigned_abs-parts (int_rem_euclid seconds (pos 86_400)) in
    let of_week = int_rem_euclid-parts day 7 (omega arith) in
    let weekday = unsigned_abs-parts (int_rem_euclid day (pos 7)) in
    record {
      second = unsigned_abs (int_rem_euclid seconds (pos 86_400)) % 60;
      second_in = omega arith;
      minute_in = omega arith;
      seconds = omega (arith, signed_arith);
      week = int_div_euclid day (pos 7);
      weekday_in = omega arith;
      days = omega (arith, signed_arith);
    }
