use Rattle.std.proofs.Common.{◌≡◌, ap, ◌∙◌, arith, w64, ℤ, pos, ◌+ℤ◌, FitsSigned, unsigned_abs}
use Rattle.std.proofs.lemmas.Int.{ints, to_z-of_z}
use Rattle.std.specs.Int.{int_div_euclid, int_rem_euclid}
use Rattle.jiff_core.proofs.SignedLemmas.{signed_arith, int_div_euclid-parts, int_rem_euclid-parts}
use Rattle.civil_time.specs.ZonedMinutes.{minutes_ahead}
use Rattle.civil_time.proofs.ZoneLemmas.{zoned-minutes, zoned_day-minutes, zoned_minute-minutes}
use Rattle.civil_time.proofs.zone.local.Goals as goal

pub returns-clause-weekday : goal.returns-clause-weekday
returns-clause-weekday c =
    let zone = c.args.zone.now in
    let t = c.args.moment in
    let minutes = zoned-minutes zone t in
    let value = c.minutes_ahead.ensures.value in
    let near = c.minutes_ahead.ensures.near in
    let in_range = int_div_euclid-parts minutes 1440 (omega arith) in
    let day : c.div_euclid-day.result ≡ int_div_euclid minutes (pos 1440) = c.div_euclid-day.ensures ∙ ap (λ z. int_div_euclid z (pos 1440)) (omega (arith, ints)) in
    let fits : FitsSigned w64 (int_div_euclid minutes (pos 1440)) = omega (arith, signed_arith) in
    let later : FitsSigned w64 (int_div_euclid minutes (pos 1440) +ℤ pos 3) = omega (arith, signed_arith) in
    let rem : c.rem_euclid.result ≡ int_rem_euclid (int_div_euclid minutes (pos 1440) +ℤ pos 3) (pos 7) = simp to_z-of_z at (rw day at c.rem_euclid.ensures.value) in
    let small : FitsSigned w64 c.rem_euclid.result = omega (arith, signed_arith) in
    rw (zoned_day-minutes zone t) (simp to_z-of_z (ap unsigned_abs rem))

pub returns-clause-minute : goal.returns-clause-minute
returns-clause-minute c =
    let zone = c.args.zone.now in
    let t = c.args.moment in
    let minutes = zoned-minutes zone t in
    let value = c.minutes_ahead.ensures.value in
    let near = c.minutes_ahead.ensures.near in
    let rem : c.rem_euclid-2.result ≡ int_rem_euclid minutes (pos 1440) = c.rem_euclid-2.ensures.value ∙ ap (λ z. int_rem_euclid z (pos 1440)) (omega (arith, ints)) in
    let parts = int_rem_euclid-parts minutes 1440 (omega arith) in
    let small : FitsSigned w64 c.rem_euclid-2.result = omega (arith, signed_arith) in
    rw (zoned_minute-minutes zone t) (simp to_z-of_z (ap unsigned_abs rem))

pub returns-clause-day : goal.returns-clause-day
returns-clause-day c =
    let zone = c.args.zone.now in
    let t = c.args.moment in
    let minutes = zoned-minutes zone t in
    let value = c.minutes_ahead.ensures.value in
    let near = c.minutes_ahead.ensures.near in
    let in_range = int_div_euclid-parts minutes 1440 (omega arith) in
    let day : c.div_euclid-day.result ≡ int_div_euclid minutes (pos 1440) = c.div_euclid-day.ensures ∙ ap (λ z. int_div_euclid z (pos 1440)) (omega (arith, ints)) in
    let fits : FitsSigned w64 c.div_euclid-day.result = omega (arith, signed_arith) in
    rw (zoned_day-minutes zone t) (simp to_z-of_z day)
