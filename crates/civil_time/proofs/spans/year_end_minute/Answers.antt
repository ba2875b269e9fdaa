use Rattle.std.proofs.Common.{◌≡◌, ◌<◌, ◌*◌, ◌/◌, ap, ◌∙◌, sym, arith, pos}
use Rattle.std.proofs.lemmas.Grind.{common_steps}
use Rattle.jiff_core.specs.Calendar.{days_in_year}
use Rattle.jiff_core.specs.Date.{epoch_day}
use Rattle.jiff_core.proofs.CalendarLemmas.{days_in_month_bounds}
use Rattle.jiff_core.proofs.SignedLemmas.{signed_casts}
use Rattle.jiff_tz.specs.PosixRule.{first_day}
use Rattle.jiff_tz.specs.Year.{year_of_day}
use Rattle.jiff_tz.proofs.YearLemmas.{back_year, year_of_day-date}
use Rattle.zone_rules.specs.Daylight.{year_at}
use Rattle.zone_rules.specs.ZonedTime.{last_asked}
use Rattle.zone_rules.proofs.Years.{moment-in_year, year-high}
use Rattle.civil_time.proofs.spans.year_end_minute.Goals as goal

pub overflow_cast-result : goal.overflow_cast-result
overflow_cast-result c =
    let d = c.from_days_since_min-date.result in
    let t = c.args.minute * 60 in
    let below : t < last_asked = c.requires in
    let day : epoch_day d ≡ pos (t / 86_400) = omega (arith, signed_casts, c.from_days_since_min-date.ensures) in
    let year : d.year ≡ year_at t = sym (year_of_day-date d) ∙ ap year_of_day day in
    let back = back_year d.year d.year_in in
    let month_days = (days_in_month_bounds d.year 1).1 in
    let one : c.constrain.result.day ≡ 1 = grind (arith, common_steps, signed_casts) in
    let first : c.to_unix_epoch_day-first.result ≡ first_day d.year = grind (arith, common_steps, signed_casts) in
    let days : c.days_in_year.result ≡ days_in_year d.year = c.days_in_year.ensures ∙ ap days_in_year back in
    let this_year : c.to_unix_epoch_day-first.result ≡ first_day (year_at t) = first ∙ ap first_day year in
    let this_long : c.days_in_year.result ≡ days_in_year (year_at t) = days ∙ ap days_in_year year in
    let within = (moment-in_year t (omega arith)).1 in
    let high = year-high t (omega arith) in
    omega (arith, signed_casts)

pub returns : goal.returns
returns c =
    let d = c.from_days_since_min-date.result in
    let t = c.args.minute * 60 in
    let below : t < last_asked = c.requires in
    let day : epoch_day d ≡ pos (t / 86_400) = omega (arith, signed_casts, c.from_days_since_min-date.ensures) in
    let year : d.year ≡ year_at t = sym (year_of_day-date d) ∙ ap year_of_day day in
    let back = back_year d.year d.year_in in
    let month_days = (days_in_month_bounds d.year 1).1 in
    let one : c.constrain.result.day ≡ 1 = grind (arith, common_steps, signed_casts) in
    let first : c.to_unix_epoch_day-first.result ≡ first_day d.year = grind (arith, common_steps, signed_casts) in
    let days : c.days_in_year.result ≡ days_in_year d.year = c.days_in_year.ensures ∙ ap days_in_year back in
    let this_year : c.to_unix_epoch_day-first.result ≡ first_day (year_at t) = first ∙ ap first_day year in
    let this_long : c.days_in_year.result ≡ days_in_year (year_at t) = days ∙ ap days_in_year year in
    let within = (moment-in_year t (omega arith)).1 in
    let high = year-high t (omega arith) in
    omega (arith, signed_casts)
