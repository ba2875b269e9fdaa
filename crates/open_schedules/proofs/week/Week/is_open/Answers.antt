use Rattle.std.proofs.Common.{ap, ◌∙◌, arith, w64, FitsSigned, to_z-of_z}
use Rattle.jiff_core.proofs.SignedLemmas.{signed_arith}
use Rattle.civil_time.specs.ZonedMinutes.{minutes_ahead}
use Rattle.open_schedules.specs.Minutes.{week_minute, open_at}
use Rattle.open_schedules.proofs.HourLemmas.{hours-at}
use Rattle.open_schedules.proofs.week.Week.is_open.Goals as goal

pub returns : goal.returns
returns c =
    let week = c.args.self.now in
    let minute = c.args.minute in
    let ahead = c.minutes_ahead-ahead.result in
    let near = c.minutes_ahead-ahead.ensures.near in
    let low = near.0 in
    let high = near.1 in
    let value = c.minutes_ahead-ahead.ensures.value ∙ ap (λ w. minutes_ahead w.zone minute) c.self.view_is in
    let fits : FitsSigned w64 ahead = omega (arith, signed_arith) in
    let place = c.week_minute.ensures ∙ ap (λ a. week_minute a minute) (to_z-of_z fits) in
    let told = c.is_open_at.ensures ∙ ap (λ windows. open_at windows c.week_minute.result) c.windows.ensures.value in
    hours-at week minute ahead c.week_minute.result c.is_open_at.result value near place told
