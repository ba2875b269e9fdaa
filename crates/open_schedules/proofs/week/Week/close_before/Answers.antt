use Rattle.std.proofs.Common.{ap, ◌∙◌, arith, w64, FitsSigned, to_z-of_z}
use Rattle.jiff_core.proofs.SignedLemmas.{signed_arith}
use Rattle.civil_time.specs.ZonedMinutes.{minutes_ahead}
use Rattle.open_schedules.proofs.HourLemmas.{first-stays, none-stays}
use Rattle.open_schedules.proofs.week.Week.close_before.Goals as goal

pub returns-in-Some-clause-some : goal.returns-in-Some-clause-some
returns-in-Some-clause-some c =
    let ahead = c.minutes_ahead-ahead.result in
    let near = c.minutes_ahead-ahead.ensures.near in
    let low = near.0 in
    let high = near.1 in
    let value = c.minutes_ahead-ahead.ensures.value ∙ ap (λ w. minutes_ahead w.zone c.args.minute) c.self.view_is in
    let fits : FitsSigned w64 ahead = omega (arith, signed_arith) in
    let first = rw (to_z-of_z fits, c.windows.ensures.value) at c.in-Some.ensures.some in
    first-stays c.args.self.now c.args.minute c.args.change c.in-Some.close ahead value near c.requires.stays c.if-close-change.true first

pub returns-in_default-clause-none : goal.returns-in_default-clause-none
returns-in_default-clause-none c =
    let ahead = c.minutes_ahead-ahead.result in
    let near = c.minutes_ahead-ahead.ensures.near in
    let low = near.0 in
    let high = near.1 in
    let value = c.minutes_ahead-ahead.ensures.value ∙ ap (λ w. minutes_ahead w.zone c.args.minute) c.self.view_is in
    let fits : FitsSigned w64 ahead = omega (arith, signed_arith) in
    let first = rw (to_z-of_z fits, c.windows.ensures.value) at c.in-Some.ensures.some in
    let past = c.if-close-change.false in
    none-stays c.args.self.now c.args.minute c.args.change ahead value near c.requires.stays (λ u later below. first.first u later (omega arith))

pub returns-in_default-2-clause-none : goal.returns-in_default-2-clause-none
returns-in_default-2-clause-none c =
    let ahead = c.minutes_ahead-ahead.result in
    let near = c.minutes_ahead-ahead.ensures.near in
    let low = near.0 in
    let high = near.1 in
    let value = c.minutes_ahead-ahead.ensures.value ∙ ap (λ w. minutes_ahead w.zone c.args.minute) c.self.view_is in
    let fits : FitsSigned w64 ahead = omega (arith, signed_arith) in
    let none = rw (to_z-of_z fits, c.windows.ensures.value) at c.in_default.ensures.none in
    none-stays c.args.self.now c.args.minute c.args.change ahead value near c.requires.stays (λ u later below. none u later)
