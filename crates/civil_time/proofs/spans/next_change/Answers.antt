use Rattle.std.proofs.Common.{◌<◌, ◌*◌, pos, ◌<ℤ◌, ap, sym, ◌∙◌, arith, subst}
use Rattle.std.specs.Option.{option_map}
use Rattle.jiff_core.proofs.SignedLemmas.{signed_arith}
use Rattle.jiff_tz.specs.PosixRule.{transition_view}
use Rattle.zone_rules.specs.Daylight.{year_at, year_end}
use Rattle.civil_time.specs.ZonedMinutes.{StaysAhead}
use Rattle.civil_time.proofs.SpanLemmas.{stays-told, before-some, before-none}
use Rattle.civil_time.proofs.spans.next_change.Goals as goal

pub returns-in-Some : goal.returns-in-Some
returns-in-Some c =
    let rule = c.rule.result.now in
    let found = ap (option_map transition_view) (sym c.in-Some.is) ∙ c.next_transition.ensures in
    subst (λ zone. StaysAhead zone c.args.minute c.min.result) c.rule.ensures (λ u from to.
    let end = c.year_end_minute-next_year.ensures in
    let within : pos (u * 60) <ℤ year_end (year_at (c.args.minute * 60)) = subst (λ z. pos (u * 60) <ℤ z) end (omega (arith, signed_arith)) in
    let before = before-some rule c.args.minute u c.instant.result.nanosecond c.in-Some.change c.requires c.instant.ensures found
    (c.minute_from.ensures.first u (omega arith)) in
    stays-told rule c.args.minute u c.requires from within before)

pub returns-in-None : goal.returns-in-None
returns-in-None c =
    let rule = c.rule.result.now in
    let found = ap (option_map transition_view) (sym c.in-None.is) ∙ c.next_transition.ensures in
    subst (λ zone. StaysAhead zone c.args.minute c.year_end_minute-next_year.result) c.rule.ensures (λ u from to.
    let end = c.year_end_minute-next_year.ensures in
    let within : pos (u * 60) <ℤ year_end (year_at (c.args.minute * 60)) = subst (λ z. pos (u * 60) <ℤ z) end (omega (arith, signed_arith)) in
    stays-told rule c.args.minute u c.requires from within
    (before-none rule c.args.minute u c.instant.result.nanosecond c.requires c.instant.ensures found))
