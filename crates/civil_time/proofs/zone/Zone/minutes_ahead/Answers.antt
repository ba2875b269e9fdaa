use Rattle.std.proofs.Common.{◌≡◌, ap, ◌∙◌, sym, arith, ◌*◌, w32, w64, pos, min, FitsSigned, to_z-of_z}
use Rattle.std.specs.Int.{int_div_euclid}
use Rattle.jiff_core.specs.Timestamp.{nanos_of_seconds}
use Rattle.jiff_core.proofs.SignedLemmas.{signed_arith, int_div_euclid-parts}
use Rattle.jiff_tz.specs.PosixRule.{offset_at}
use Rattle.zone_rules.specs.ZonedTime.{last_asked}
use Rattle.civil_time.specs.ZonedMinutes.{minutes_ahead}
use Rattle.civil_time.proofs.ZoneLemmas.{minutes_ahead-jiff}
use Rattle.civil_time.proofs.zone.Zone.minutes_ahead.Goals as goal

pub returns-clause-value : goal.returns-clause-value
returns-clause-value c =
    let rule = c.self.inside.rule in
    let offset = c.to_offset.result in
    let low = offset.in_range.0 in
    let high = offset.in_range.1 in
    let fits : FitsSigned w32 offset.seconds = omega (arith, signed_arith) in
    let from : c.from.result ≡ offset.seconds = c.from.ensures ∙ to_z-of_z fits in
    let wide : FitsSigned w64 c.from.result = omega (arith, signed_arith) in
    let divided : c.div_euclid.result ≡ int_div_euclid offset.seconds (pos 60) = c.div_euclid.ensures ∙ ap (λ z. int_div_euclid z (pos 60)) (to_z-of_z wide ∙ from) in
    let parts = int_div_euclid-parts offset.seconds 60 (omega arith) in
    let small : FitsSigned w64 c.div_euclid.result = omega (arith, signed_arith) in
    let at : offset ≡ offset_at rule (nanos_of_seconds (pos (min (c.args.minute * 60) last_asked))) = c.to_offset.ensures ∙ ap (offset_at rule) c.instant-at.ensures in
    to_z-of_z small ∙ divided ∙ ap (λ o. int_div_euclid (o.seconds) (pos 60)) at
    ∙ sym (minutes_ahead-jiff rule c.args.minute) ∙ ap (λ z. minutes_ahead z c.args.minute) c.self.view_is
