-- The messages of a window, the oldest first.
use Rattle.std.proofs.Common.{◌≤◌, length, refl, arith}
use Rattle.std.specs.Prelude.{reverse}
use Rattle.std.proofs.lemmas.List.{length-reverse}
use Rattle.arc_data.specs.declared.event.Past.{Past}
use Rattle.summary_rules.specs.Conditions.{HasSignals}
use Rattle.centre_core.proofs.Growing.{every_more, every_whole, every_turned}
use Rattle.centre_core.proofs.conditions.are_past.Goals as goal

pub loop-i-preserved : goal.loop-i-preserved
loop-i-preserved c =
    every_more (λ (p : Past). (p.at ≤ c.args.last) × HasSignals p) (reverse c.args.window.now) c.loop-i.i c.at.result.now c.at.ensures
    (c.is_past.ensures.0 c.if-not-is_past.false) c.loop-i.invariant

pub returns : goal.returns
returns c =
    let w = c.args.window.now in
    let end : length (reverse w) ≤ c.loop-i.i = omega (arith, length-reverse w, c.count-i-end.ensures.count) in
    (λ t. every_turned (λ (p : Past). (p.at ≤ c.args.last) × HasSignals p) w (every_whole (λ (p : Past). (p.at ≤ c.args.last) × HasSignals p) (reverse w) c.loop-i.i end c.loop-i.invariant), λ all. refl)
