-- The messages of the copy are the first of its own.
use Rattle.std.proofs.Common.{◌≡◌, ◌≤◌, ◌∷◌, length, take, ap, ◌∙◌, arith}
use Rattle.std.specs.Prelude.{reverse}
use Rattle.std.proofs.lemmas.List.{take_all, reverse-reverse, length-reverse}
use Rattle.arc_data.specs.declared.event.Past.{Past}
use Rattle.repeat_window.proofs.Copied.{copied_more}
use Rattle.repeat_window.proofs.window.Window.copy.Goals as goal

pub loop-i-preserved : goal.loop-i-preserved
loop-i-preserved c =
    c.push.ensures ∙ ap (λ (p : Past). take 32 (p ∷ c.loop-i.copy)) c.in_ok-seen.ensures
    ∙ copied_more c.args.self.now c.loop-i.copy c.loop-i.i c.at.result.now (omega (arith, c.count-i-end.ensures.count, c.count-i-end.ensures.few)) c.at.ensures c.loop-i.invariant

pub returns : goal.returns
returns c =
    let end : length (reverse c.args.self.now) ≤ c.loop-i.i = omega (arith, length-reverse c.args.self.now, c.count-i-end.ensures.count) in
    c.loop-i.invariant ∙ ap reverse (take_all c.loop-i.i (reverse c.args.self.now) end) ∙ reverse-reverse c.args.self.now
