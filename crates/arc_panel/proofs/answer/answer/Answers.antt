use Rattle.std.proofs.Common.{◌≡◌, List, ℕ, ap, sym, subst, ◌∙◌}
use Rattle.std.specs.Prelude.{IfOk}
use Rattle.panel_rules.specs.Panels.{body_sent}
use Rattle.arc_panel.specs.Reading.{said}
use Rattle.arc_panel.specs.Texts.{frame_line, line_of}
use Rattle.arc_panel.proofs.Texting.{step_line}
use Rattle.arc_panel.proofs.answer.answer.Goals as goal

pub returns-in-Step-clause-text : goal.returns-in-Step-clause-text
returns-in-Step-clause-text c = λ s h k.
    let line : frame_line c.bytes.result.now ≡ line_of s h (said c.args.read) =
    ap frame_line (c.bytes.ensures.value ∙ c.step.ensures.frame s h k) ∙ step_line (body_sent s h c.in-Step.now) ∙ ap (λ r. line_of s h (said r)) (sym c.in-Step.is) in
    subst (λ (l : List ℕ). IfOk c.frame_line.result (λ text. text ≡ l)) line c.frame_line.ensures
