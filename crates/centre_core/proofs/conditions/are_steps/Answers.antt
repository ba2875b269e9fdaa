-- A step is not among those before it.
use Rattle.std.proofs.Common.{◌≡◌, ◌+◌, ◌∙◌, false, take, sym}
use Rattle.std.specs.List.{list_any}
use Rattle.std.proofs.lemmas.Bool.{false≢true}
use Rattle.arc_data.specs.Steps.{same_step, same_step_equiv}
use Rattle.arc_data.specs.declared.step.Step.{Step}
use Rattle.summary_rules.proofs.Everies.{every_weaker}
use Rattle.centre_core.proofs.Growing.{two_next, two_before, two_part}
use Rattle.centre_core.proofs.Tests.{none_any, any_none}
use Rattle.centre_core.proofs.conditions.are_steps.Goals as goal

abbrev Apart : Step → Step → Type 0
Apart s other = same_step s other ≡ false

pub returns-then-is_among : goal.returns-then-is_among
returns-then-is_among c =
    let steps = c.args.steps.now in
    let i = c.loop-i.i in
    let x = c.step_at.result in (
      λ e. absurd (false≢true e),
      λ w.
          let before = two_before Apart steps i x c.step_at.ensures (two_part Apart steps (i + 1) w) in
          let none : list_any (same_step x) (take i steps) ≡ false =
          any_none (same_step x) (take i steps) (every_weaker (λ y. Apart y x) (λ y. same_step x y ≡ false) (λ y e. same_step_equiv.symm x y ∙ e) (take i steps) before) in
          absurd (false≢true (sym none ∙ sym c.is_among.ensures ∙ c.if-is_among.true)),
    )

pub loop-i-preserved : goal.loop-i-preserved
loop-i-preserved c =
    let steps = c.args.steps.now in
    let i = c.loop-i.i in
    let x = c.step_at.result in
    two_next Apart steps i x c.step_at.ensures
    (every_weaker (λ y. same_step x y ≡ false) (λ y. Apart y x) (λ y e. same_step_equiv.symm y x ∙ e) (take i steps)
    (none_any (same_step x) (take i steps) (sym c.is_among.ensures ∙ c.if-is_among.false)))
    c.loop-i.invariant
