-- An act is of one of the steps, and of none of the acts before it.
use Rattle.std.proofs.Common.{◌≡◌, ◌≤◌, ◌+◌, ◌∙◌, List, ℕ, true, false, take, sym, arith}
use Rattle.std.specs.List.{list_any}
use Rattle.std.proofs.lemmas.Bool.{false≢true}
use Rattle.arc_data.specs.Steps.{same_step, same_step_equiv}
use Rattle.arc_data.specs.declared.step.Acted.{Acted}
use Rattle.arc_data.specs.declared.step.Step.{Step}
use Rattle.summary_rules.proofs.Everies.{every_weaker}
use Rattle.centre_core.proofs.Growing.{every_more, every_one, two_next, two_before, two_part}
use Rattle.centre_core.proofs.Tests.{none_any, any_none}
use Rattle.centre_core.proofs.conditions.are_acts.Goals as goal

abbrev Apart : Acted → Acted → Type 0
Apart a other = same_step a.step other.step ≡ false

abbrev Among : List Step → Acted → Type 0
Among steps a = list_any (same_step a.step) steps ≡ true

abbrev By : ℕ → Acted → Type 0
By last a = a.at ≤ last

pub returns-then-act-last : goal.returns-then-act-last
returns-then-act-last c = (
  λ e. absurd (false≢true e),
  λ w. let by = every_one (By c.args.last) c.args.acts.now c.loop-i.i c.act_at-act.result c.act_at-act.ensures w.1 in absurd (omega (arith, by)),
)

pub returns-then-not-is_among : goal.returns-then-not-is_among
returns-then-not-is_among c = (
  λ e. absurd (false≢true e),
  λ w.
      let among = every_one (Among c.args.steps.now) c.args.acts.now c.loop-i.i c.act_at-act.result c.act_at-act.ensures w.0.among in
      absurd (false≢true (sym c.if-not-is_among.true ∙ c.is_among.ensures ∙ among)),
)

pub returns-then-is_acted : goal.returns-then-is_acted
returns-then-is_acted c =
    let acts = c.args.acts.now in
    let i = c.loop-i.i in
    let x = c.act_at-act.result in (
      λ e. absurd (false≢true e),
      λ w.
          let before = two_before Apart acts i x c.act_at-act.ensures (two_part Apart acts (i + 1) w.0.apart) in
          let none : list_any (λ (a : Acted). same_step x.step a.step) (take i acts) ≡ false =
          any_none (λ (a : Acted). same_step x.step a.step) (take i acts)
          (every_weaker (λ y. Apart y x) (λ (y : Acted). same_step x.step y.step ≡ false) (λ y e. same_step_equiv.symm x.step y.step ∙ e) (take i acts) before) in
          absurd (false≢true (sym none ∙ sym c.is_acted.ensures ∙ c.if-is_acted.true)),
    )

pub loop-i-preserved : goal.loop-i-preserved
loop-i-preserved c =
    let steps = c.args.steps.now in
    let acts = c.args.acts.now in
    let i = c.loop-i.i in
    let x = c.act_at-act.result in
    let w = c.loop-i.invariant in (
      record {
        among = every_more (Among steps) acts i x c.act_at-act.ensures (sym c.is_among.ensures ∙ c.if-not-is_among.false) w.0.among;
        apart = two_next Apart acts i x c.act_at-act.ensures
            (every_weaker (λ (y : Acted). same_step x.step y.step ≡ false) (λ y. Apart y x) (λ y e. same_step_equiv.symm y.step x.step ∙ e) (take i acts)
            (none_any (λ (a : Acted). same_step x.step a.step) (take i acts) (sym c.is_acted.ensures ∙ c.if-is_acted.false)))
            w.0.apart;
      },
      every_more (By c.args.last) acts i x c.act_at-act.ensures (omega arith) w.1,
    )
