use Rattle.arc_serving.proofs.AtGates.{makes_in_order}
use Rattle.arc_serving.proofs.Links.{kept_in_turn, no_count_falls}
use Rattle.arc_serving.proofs.Moments.{ticks_later, ticks_made}
use Rattle.arc_serving.specs.Served.{IsServed}
use Rattle.arc_serving.specs.Ticks.{IsTicked}
use Rattle.line_gate.specs.Passes.{IsPass}
use Rattle.arc_serving.proofs.laws.law_one_caller.Goals as goal

pub returns-clause-served : goal.returns-clause-served
returns-clause-served g c side p q served w = no_count_falls side g.N.GateName.terms p q served w

pub returns-clause-made : goal.returns-clause-made
returns-clause-made g c side p q served pass w b base from = makes_in_order side g.N.GateName.terms p q served pass w b base from

pub returns-clause-ticked : goal.returns-clause-ticked
returns-clause-ticked g c p q ticks w = ticks_later g.N.GateName.terms p q ticks w

pub returns-clause-ticks_made : goal.returns-clause-ticks_made
returns-clause-ticks_made g c p q ticks w = ticks_made g.N.GateName.terms p q ticks w

pub returns-clause-pass : goal.returns-clause-pass
returns-clause-pass g c p q pass =
    let t = g.N.GateName.terms in (
      λ side served w. kept_in_turn (IsServed side t) (IsPass t) p q served pass (λ m n s one. one.pass) w,
      λ ticks w. kept_in_turn (IsTicked t) (IsPass t) p q ticks pass (λ m n s one. one.pass) w,
    )
