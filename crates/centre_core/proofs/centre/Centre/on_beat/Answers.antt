-- The account is known just where it has a place in the setup in force.
use Rattle.std.proofs.Common.{ap, ◌∙◌, subst}
use Rattle.arc_data.specs.declared.event.Event.TheVariants.{Beat}
use Rattle.arc_data.specs.declared.reply.Reply.TheVariants.{Heard}
use Rattle.centre_rules.specs.Answers.{if_known}
use Rattle.centre_rules.specs.State.{State}
use Rattle.centre_core.specs.Kept.{IsWorked}
use Rattle.centre_core.specs.Taken.{IsFoundFor, sum_of}
use Rattle.centre_core.proofs.Worked.{beat_worked}
use Rattle.centre_core.proofs.centre.Centre.on_beat.Goals as goal

pub returns-clause-worked : goal.returns-clause-worked
returns-clause-worked c at =
    let inside = c.self.inside in
    let s = sum_of inside.last inside.recorded inside.accounts.text inside.accounts.rows inside.queued in
    subst (λ (x : State). IsWorked x.sum (Beat c.args.account.now) at c.if_known.result c.new.result.items) c.self.view_is
    (beat_worked s c.args.account.now c.find-found.result.setup at c.if_known.result c.new.result.items c.self.invariant.valid c.find-found.ensures.setup (c.if_known.ensures ∙ ap (λ b. if_known b Heard) c.is_some.ensures) c.new.ensures.items)

pub returns-clause-found : goal.returns-clause-found
returns-clause-found c = subst (λ (x : State). IsFoundFor (Beat c.args.account.now) c.find-found.result x.sum.text x.sum.rows) c.self.view_is c.find-found.ensures
