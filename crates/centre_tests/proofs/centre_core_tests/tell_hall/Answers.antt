use Rattle.std.proofs.Common.{◌∙◌, Bool, List, ℕ, sym, ap}
use Rattle.arc_data.specs.declared.reply.Reply.TheVariants.{Heard}
use Rattle.alarm_rules.specs.Setups.{has_account, meaning}
use Rattle.centre_rules.specs.Answers.{if_known}
use Rattle.centre_tests.proofs.Heard.{heard_is}
use Rattle.centre_tests.proofs.centre_core_tests.tell_hall.Goals as goal

pub returns : goal.returns
returns g c b h stands =
    let done = c.in_ok-done.ensures.done b h stands in
    let force = g.met.H.Hall.in_force c.submit.new.self b _ done.holds in
    let known = c.knows-known.ensures ∙ ap (λ (text : List ℕ). has_account (meaning text) c.args.account) c.setup.ensures in
    heard_is b done.before _ _ c.args.account _ _ done.legal force ∙ ap (λ (k : Bool). if_known k Heard) (sym known)
