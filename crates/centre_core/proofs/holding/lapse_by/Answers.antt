-- It is that of the setup of the text, where there is one.
use Rattle.std.proofs.Common.{sym, ap, ◌∙◌}
use Rattle.std.specs.Option.{option_map}
use Rattle.centre_core.proofs.Ordered.{lapse_is, no_lapse}
use Rattle.centre_core.proofs.holding.lapse_by.Goals as goal

pub returns-in-Some : goal.returns-in-Some
returns-in-Some c s text =
    lapse_is s c.in-Some.setup.now c.lapse.result (text ∙ sym c.setup.ensures ∙ ap (option_map (λ x. x.now)) c.in-Some.is) c.lapse.ensures

pub returns-in-None : goal.returns-in-None
returns-in-None c s text = no_lapse s (text ∙ sym c.setup.ensures ∙ ap (option_map (λ x. x.now)) c.in-None.is)
