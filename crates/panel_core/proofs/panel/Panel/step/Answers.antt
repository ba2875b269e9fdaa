use Rattle.std.proofs.Common.{◌≡◌, ◌∙◌, sym}
use Rattle.panel_core.proofs.Calls.{step_told, step_frame, step_none, step_stands}
use Rattle.panel_core.proofs.panel.Panel.step.Goals as goal

pub returns-then-sends-clause-told : goal.returns-then-sends-clause-told
returns-then-sends-clause-told c = λ s h k. c.send-sends.ensures.told ∙ step_told s h c.args.self.now k c.args.now c.requires.later c.give_up.new.self c.give_up.ensures

pub returns-then-sends-clause-frame : goal.returns-then-sends-clause-frame
returns-then-sends-clause-frame c = λ s h k. c.write.ensures ∙ step_frame s h c.args.self.now k c.args.now c.requires.later c.give_up.new.self c.send-sends.new.self c.give_up.ensures c.send-sends.ensures.copied (sym c.send-sends.ensures.told ∙ c.if-sends.true)

pub returns-then-sends-clause-stands : goal.returns-then-sends-clause-stands
returns-then-sends-clause-stands c = λ s h k. step_stands s h c.args.self.now k c.args.now c.requires.later c.give_up.new.self c.send-sends.new.self c.give_up.ensures c.send-sends.ensures.copied

pub returns-else-sends-clause-told : goal.returns-else-sends-clause-told
returns-else-sends-clause-told c = λ s h k. c.send-sends.ensures.told ∙ step_told s h c.args.self.now k c.args.now c.requires.later c.give_up.new.self c.give_up.ensures

pub returns-else-sends-clause-frame : goal.returns-else-sends-clause-frame
returns-else-sends-clause-frame c = λ s h k. c.clear.ensures ∙ step_none s h c.args.self.now k c.args.now c.requires.later c.give_up.new.self c.give_up.ensures (sym c.send-sends.ensures.told ∙ c.if-sends.false)

pub returns-else-sends-clause-stands : goal.returns-else-sends-clause-stands
returns-else-sends-clause-stands c = λ s h k. step_stands s h c.args.self.now k c.args.now c.requires.later c.give_up.new.self c.send-sends.new.self c.give_up.ensures c.send-sends.ensures.copied
