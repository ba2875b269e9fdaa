use Rattle.std.proofs.Common.{◌≡◌, ◌∙◌, Bool, true, false, cond, sym, ap}
use Rattle.panel_rules.specs.declared.Heard.TheVariants.{Acked, Other}
use Rattle.panel_rules.specs.Panels.{marks}
use Rattle.panel_core.proofs.Calls.{heard_is, stands_heard, stays_unheard}
use Rattle.panel_core.proofs.panel.Panel.hear.Goals as goal

pub returns-then-not-is_acked_by-clause-told : goal.returns-then-not-is_acked_by-clause-told
returns-then-not-is_acked_by-clause-told c = λ s h k. sym (heard_is s (marks s h) c.args.self.now k c.args.body.now ∙ ap (λ b. cond b (Acked c.args.self.now.sent) Other) (sym c.is_acked_by.ensures.told ∙ c.if-not-is_acked_by.true))

pub returns-then-not-is_acked_by-clause-stands : goal.returns-then-not-is_acked_by-clause-stands
returns-then-not-is_acked_by-clause-stands c = λ s h k. stays_unheard s (marks s h) c.args.self.now k c.args.body.now (sym c.is_acked_by.ensures.told ∙ c.if-not-is_acked_by.true)

pub returns-clause-told : goal.returns-clause-told
returns-clause-told c = λ s h k. ap Acked c.acknowledge-event.ensures.number ∙ sym (heard_is s (marks s h) c.args.self.now k c.args.body.now ∙ ap (λ b. cond b (Acked c.args.self.now.sent) Other) (sym c.is_acked_by.ensures.told ∙ c.if-not-is_acked_by.false))

pub returns-clause-stands : goal.returns-clause-stands
returns-clause-stands c = λ s h k. rw c.acknowledge-event.ensures.acked (stands_heard s (marks s h) c.args.self.now k c.args.body.now (sym c.is_acked_by.ensures.told ∙ c.if-not-is_acked_by.false) c.acknowledge-event.ensures.within)
