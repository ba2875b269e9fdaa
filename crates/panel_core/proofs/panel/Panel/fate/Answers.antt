use Rattle.std.proofs.Common.{◌≡◌, ◌≤◌, ◌-◌, ◌∙◌, ◌&&◌, Bool, true, false, cond, eqb, get_or, sym, ap}
use Rattle.std.proofs.lemmas.Bool.{and_parts, eqb-true}
use Rattle.std.specs.Option.{is_some}
use Rattle.panel_rules.specs.declared.Fate.TheVariants.{Acked, GivenUp}
use Rattle.panel_rules.specs.Panels.{marks}
use Rattle.panel_core.proofs.Calls.{fate_flies, fate_past}
use Rattle.panel_core.proofs.panel.Panel.fate.Goals as goal

pub returns-then-is_in_flight : goal.returns-then-is_in_flight
returns-then-is_in_flight c = λ s h k.
    let both = and_parts (eqb c.args.event c.args.self.now.sent) (is_some c.args.self.now.flight) (sym c.is_in_flight.ensures ∙ c.if-is_in_flight.true) in
    fate_flies s (marks s h) c.args.self.now k c.args.event c.requires.first (eqb-true c.args.event c.args.self.now.sent both.0) both.1

pub returns-then-is_acked : goal.returns-then-is_acked
returns-then-is_acked c = λ s h k.
    ap (λ b. cond b Acked GivenUp) (sym c.if-is_acked.true ∙ c.is_acked.ensures)
    ∙ fate_past s (marks s h) c.args.self.now k c.args.event c.requires.first (rw (sym c.self.view_is) c.if-event-self.false) (sym c.is_in_flight.ensures ∙ c.if-is_in_flight.false)

pub returns-else-is_acked : goal.returns-else-is_acked
returns-else-is_acked c = λ s h k.
    ap (λ b. cond b Acked GivenUp) (sym c.if-is_acked.false ∙ c.is_acked.ensures)
    ∙ fate_past s (marks s h) c.args.self.now k c.args.event c.requires.first (rw (sym c.self.view_is) c.if-event-self.false) (sym c.is_in_flight.ensures ∙ c.if-is_in_flight.false)
