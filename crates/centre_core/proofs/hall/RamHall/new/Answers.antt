use Rattle.std.proofs.Common.{◌≡◌, ◌∷◌, [], List, ℕ, sym, ◌∙◌, ap, subst}
use Rattle.std.specs.Prelude.{IsOk}
use Rattle.arc_data.specs.declared.event.Event.TheVariants.{Adopt}
use Rattle.alarm_rules.specs.Setups.{setup_of}
use Rattle.centre_rules.specs.Summary.{nothing}
use Rattle.centre_rules.specs.History.{Entry}
use Rattle.centre_rules.specs.State.{StandsFor}
use Rattle.centre_core.specs.Setting.{IsSetting}
use Rattle.centre_core.proofs.Begun.{adopted, adopt_entry, start_entry}
use Rattle.centre_core.proofs.hall.RamHall.new.Goals as goal

pub returns : goal.returns
returns c =
    let text = c.args.setup in
    let clock = c.args.clock in
    let adopt = c.in_ok-adopt.adopt in
    let start = c.in_ok-start.start in
    let copied : c.in_ok-text.text ≡ text = c.in_ok-text.ensures ∙ c.text-text.ensures.value in
    let valid : IsOk (setup_of text) = subst (λ (t : List ℕ). IsOk (setup_of t)) c.text-text.ensures.value c.text-text.ensures.valid in
    let empty = c.in_ok-adopt.ensures.stays nothing [] c.empty-centre.ensures in
    let first = c.apply.ensures.entry nothing [] 0 empty in
    let first_is = adopt_entry text clock adopt valid (c.in_ok-adopt.ensures.event ∙ ap Adopt copied) (c.in_ok-adopt.ensures.at nothing [] empty) first.legal.0.reply in
    let told = subst (λ (e : Entry). StandsFor nothing c.apply.new.self (e ∷ [])) first_is first in
    let begun = c.in_ok-start.ensures.stays nothing (adopted text clock ∷ []) told in
    let second = c.apply-2.ensures.entry nothing (adopted text clock ∷ []) 0 begun in
    let second_is = start_entry text clock start c.in_ok-start.ensures.event (c.in_ok-start.ensures.at nothing (adopted text clock ∷ []) begun) second.legal.0.reply in
    let stands = subst (λ (e : Entry). StandsFor nothing c.apply-2.new.self (e ∷ adopted text clock ∷ [])) second_is second in
    record { stands = stands; setting = subst IsSetting (sym stands.same.text) valid }
