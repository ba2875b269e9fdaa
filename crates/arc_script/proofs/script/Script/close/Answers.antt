-- The script is the old one but for what is told of the centre.
use Rattle.std.proofs.Common.{◌≡◌, ◌∙◌, ◌-◌, length, refl, ap}
use Rattle.centre_rules.specs.State.{State}
use Rattle.arc_script.proofs.Kept.{same_script}
use Rattle.arc_script.proofs.script.Script.close.Goals as goal

pub returns-clause-tally : goal.returns-clause-tally
returns-clause-tally g c =
    let state = c.args.store.state in
    let before = c.args.self.now.opened_before in
    let recorded : c.recorded-self.result ≡ state.sum.recorded = c.recorded-self.ensures ∙ ap (λ (s : State). s.sum.recorded) c.centre-2.ensures in
    let all : c.opened.result ≡ state.sum.opened =
    c.opened.ensures ∙ c.table-table.ensures.opened ∙ ap (λ (s : State). s.sum.opened) c.centre.ensures in
    let opened : c.saturating_sub-self.result ≡ state.sum.opened - before = c.saturating_sub-self.ensures ∙ ap (λ n. n - before) all in
    let total : c.count.result ≡ length state.sum.incidents =
    c.count.ensures ∙ ap length (c.table-table.ensures.incidents ∙ ap (λ (s : State). s.sum.incidents) c.centre.ensures) in
    let tally : record c.args.self.now.tally { recorded = c.recorded-self.result; opened = c.saturating_sub-self.result; total = c.count.result }
    ≡ record c.args.self.now.tally { recorded = state.sum.recorded; opened = state.sum.opened - before; total = length state.sum.incidents } =
    λ i. record c.args.self.now.tally { recorded = recorded i; opened = opened i; total = total i } in
    same_script _ _ refl refl refl refl refl refl refl tally
