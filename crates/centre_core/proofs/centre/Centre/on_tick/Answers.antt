-- A Tick raises nothing before the first setup, and else what is silent or late by the setup in force.
use Rattle.std.proofs.Common.{◌≡◌, ◌∙◌, None, Some, [], length, sym, ap, subst, arith}
use Rattle.std.specs.Prelude.{IfSome, IsOk}
use Rattle.std.specs.Option.{option_map}
use Rattle.arc_data.specs.declared.event.Event.TheVariants.{Tick}
use Rattle.arc_data.specs.declared.reply.Reply.TheVariants.{Raised}
use Rattle.alarm_rules.specs.Setups.{setup_of}
use Rattle.centre_rules.specs.Summary.{Summary}
use Rattle.centre_rules.specs.State.{State}
use Rattle.centre_core.specs.Kept.{IsWorked}
use Rattle.centre_core.specs.Taken.{sum_of}
use Rattle.centre_core.proofs.Worked.{tick_worked, raised_none, raised_some}
use Rattle.centre_core.proofs.centre.Centre.on_tick.Goals.{in-None, in-Some+in_ok-carried-in-Some}
use Rattle.centre_core.proofs.centre.Centre.on_tick.Goals as goal

pub returns : goal.returns
returns c =
    let inside = c.self.inside in
    let s : Summary = sum_of inside.last inside.recorded inside.accounts.text inside.accounts.rows inside.queued in
    let xs = c.match-setup.carried.items in
    let count : c.len-count.result ≡ length xs = omega (arith, c.len-count.ensures, c.match-setup.carried.ok) in
    let counted : Raised c.len-count.result ≡ Raised (length xs) = ap Raised count in
    subst (λ (x : State). IsWorked x.sum Tick c.args.at (Raised c.len-count.result) xs) c.self.view_is (
    elim c.match-setup.branch [
      | in-None w ↦
          let none : xs ≡ [] = ap (λ v. v.items) w.carried-is ∙ w.new-carried.ensures.items in
          let text : inside.accounts.text ≡ None = sym c.setup.ensures ∙ ap (option_map (λ t. t.now)) w.in-None.is in
          tick_worked s c.args.at xs (Raised c.len-count.result) (none ∙ sym (raised_none s c.args.at text)) (rw none (omega arith)) counted
      | in-Some+in_ok-carried-in-Some w ↦
          let same = ap (λ v. v.items) w.carried-is in
          let text : inside.accounts.text ≡ Some w.in-Some.setup.now = sym c.setup.ensures ∙ ap (option_map (λ t. t.now)) w.in-Some.is in
          let ok : IsOk (setup_of w.in-Some.setup.now) = subst (λ o. IfSome o (λ t. IsOk (setup_of t))) text c.self.invariant.valid in
          tick_worked s c.args.at xs (Raised c.len-count.result)
          (same ∙ w.in_ok-carried-in-Some.ensures.raised ∙ sym (raised_some s c.args.at w.in-Some.setup.now text ok))
          (rw same w.in_ok-carried-in-Some.ensures.few) counted
    ])
