use Rattle.std.proofs.Common.{◌+◌, ap, subst}
use Rattle.centre_rules.specs.State.{State, Plan, IsSound, entry_of}
use Rattle.centre_core.specs.Kept.{Records}
use Rattle.centre_core.specs.contracts.centre.Centre.{the_view}
use Rattle.centre_rules.proofs.Grown.{quiet_grows}
use Rattle.centre_core.proofs.Applied.{applied, quiet_applied, is_quiet, not_quiet, recorded_from}
use Rattle.centre_core.proofs.centre.Centre.apply.Goals as goal

pub returns-then-quiet-clause-entry : goal.returns-then-quiet-clause-entry
returns-then-quiet-clause-entry c b h caller w =
    quiet_applied b c.args.ready c.args.self.now _ h caller (subst IsSound c.ready.view_is c.ready.invariant.sound) c.requires.sum
    (is_quiet _ _ c.quiet-quiet.ensures c.if-quiet.true) (ap (λ (s : State). s.entries + 1) c.self.view_is) (ap (λ (s : State). s.sum) c.self.view_is) w

pub returns-then-quiet-clause-grows : goal.returns-then-quiet-clause-grows
returns-then-quiet-clause-grows c =
    quiet_grows c.args.self.now _ (entry_of 0 c.args.ready)
    (is_quiet _ _ c.quiet-quiet.ensures c.if-quiet.true) (ap (λ (s : State). s.entries + 1) c.self.view_is) (ap (λ (s : State). s.sum) c.self.view_is)

pub returns-clause-grows : goal.returns-clause-grows
returns-clause-grows c =
    let counted : State = the_view (record c.self.inside { entries = c.self.inside.entries + 1 }) in
    let r = subst (λ (p : Plan). Records counted c.record.new.self p.event p.at p.reply) c.ready.view_is c.record.ensures in
    recorded_from c.args.self.now counted c.record.new.self (entry_of 0 c.args.ready) (not_quiet _ _ c.quiet-quiet.ensures c.if-quiet.false) (ap (λ (s : State). s.entries + 1) c.self.view_is) (ap (λ (s : State). s.sum) c.self.view_is) r

pub returns-clause-entry : goal.returns-clause-entry
returns-clause-entry c b h caller w =
    let counted : State = the_view (record c.self.inside { entries = c.self.inside.entries + 1 }) in
    let r = subst (λ (p : Plan). Records counted c.record.new.self p.event p.at p.reply) c.ready.view_is c.record.ensures in
    let g = recorded_from c.args.self.now counted c.record.new.self (entry_of caller c.args.ready) (not_quiet _ _ c.quiet-quiet.ensures c.if-quiet.false) (ap (λ (s : State). s.entries + 1) c.self.view_is) (ap (λ (s : State). s.sum) c.self.view_is) r in
    applied b c.args.ready c.args.self.now c.record.new.self h caller (subst IsSound c.ready.view_is c.ready.invariant.sound) c.requires.sum g w
