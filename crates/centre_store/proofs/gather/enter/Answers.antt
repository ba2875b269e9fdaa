use Rattle.std.proofs.Common.{ap, subst, sym, ◌∙◌}
use Rattle.arc_data.specs.WellFormed.{IsWellFormed}
use Rattle.centre_rules.specs.History.{is_recorded}
use Rattle.event_codec.specs.Spelling.{IsKept}
use Rattle.centre_store.proofs.Bodies.{kept_event}
use Rattle.centre_store.proofs.Gathered.{taken_one}
use Rattle.centre_store.proofs.gather.enter.Goals as goal

pub lay-requires-clause-formed : goal.lay-requires-clause-formed
lay-requires-clause-formed g c = subst IsWellFormed (sym c.in-Ok.ensures.event) c.requires.may.formed

pub lay-requires-clause-kept : goal.lay-requires-clause-kept
lay-requires-clause-kept g c recorded =
    let had = c.requires.stands in
    let stands = c.in-Ok.ensures.stays had.base had.history had.stands in
    subst IsKept (sym c.in-Ok.ensures.event)
    (kept_event had.base had.history c.args.call.event c.in-Ok.ready.at
    (ap is_recorded (sym (c.in-Ok.ensures.reply had.base had.history stands)) ∙ recorded))

pub returns-in-Ok-lay-clause-taken : goal.returns-in-Ok-lay-clause-taken
returns-in-Ok-lay-clause-taken g c caller =
    taken_one caller c.args.call c.args.centre.now c.prepare.new.self c.apply.new.self c.in-Ok.ready c.apply.result.at c.apply.result.reply
    c.args.bodies.now c.lay.new.bodies c.requires.may c.in-Ok.ensures.event c.apply.ensures.at c.apply.ensures.reply c.in-Ok.ensures.at c.in-Ok.ensures.reply
    c.in-Ok.ensures.stays c.prepare.ensures.entries c.prepare.ensures.sum c.requires.worn (λ b h w. c.apply.ensures.entry b h caller w) c.apply.ensures.grows
    c.in-Ok-lay.ensures.spelled c.in-Ok-lay.ensures.quiet c.in-Ok-lay.ensures.laid
