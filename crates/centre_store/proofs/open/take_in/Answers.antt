use Rattle.centre_rules.specs.State.{entry_of}
use Rattle.centre_store.proofs.OpeningSteps.{replayed_more, found_so}
use Rattle.centre_store.proofs.open.take_in.Goals as goal

pub returns-clause-taken : goal.returns-clause-taken
returns-clause-taken c same base front r =
    let stays = c.entry_in.ensures.stays base r.past r.stands in
    let ready = c.in-Some.ready in
    replayed_more c.args.version base front c.args.body.now (entry_of 0 ready) c.args.centre.now c.apply.new.self r (found_so _ c.in_ok-ready.field-0 ready c.in-Some.is c.in_ok-ready.ensures.next base front r.past r.is_past stays) (c.apply.ensures.entry base r.past 0 stays)
