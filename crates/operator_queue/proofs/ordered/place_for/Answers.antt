use Rattle.operator_queue.proofs.Edits.{ordered_beside, ordered_between}
use Rattle.operator_queue.proofs.ordered.place_for.Goals as goal

pub returns-in-Ok-clause-fits : goal.returns-in-Ok-clause-fits
returns-in-Ok-clause-fits g c = ordered_beside c.in-Ok.place c.args.pairs.now.items c.args.pair c.requires c.in-Ok.ensures.found

pub returns-in-Err-clause-fits : goal.returns-in-Err-clause-fits
returns-in-Err-clause-fits g c = ordered_between c.in-Err.place c.args.pairs.now.items c.args.pair c.requires c.in-Err.ensures.apart
