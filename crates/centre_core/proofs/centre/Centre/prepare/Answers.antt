use Rattle.std.proofs.Common.{refl}
use Rattle.centre_core.proofs.Applied.{answered}
use Rattle.centre_core.proofs.centre.Centre.prepare.Goals as goal

pub returns-in-Ok-clause-reply : goal.returns-in-Ok-clause-reply
returns-in-Ok-clause-reply c b h stands =
    let now = c.take_memory.new.self in
    answered b now now h c.args.event c.max-at.result c.in-Ok.worked.reply refl c.in-Ok.ensures.worked.answer stands
