use Rattle.std.proofs.Common.{refl}
use Rattle.arc_doors.proofs.memory.mail.MemMailMailbox.receive.Goals as goal

pub returns-clause-told : goal.returns-clause-told
returns-clause-told c = record { mail = c.receive.ensures.mail; cause = c.receive.ensures.cause; rest = refl }
