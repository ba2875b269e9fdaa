use Rattle.disk_journal.proofs.Opens.{look_short}
use Rattle.disk_journal.proofs.open.look.Goals as goal

pub returns-then-len-lt30-clause-found : goal.returns-then-len-lt30-clause-found
returns-then-len-lt30-clause-found g c = look_short c.args.area (g.D.Disk.seen c.args.disk.now).told c.args.len c.requires.len c.if-len-lt30.true
