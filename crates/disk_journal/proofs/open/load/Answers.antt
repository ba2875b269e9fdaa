use Rattle.disk_journal.proofs.Opens.{goes_on_later, long_later}
use Rattle.disk_journal.proofs.open.load.Goals as goal

pub returns-in_err-records-clause-goes_on : goal.returns-in_err-records-clause-goes_on
returns-in_err-records-clause-goes_on g c =
    goes_on_later (g.D.Disk.seen c.args.disk.now) (g.D.Disk.seen c.select.new.disk) (g.D.Disk.seen c.take_up.new.disk) c.select.ensures.quiet c.take_up.ensures.goes_on

pub returns-clause-goes_on : goal.returns-clause-goes_on
returns-clause-goes_on g c =
    goes_on_later (g.D.Disk.seen c.args.disk.now) (g.D.Disk.seen c.select.new.disk) (g.D.Disk.seen c.take_up.new.disk) c.select.ensures.quiet c.take_up.ensures.goes_on

pub returns-clause-long : goal.returns-clause-long
returns-clause-long g c =
    long_later (g.D.Disk.seen c.args.disk.now) (g.D.Disk.seen c.select.new.disk) (g.D.Disk.seen c.take_up.new.disk) c.select.ensures.quiet c.take_up.ensures.long
