use Rattle.mirror_centre.proofs.Mirrored.{begins, stays}
use Rattle.mirror_centre.proofs.laws.law_mirror.Goals as goal

pub returns-clause-begins : goal.returns-clause-begins
returns-clause-begins g c b h k start is =
    begins g.P.Disk.seen g.M.Disk.seen g.met.P.Disk.only_now g.met.M.Disk.only_now b h k start is

pub returns-clause-stays : goal.returns-clause-stays
returns-clause-stays g c b h k start x steps mirrored behind =
    stays g.P.Disk.seen g.M.Disk.seen g.met.P.Disk.only_now g.met.M.Disk.only_now b h k start x steps mirrored behind
