use Rattle.std.proofs.Common.{◌≡◌, arith}
use Rattle.disk_journal.specs.Records.{size}
use Rattle.disk_journal.proofs.Opens.{is_short, begun_goes_on, begun_chosen, begun_result, begun_version, read_version, short_long}
use Rattle.disk_journal.proofs.Steps.{torn_changes}
use Rattle.disk_journal.proofs.open.take_up.Goals as goal

pub returns-then-len-le17-clause-rest : goal.returns-then-len-le17-clause-rest
returns-then-len-le17-clause-rest g c =
    let area = c.args.area in
    let o = (g.D.Disk.seen c.args.disk.now).told in
    let m = (g.D.Disk.seen c.begin.new.disk).told in
    begun_result area m c.begin.result (λ r. r.version) (λ r. r.bodies) (λ r. r.used ≡ size r.bodies) c.begin.ensures.bytes c.begin.ensures.used c.begin.ensures.version
    (begun_chosen area o m (is_short area o c.args.len c.requires.chosen c.if-len-le17.true) c.begin.ensures.torn)

pub returns-then-len-le17-clause-version : goal.returns-then-len-le17-clause-version
returns-then-len-le17-clause-version g c =
    let o = (g.D.Disk.seen c.args.disk.now).told in
    begun_version c.args.area o c.begin.result (λ r. r.version) c.begin.ensures.version (is_short c.args.area o c.args.len c.requires.chosen c.if-len-le17.true)

pub returns-else-len-le17-clause-version : goal.returns-else-len-le17-clause-version
returns-else-len-le17-clause-version g c =
    read_version c.args.area c.args.len (g.D.Disk.seen c.args.disk.now).told c.read_area.result (λ r. r.version) (λ r. r.bodies) (omega arith)
    c.requires.chosen c.read_area.ensures.bytes

pub returns-then-len-le17-clause-long : goal.returns-then-len-le17-clause-long
returns-then-len-le17-clause-long g c =
    let o = (g.D.Disk.seen c.args.disk.now).told in
    short_long c.args.area o (g.D.Disk.seen c.args.disk.now) (g.D.Disk.seen c.begin.new.disk) (is_short c.args.area o c.args.len c.requires.chosen c.if-len-le17.true)

pub returns-then-len-le17-clause-goes_on : goal.returns-then-len-le17-clause-goes_on
returns-then-len-le17-clause-goes_on g c =
    let area = c.args.area in
    let old = g.D.Disk.seen c.args.disk.now in
    let new = g.D.Disk.seen c.begin.new.disk in
    begun_goes_on area old new c.requires.settled (is_short area old.told c.args.len c.requires.chosen c.if-len-le17.true)
    (torn_changes area 0 17 old new c.begin.ensures.torn c.begin.ensures.crash c.begin.ensures.any_moment)
