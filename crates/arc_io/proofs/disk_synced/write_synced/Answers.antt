use Rattle.std.proofs.Common.{length}
use Rattle.arc_io.specs.Areas.{Areas}
use Rattle.arc_io.specs.Crashes.{TornIn}
use Rattle.arc_io.proofs.Moments.{started, goes_on, torn_same}
use Rattle.arc_io.proofs.disk_synced.write_synced.Goals as goal

pub returns-in_err-write_at-clause-any_moment : goal.returns-in_err-write_at-clause-any_moment
returns-in_err-write_at-clause-any_moment g c =
    let disk = c.args.disk.now in
    let n = length c.args.bytes.now in
    let P : Areas → Type 0 = λ x. (d : Areas) × (g.D.Disk.seen disk).may_leave d × TornIn c.args.area c.args.at n d x in
    let seen = g.D.Disk.seen in
    let at_start = started (seen disk) P (λ x left. (x, g.met.D.Disk.only_now disk x left, torn_same c.args.area c.args.at n x)) in
    goes_on (seen disk) (seen disk) (seen c.write_at.new.self) P at_start c.write_at.ensures.time (λ x now. c.write_at.ensures.crash x now)

pub returns-clause-any_moment : goal.returns-clause-any_moment
returns-clause-any_moment g c =
    let disk = c.args.disk.now in
    let n = length c.args.bytes.now in
    let P : Areas → Type 0 = λ x. (d : Areas) × (g.D.Disk.seen disk).may_leave d × TornIn c.args.area c.args.at n d x in
    let seen = g.D.Disk.seen in
    let at_start = started (seen disk) P (λ x left. (x, g.met.D.Disk.only_now disk x left, torn_same c.args.area c.args.at n x)) in
    let written = goes_on (seen disk) (seen disk) (seen c.write_at.new.self) P at_start c.write_at.ensures.time (λ x now. c.write_at.ensures.crash x now) in
    goes_on (seen disk) (seen c.write_at.new.self) (seen c.sync.new.self) P written c.sync.ensures.time (λ x now. c.write_at.ensures.crash x (c.sync.ensures.crash x now))
