use Rattle.std.proofs.Common.{◌≡◌, [], length, arith, refl, ap}
use Rattle.disk_journal.specs.Records.{need_of_all}
use Rattle.centre_store.proofs.Groups.{all_added, all_numbers, all_moments, all_met, none_added, no_length, recorded_group, run_group}
use Rattle.centre_store.proofs.Holding.{recorded_works, recorded_there, still_stands}
use Rattle.centre_store.proofs.Readable.{spared_tells}
use Rattle.centre_store.proofs.group.write_all.Goals as goal

-- There are none.

pub returns-then-count-eq0-clause-added : goal.returns-then-count-eq0-clause-added
returns-then-count-eq0-clause-added g c caller b h calls holds are =
    none_added g.D.Disk.seen c.args.journal.now caller b h calls c.args.bodies.now are (no_length c.args.bodies.now (omega arith)) holds

pub returns-then-count-eq0-clause-numbers : goal.returns-then-count-eq0-clause-numbers
returns-then-count-eq0-clause-numbers g c caller b h calls holds are =
    let none : c.args.bodies.now ≡ [] = no_length c.args.bodies.now (omega arith) in
    (omega (arith, ap need_of_all none), omega (arith, ap length none), refl)

pub returns-then-count-eq0-clause-any_moment : goal.returns-then-count-eq0-clause-any_moment
returns-then-count-eq0-clause-any_moment g c caller b h calls holds are =
    run_group caller b h calls (g.D.Disk.seen c.args.journal.now.disk) (g.D.Disk.seen c.args.journal.now.disk)
    (still_stands g.D.Disk.seen c.args.journal.now b h g.met.D.Disk.only_now holds)

pub returns-then-count-eq0-clause-met : goal.returns-then-count-eq0-clause-met
returns-then-count-eq0-clause-met g c caller b h calls holds are =
    recorded_group caller b h calls (g.D.Disk.seen c.args.journal.now.disk) (recorded_there g.D.Disk.seen c.args.journal.now b h holds)

-- They are written.

pub append_all-requires-clause-works : goal.append_all-requires-clause-works
append_all-requires-clause-works g c =
    let had = c.requires.had in recorded_works g.D.Disk.seen c.args.journal.now had.0 had.1 had.2

pub returns-in-Ok-clause-added : goal.returns-in-Ok-clause-added
returns-in-Ok-clause-added g c caller b h calls holds are =
    all_added g.D.Disk.seen c.args.journal.now caller b h calls c.args.bodies.now are c.append_all.new.self c.in-Ok.ensures.added holds

pub returns-in-Ok-clause-numbers : goal.returns-in-Ok-clause-numbers
returns-in-Ok-clause-numbers g c caller b h calls holds are =
    all_numbers g.D.Disk.seen c.args.journal.now caller b h calls c.args.bodies.now are c.append_all.new.self c.in-Ok.ensures.added holds

pub returns-in-Ok-clause-any_moment : goal.returns-in-Ok-clause-any_moment
returns-in-Ok-clause-any_moment g c caller b h calls holds are =
    all_moments g.D.Disk.seen c.args.journal.now caller b h calls c.args.bodies.now are c.append_all.new.self.disk c.append_all.ensures.any_moment holds

pub returns-in-Ok-clause-met : goal.returns-in-Ok-clause-met
returns-in-Ok-clause-met g c caller b h calls holds are =
    all_met g.D.Disk.seen c.args.journal.now caller b h calls c.args.bodies.now are c.append_all.new.self.disk g.met.D.Disk.counts_now
    c.append_all.ensures.any_moment c.append_all.ensures.told holds

pub returns-in-Ok-clause-tells : goal.returns-in-Ok-clause-tells
returns-in-Ok-clause-tells g c =
    let holds = c.requires.had.2 in spared_tells (c.append_all.ensures.spared 2 holds.0 holds.1 holds.3)

-- The disk failed.

pub returns-in-Err-DiskFault-clause-any_moment : goal.returns-in-Err-DiskFault-clause-any_moment
returns-in-Err-DiskFault-clause-any_moment g c caller b h calls holds are =
    all_moments g.D.Disk.seen c.args.journal.now caller b h calls c.args.bodies.now are c.append_all.new.self.disk c.append_all.ensures.any_moment holds

pub returns-in-Err-DiskFault-clause-met : goal.returns-in-Err-DiskFault-clause-met
returns-in-Err-DiskFault-clause-met g c caller b h calls holds are =
    all_met g.D.Disk.seen c.args.journal.now caller b h calls c.args.bodies.now are c.append_all.new.self.disk g.met.D.Disk.counts_now
    c.append_all.ensures.any_moment c.append_all.ensures.told holds

pub returns-in-Err-DiskFault-clause-tells : goal.returns-in-Err-DiskFault-clause-tells
returns-in-Err-DiskFault-clause-tells g c =
    let holds = c.requires.had.2 in spared_tells (c.append_all.ensures.spared 2 holds.0 holds.1 holds.3)
