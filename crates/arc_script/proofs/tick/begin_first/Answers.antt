use Rattle.arc_script.proofs.Ticks.{first_held, first_leaves, first_stops}
use Rattle.arc_script.proofs.tick.begin_first.Goals as goal

pub returns-in-None-clause-held : goal.returns-in-None-clause-held
returns-in-None-clause-held g c =
    let script = c.args.script.now in
    first_held g.D.Disk.seen c.args.store.now c.begin.new.store c.begin.result script.clock script.setup c.args.moment c.in-None.is c.begin.ensures.begun
    c.begin.ensures.up

pub returns-in-None-clause-left : goal.returns-in-None-clause-left
returns-in-None-clause-left g c =
    let script = c.args.script.now in
    first_leaves g.D.Disk.seen c.args.store.now c.begin.new.store
    c.begin.result script.clock script.setup c.args.moment c.in-None.is c.begin.ensures.left

pub returns-in-None-clause-stop : goal.returns-in-None-clause-stop
returns-in-None-clause-stop g c =
    let script = c.args.script.now in
    first_stops g.D.Disk.seen c.args.store.now c.begin.new.store
    c.begin.result script.clock script.setup c.args.moment c.in-None.is c.begin.ensures.stop
