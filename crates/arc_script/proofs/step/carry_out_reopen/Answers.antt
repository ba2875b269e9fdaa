use Rattle.std.proofs.Common.{refl}
use Rattle.script_lines.specs.Lines.{Reopen}
use Rattle.arc_script.specs.PageWords.{page_seen}
use Rattle.arc_script.proofs.Stepping.{reopen_carries, reopen_ready, reopen_shuts, reopen_stops}
use Rattle.arc_script.proofs.step.carry_out_reopen.Goals as goal

pub returns-clause-carried : goal.returns-clause-carried
returns-clause-carried g c =
    reopen_carries g.D.Disk.seen c.args.moment Reopen c.args.script.now c.reopen.new.script c.args.store (page_seen c.args.page.now)
    (page_seen c.reopen.new.page) c.reopen.result refl c.reopen.ensures.carried

pub returns-clause-stop : goal.returns-clause-stop
returns-clause-stop g c =
    reopen_stops g.D.Disk.seen c.args.moment Reopen c.args.script.now c.reopen.new.script c.args.store c.reopen.result refl c.reopen.ensures.stop

pub returns-clause-shut : goal.returns-clause-shut
returns-clause-shut g c =
    reopen_shuts g.D.Disk.seen c.args.moment Reopen c.args.script.now c.args.store c.reopen.result refl c.reopen.ensures.shut

pub returns-clause-ready : goal.returns-clause-ready
returns-clause-ready g c =
    reopen_ready c.args.script.now c.reopen.new.script c.args.store.state.sum.text c.reopen.result c.requires.ready c.reopen.ensures.rest.1 c.reopen.ensures.set
