use Rattle.std.proofs.Common.{◌≡◌, Err, rules}
use Rattle.arc_script.proofs.Ticks.{again_stops, again_unsaid}
use Rattle.arc_script.proofs.reopen.begin_again.Goals as goal

pub returns-in_err-begin-clause-stop : goal.returns-in_err-begin-clause-stop
returns-in_err-begin-clause-stop g c =
    let stop = c.in_err-begin.field-0.0 in
    let is : c.from_residual.result ≡ Err stop = search rules in
    again_stops g.D.Disk.seen c.args.store.now c.begin.new.store c.from_residual.result stop c.args.script.now.setup c.args.moment is
    c.in_err-begin.ensures.stop

pub returns-clause-stop : goal.returns-clause-stop
returns-clause-stop g c =
    again_unsaid g.D.Disk.seen c.args.store.now c.begin.new.store
    c.said.result c.args.script.now.setup c.args.moment c.said.ensures.stop c.in_ok-begin.ensures.begun c.in_ok-begin.ensures.up
    c.in_ok-begin.ensures.left
