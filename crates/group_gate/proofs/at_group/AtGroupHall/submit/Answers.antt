use Rattle.line_gate.proofs.AtHalls.{done_at, stop_at}
use Rattle.group_gate.proofs.at_group.AtGroupHall.submit.Goals as goal

pub returns-clause-done : goal.returns-clause-done
returns-clause-done g c =
    done_at g.N.GateName.terms c.args.self.now.pass c.submit.new.pass c.args.clock c.args.event c.submit.result c.submit.ensures.done
    c.submit.ensures.pass

pub returns-clause-stop : goal.returns-clause-stop
returns-clause-stop g c =
    stop_at g.N.GateName.terms c.args.self.now.pass c.submit.new.pass c.args.clock c.args.event c.submit.result c.submit.ensures.later
    c.submit.ensures.made c.submit.ensures.pass c.submit.ensures.cause
