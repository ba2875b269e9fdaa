use Rattle.std.proofs.Common.{length, take}
use Rattle.std.proofs.lemmas.List.{length-take-le}
use Rattle.line_gate.proofs.AtGroups.{goes_on_with}
use Rattle.group_gate.proofs.at_group.AtGroupGroupHall.submit_all.Goals as goal

pub returns-clause-goes_on : goal.returns-clause-goes_on
returns-clause-goes_on g c =
    let e = c.submit_all.ensures in
    let dones = c.submit_all.result.done in
    goes_on_with g.N.GateName.terms c.args.self.now.pass c.submit_all.new.pass (take (length dones) c.args.batch.now) dones e.done e.by
    (length-take-le (length dones) c.args.batch.now e.within) e.pass
