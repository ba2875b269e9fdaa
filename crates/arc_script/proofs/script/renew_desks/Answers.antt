use Rattle.std.proofs.Common.{◌<◌, length, arith}
use Rattle.std.proofs.lemmas.List.Elements.{AllWithin-more_set}
use Rattle.arc_script.specs.Playing.{IsNewDesk}
use Rattle.arc_script.proofs.script.renew_desks.Goals as goal

pub loop-desk-preserved : goal.loop-desk-preserved
loop-desk-preserved c =
    let within : c.loop-desk.desk-index < length c.loop-desk.desks = omega arith in
    AllWithin-more_set c.loop-desk.desks c.loop-desk.desk-index c.new_desk.result within IsNewDesk c.loop-desk.invariant c.new_desk.ensures
