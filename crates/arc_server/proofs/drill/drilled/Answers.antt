use Rattle.std.proofs.Common.{Some, ap, ◌∙◌}
use Rattle.arc_drill.specs.Drills.{drill_seen}
use Rattle.arc_io.specs.Areas.{Areas}
use Rattle.arc_io.specs.MemoryDisk.{disk_seen}
use Rattle.arc_server.specs.Areas.{shipped}
use Rattle.arc_server.proofs.Drilled.{drilled_to_end}
use Rattle.arc_server.proofs.drill.drilled.Goals as goal

pub returns-in-Done : goal.returns-in-Done
returns-in-Done c =
    drilled_to_end disk_seen c.args.messages c.in-Ok.setup shipped (drill_seen c.new-2.result) (drill_seen c.run_script-ended.new.port) c.new-disk.result
    c.run_script-ended.result (c.in-Ok.ensures.ok ∙ c.setup_text.ensures) c.in-Done.is c.new-2.ensures
    (ap (λ (areas : Areas). Some areas) c.new-disk.ensures.bytes) c.run_script-ended.ensures.script
