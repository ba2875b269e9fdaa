use Rattle.std.proofs.Common.{◌≡◌, Some, None, true, ap, ◌∙◌}
use Rattle.arc_io.specs.Areas.{part}
use Rattle.disk_journal.specs.Turning.{IsFirstGate}
use Rattle.disk_journal.proofs.Steps.{torn_changes}
use Rattle.disk_journal.proofs.Turns.{gate_is, undone_run, undone_short, undone_open}
use Rattle.disk_journal.proofs.turn.close_gate.Goals as goal

pub returns-in-None-clause-undone : goal.returns-in-None-clause-undone
returns-in-None-clause-undone g c =
    let area = c.args.area in
    let old = g.D.Disk.seen c.args.disk.now in
    let mid = g.D.Disk.seen c.gate_of.new.disk in
    let new = g.D.Disk.seen c.write_synced.new.disk in
    let quiet = c.gate_of.ensures.quiet in
    undone_run area 0 17 (λ s. IsFirstGate None (part area s)) old mid new c.requires.settled quiet
    (gate_is area old.told mid.told c.in_ok-gate_of.field-0 None quiet.same c.in-None.is c.in_ok-gate_of.ensures.gate)
    (torn_changes area 0 17 mid new c.write_synced.ensures.torn c.write_synced.ensures.crash c.write_synced.ensures.any_moment)
    (undone_short area)

pub returns-in-Some-true-clause-undone : goal.returns-in-Some-true-clause-undone
returns-in-Some-true-clause-undone g c =
    let area = c.args.area in
    let old = g.D.Disk.seen c.args.disk.now in
    let mid = g.D.Disk.seen c.gate_of.new.disk in
    let new = g.D.Disk.seen c.write_synced-in-Some-true.new.disk in
    let quiet = c.gate_of.ensures.quiet in
    let was : c.in_ok-gate_of.field-0 ≡ Some true = c.in-Some-true.is ∙ ap Some c.in-Some-true.field-0-test in
    undone_run area 16 1 (λ s. IsFirstGate (Some true) (part area s)) old mid new c.requires.settled quiet
    (gate_is area old.told mid.told c.in_ok-gate_of.field-0 (Some true) quiet.same was c.in_ok-gate_of.ensures.gate)
    (torn_changes area 16 1 mid new c.write_synced-in-Some-true.ensures.torn c.write_synced-in-Some-true.ensures.crash c.write_synced-in-Some-true.ensures.any_moment)
    (undone_open area)
