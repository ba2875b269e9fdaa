use Rattle.std.proofs.Common.{◌++◌, ℕ, List, codes, decimal, length, Err, subst}
use Rattle.std.specs.List.{flat_map}
use Rattle.arc_report.specs.Reports.{incident_line}
use Rattle.desk_wire.specs.Replies.{ended}
use Rattle.arc_io.specs.Told.{Puts}
use Rattle.centre_rules.specs.Standing.{standing_of}
use Rattle.arc_report.proofs.Lines.{count_stood}
use Rattle.arc_report.proofs.Parts.{puts_next, puts_short}
use Rattle.arc_report.proofs.writing.put_table.Goals as goal

pub returns-in-Ok : goal.returns-in-Ok
returns-in-Ok g c =
    let lines = flat_map incident_line (standing_of c.args.lapse c.args.at c.args.table.now.incidents) in
    subst (λ (l : List ℕ). Puts (g.K.Ends.seen c.args.out.now) (g.K.Ends.seen c.put_incidents.new.out) c.put_incidents.result (l ++ lines))
    (count_stood c.args.lapse c.args.at c.args.table.now.incidents)
    (puts_next c.in-Ok.field-0 c.put_incidents.result (codes "open " ++ ended (decimal (length c.args.table.now.incidents))) lines (rw c.count.ensures at c.in-Ok.ensures) (rw c.slots.ensures.value at c.put_incidents.ensures))

pub returns-in-Err : goal.returns-in-Err
returns-in-Err g c =
    let lines = flat_map incident_line (standing_of c.args.lapse c.args.at c.args.table.now.incidents) in
    subst (λ (l : List ℕ). Puts {T = Unit {0}} (g.K.Ends.seen c.args.out.now) (g.K.Ends.seen c.put_count.new.out) (Err c.in-Err.fault) (l ++ lines))
    (count_stood c.args.lapse c.args.at c.args.table.now.incidents)
    (puts_short {T = Unit {0}} c.in-Err.fault (codes "open " ++ ended (decimal (length c.args.table.now.incidents))) lines (rw c.count.ensures at c.in-Err.ensures))
