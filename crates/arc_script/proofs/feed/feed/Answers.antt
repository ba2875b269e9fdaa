use Rattle.std.proofs.Common.{ℕ, List, OnOk, ap, subst, sym}
use Rattle.arc_data.specs.Digits.{bytes_spelled}
use Rattle.alarm_rules.specs.Setups.{meaning}
use Rattle.desk_session.specs.Desks as Desk
use Rattle.script_lines.specs.Lines.{Asked, Feed}
use Rattle.arc_script.specs.Carrying.{HaveTakenWith, IsNext}
use Rattle.arc_script.specs.PageWords.{page_seen}
use Rattle.arc_script.specs.declared.script.Script.{Script}
use Rattle.arc_script.proofs.Carries.{feed_taken}
use Rattle.arc_script.proofs.Feedings.{fed_ok, fed_stops, feed_is, took_ok}
use Rattle.arc_script.proofs.feed.feed.Goals as goal

pub returns-clause-fed : goal.returns-clause-fed
returns-clause-fed g c =
    let script = c.args.script.now in
    let line = c.args.line in
    let digits = c.args.digits.now in
    fed_ok g.D.Disk.seen c.args.store.now c.fed-frames.new.store script.setup c.args.moment 76 line (Feed line digits)
    c.spelled-bytes.result.now (bytes_spelled digits) script.lines.items script.desks.items script.tally c.fed-frames.new.script.tally
    (page_seen c.args.page.now) (page_seen c.put_fed.new.page) c.put_fed.result c.fed-frames.result c.spelled-bytes.ensures
    (feed_is script.setup c.args.moment line digits script.lines.items script.desks.items c.requires.clock c.requires.line.low)
    c.put_fed.ensures.fed c.put_fed.ensures.put c.fed-frames.ensures.fed

pub returns-clause-took : goal.returns-clause-took
returns-clause-took g c =
    let script = c.args.script.now in
    let line = c.args.line in
    let digits = c.args.digits.now in
    subst (λ (desks : List Desk.DeskValue). OnOk c.put_fed.result ((before : List Asked) (count : ℕ)
    → IsNext (meaning script.setup) c.args.moment count before (Feed line digits) script.lines.items script.desks.items
    → HaveTakenWith (meaning script.setup) count before (Feed line digits) c.fed-frames.new.script.lines.items desks))
    (sym (ap (λ (s : Script). s.desks.items) c.fed-frames.ensures.rest))
    (took_ok script.setup c.args.moment line (Feed line digits) c.spelled-bytes.result.now (bytes_spelled digits) script.lines.items c.fed-frames.new.script.lines.items
    script.desks.items c.put_fed.result c.fed-frames.result c.spelled-bytes.ensures
    (feed_is script.setup c.args.moment line digits script.lines.items script.desks.items c.requires.clock c.requires.line.low)
    c.put_fed.ensures.fed c.fed-frames.ensures.took
    (λ before count next took. feed_taken (meaning script.setup) c.args.moment count line before digits script.lines.items c.fed-frames.new.script.lines.items
    script.desks.items c.requires.line.low next took c.fed-frames.ensures.others))

pub returns-clause-stop : goal.returns-clause-stop
returns-clause-stop g c =
    let script = c.args.script.now in
    let line = c.args.line in
    let digits = c.args.digits.now in
    fed_stops g.D.Disk.seen c.args.store.now c.fed-frames.new.store script.setup c.args.moment 76 line (Feed line digits)
    c.spelled-bytes.result.now (bytes_spelled digits) script.lines.items script.desks.items script.tally c.fed-frames.new.script.tally c.put_fed.result c.fed-frames.result
    c.spelled-bytes.ensures
    (feed_is script.setup c.args.moment line digits script.lines.items script.desks.items c.requires.clock c.requires.line.low)
    c.put_fed.ensures.stop c.fed-frames.ensures.fed c.fed-frames.ensures.stop
