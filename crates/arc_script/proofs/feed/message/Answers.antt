use Rattle.std.proofs.Common.{◌≡◌, ◌≢◌, ◌≤◌, ◌+◌, ◌-◌, ℕ, List, [], Result, Ok, Err, OnOk, ap, set, subst, sym, ◌∙◌, arith}
use Rattle.std.specs.List.{slice_get}
use Rattle.alarm_rules.specs.Setups.{meaning}
use Rattle.centre_core.specs.declared.hall.Stop.{Stop}
use Rattle.dc09_frame.specs.Frames.{frame_of}
use Rattle.desk_session.specs.Desks as Desk
use Rattle.line_session.specs.Lines as Line
use Rattle.script_lines.specs.Lines.{Asked, Message}
use Rattle.arc_script.specs.Carrying.{HaveTakenWith, IsNext}
use Rattle.arc_script.specs.Names.{line_name}
use Rattle.arc_script.specs.PageWords.{page_seen}
use Rattle.arc_script.specs.declared.script.Script.{Script}
use Rattle.arc_script.proofs.Carries.{message_taken, set_other, set_there}
use Rattle.arc_script.proofs.Feedings.{fed_ok, fed_stops, message_is}
use Rattle.arc_script.proofs.Kept.{lines_kept}
use Rattle.arc_script.proofs.feed.message.Goals as goal

-- where all was put, the line was made anew
took_anew : (setup : List ℕ) (moment line : ℕ) (body name : List ℕ) (lines fed : List Line.LineValue) (new : Line.LineValue) (desks : List Desk.DeskValue)
    (r : Result (Unit {0}) Stop) → 1 ≤ line → name ≡ line_name line → Line.TookStream name [] new → ((k : ℕ) → k ≢ line - 1 → slice_get fed k ≡ slice_get lines k)
    → OnOk r ((before : List Asked) (count : ℕ) → IsNext (meaning setup) moment count before (Message line body) lines desks
    → HaveTakenWith (meaning setup) count before (Message line body) (set fed (line - 1) new) desks)
took_anew setup moment line body name lines fed new desks (Ok done) low named fresh others =
    λ before count next.
    let at : line ≡ line - 1 + 1 = omega (arith, low) in
    message_taken (meaning setup) moment count line before body lines (set fed (line - 1) new) desks low next
    (set_there (Line.TookStream (line_name (line - 1 + 1)) []) fed (line - 1) new
    (subst (λ (n : List ℕ). Line.TookStream n [] new) (named ∙ ap (λ (n : ℕ). line_name n) at) fresh))
    (λ k other. set_other fed (line - 1) k new other ∙ others k other)
took_anew setup moment line body name lines fed new desks (Err stop) low named fresh others = tt

pub index_mut-requires : goal.index_mut-requires
index_mut-requires g c = omega (arith, c.fed-frames.new.script.sixteen, c.requires.line.low, c.requires.line.high)

pub returns-clause-fed : goal.returns-clause-fed
returns-clause-fed g c =
    let script = c.args.script.now in
    let line = c.args.line in
    let body = c.args.body.now in
    fed_ok g.D.Disk.seen c.args.store.now c.fed-frames.new.store script.setup c.args.moment 77 line (Message line body)
    c.bytes.result.now (frame_of body) script.lines.items script.desks.items script.tally c.fed-frames.new.script.tally
    (page_seen c.args.page.now) (page_seen c.put_fed.new.page) c.put_fed.result c.fed-frames.result (c.bytes.ensures.value ∙ c.write_frame.ensures)
    (message_is script.setup c.args.moment line body script.lines.items script.desks.items c.requires.clock c.requires.line.low c.requires.body)
    c.put_fed.ensures.fed c.put_fed.ensures.put c.fed-frames.ensures.fed

pub returns-clause-took : goal.returns-clause-took
returns-clause-took g c =
    let script = c.args.script.now in
    let line = c.args.line in
    let body = c.args.body.now in
    subst (λ (desks : List Desk.DeskValue). OnOk c.put_fed.result ((before : List Asked) (count : ℕ)
    → IsNext (meaning script.setup) c.args.moment count before (Message line body) script.lines.items script.desks.items
    → HaveTakenWith (meaning script.setup) count before (Message line body) (set c.fed-frames.new.script.lines.items (line - 1) c.renew.new.self) desks))
    (sym (ap (λ (s : Script). s.desks.items) c.fed-frames.ensures.rest))
    (took_anew script.setup c.args.moment c.args.line c.args.body.now c.name_of.result script.lines.items c.fed-frames.new.script.lines.items c.renew.new.self
    script.desks.items c.put_fed.result c.requires.line.low c.name_of.ensures.value c.renew.ensures c.fed-frames.ensures.others)

pub returns-clause-stop : goal.returns-clause-stop
returns-clause-stop g c =
    let script = c.args.script.now in
    let line = c.args.line in
    let body = c.args.body.now in
    fed_stops g.D.Disk.seen c.args.store.now c.fed-frames.new.store script.setup c.args.moment 77 line (Message line body)
    c.bytes.result.now (frame_of body) script.lines.items script.desks.items script.tally c.fed-frames.new.script.tally c.put_fed.result
    c.fed-frames.result (c.bytes.ensures.value ∙ c.write_frame.ensures)
    (message_is script.setup c.args.moment line body script.lines.items script.desks.items c.requires.clock c.requires.line.low c.requires.body)
    c.put_fed.ensures.stop c.fed-frames.ensures.fed c.fed-frames.ensures.stop

pub returns-clause-rest : goal.returns-clause-rest
returns-clause-rest g c =
    let is = c.fed-frames.ensures.rest in
    lines_kept c.args.script.now _ (ap (λ (s : Script). s.setup) is) (ap (λ (s : Script). s.limits) is) (ap (λ (s : Script). s.desks) is)
    (ap (λ (s : Script). s.clock) is) (ap (λ (s : Script). s.number) is) (ap (λ (s : Script). s.opened_before) is)
