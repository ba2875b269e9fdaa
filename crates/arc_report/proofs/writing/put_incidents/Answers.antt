use Rattle.std.proofs.Common.{◌++◌, ◌+◌, ℕ, List, take, drop, Err, ap, subst, sym, ◌∙◌}
use Rattle.std.specs.List.{flat_map}
use Rattle.std.proofs.lemmas.List.{take_all}
use Rattle.arc_io.specs.Told.{Puts}
use Rattle.arc_io.proofs.Adding.{unput}
use Rattle.arc_report.proofs.Lines.{lines_more, lines_all, lines_stood, slot_line}
use Rattle.arc_report.proofs.Parts.{done, puts_next, puts_short}
use Rattle.arc_report.proofs.writing.put_incidents.Goals as goal

pub loop-slot-init : goal.loop-slot-init
loop-slot-init g c = unput (g.K.Ends.seen c.args.out.now)

pub loop-slot-preserved : goal.loop-slot-preserved
loop-slot-preserved g c =
    let slots = c.args.slots.now in
    let line = slot_line c.args.lapse c.args.at in
    let i = c.loop-slot.slot-index in
    let x = c.slot-item.result in
    subst (λ (l : List ℕ). Puts (g.K.Ends.seen c.args.out.now) (g.K.Ends.seen c.put_slot.new.out) done l)
    (ap (λ y. flat_map line (take i slots) ++ line y) c.slot-item.is ∙ lines_more line slots i x c.loop-slot-test.true)
    (puts_next tt done (flat_map line (take i slots)) (line x) c.loop-slot.invariant
    c.in-Ok.ensures)

pub returns-in-Err : goal.returns-in-Err
returns-in-Err g c =
    let slots = c.args.slots.now in
    let line = slot_line c.args.lapse c.args.at in
    let i = c.loop-slot.slot-index in
    let x = c.slot-item.result in
    let so_far = flat_map line (take i slots) in
    let rest = flat_map line (drop (i + 1) slots) in
    subst (λ (l : List ℕ). Puts {T = Unit {0}} (g.K.Ends.seen c.args.out.now) (g.K.Ends.seen c.put_slot.new.out) (Err c.in-Err.fault) l)
    (ap (λ y. (so_far ++ line y) ++ rest) c.slot-item.is ∙ ap (λ l. l ++ rest) (lines_more line slots i x c.loop-slot-test.true) ∙ lines_all line slots (i + 1) ∙ lines_stood c.args.lapse c.args.at slots)
    (puts_short {T = Unit {0}} c.in-Err.fault (so_far ++ line x) rest
    (puts_next tt (Err c.in-Err.fault) so_far (line x) c.loop-slot.invariant c.in-Err.ensures))

pub returns : goal.returns
returns g c =
    let slots = c.args.slots.now in
    let line = slot_line c.args.lapse c.args.at in
    subst (λ (l : List ℕ). Puts (g.K.Ends.seen c.args.out.now) (g.K.Ends.seen c.loop-slot.out) done l)
    (ap (flat_map line) (take_all c.loop-slot.slot-index slots c.loop-slot-test.false) ∙ lines_stood c.args.lapse c.args.at slots) c.loop-slot.invariant
