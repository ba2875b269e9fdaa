use Rattle.std.proofs.Common.{◌≡◌, ℕ, List, Some, None, sym, ap, ◌∙◌, subst}
use Rattle.std.specs.Option.{option_map}
use Rattle.arc_io.specs.Told.{Puts}
use Rattle.arc_io.proofs.Adding.{unput}
use Rattle.incidents.specs.Slots.{standing}
use Rattle.arc_report.proofs.Lines.{line_open, line_closed}
use Rattle.arc_report.proofs.Parts.{done}
use Rattle.arc_report.proofs.writing.put_slot.Goals as goal

pub returns-in-Some : goal.returns-in-Some
returns-in-Some g c =
    let i = c.in-Some.i.now in
    let here : standing c.args.slot.now ≡ Some i = sym c.incident.ensures ∙ ap (option_map (λ i. i.now)) c.in-Some.is in
    subst (λ (l : List ℕ). Puts (g.K.Ends.seen c.args.out.now) (g.K.Ends.seen c.print.new.out) c.print.result l) (line_open c.args.lapse c.args.at c.args.slot.now i here)
    (rw (sym c.view.ensures) c.print.ensures)

pub returns-in-None : goal.returns-in-None
returns-in-None g c =
    let none : standing c.args.slot.now ≡ None = sym c.incident.ensures ∙ ap (option_map (λ i. i.now)) c.in-None.is in
    subst (λ (l : List ℕ). Puts (g.K.Ends.seen c.args.out.now) (g.K.Ends.seen c.args.out.now) done l) (line_closed c.args.lapse c.args.at c.args.slot.now none) (unput (g.K.Ends.seen c.args.out.now))
