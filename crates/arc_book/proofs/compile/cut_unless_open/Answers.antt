use Rattle.std.proofs.Common.{◌∙◌, ap, sym}
use Rattle.std.specs.Option.{option_map}
use Rattle.std.specs.List.{find}
use Rattle.arc_data.specs.Incidents.{has_number}
use Rattle.arc_book.proofs.Entries.{cut_off, left_on}
use Rattle.arc_book.proofs.compile.cut_unless_open.Goals as goal

pub returns-in-Some : goal.returns-in-Some
returns-in-Some c before line from is =
    let found = sym (ap (find (has_number c.args.number)) c.table.ensures.incidents) in
    is ∙ left_on (find (has_number c.args.number) c.args.centre.now.sum.incidents) c.in-Some.field-0.now before line
    (found ∙ sym c.get.ensures ∙ ap (option_map _) c.in-Some.is)

pub returns-in-None : goal.returns-in-None
returns-in-None c before line from is =
    let found = sym (ap (find (has_number c.args.number)) c.table.ensures.incidents) in
    c.cut.ensures ∙ cut_off (find (has_number c.args.number) c.args.centre.now.sum.incidents) c.args.start c.args.page.now before line
    (found ∙ sym c.get.ensures ∙ ap (option_map _) c.in-None.is) from is
