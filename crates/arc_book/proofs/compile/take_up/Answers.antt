use Rattle.std.proofs.Common.{◌∙◌, ◌+◌, ◌++◌, [], ap, arith, length, List, ℕ}
use Rattle.book_lines.specs.Choices.{decided}
use Rattle.book_lines.specs.Telling.{told}
use Rattle.centre_rules.specs.Carrying.{carried_by}
use Rattle.centre_rules.specs.State.{entry_of}
use Rattle.centre_store.proofs.OpeningSteps.{found_so}
use Rattle.arc_book.proofs.Entries.{entry_told, put_longer}
use Rattle.arc_book.proofs.Portions.{taken_entry}
use Rattle.arc_book.proofs.compile.take_up.Goals as goal

pub settle-requires : goal.settle-requires
settle-requires c =
    let ready = c.in-Some.ready in
    let line = told c.args.options.now (c.entry_in.new.centre.entries + 1) ready.at c.entry_in.new.centre.sum.incidents
    (carried_by c.entry_in.new.centre.sum [] ready.event ready.at) ready.event ready.reply in
    omega (arith, c.count-start.ensures, ap length c.put_chosen-verdict.ensures.line, put_longer c.put_chosen-verdict.result c.args.page.now line)

pub returns-clause-taken : goal.returns-clause-taken
returns-clause-taken c same p stands =
    let o = c.args.options.now in
    let ready = c.in-Some.ready in
    let found = c.in_ok-ready.field-0 in
    let is = c.in-Some.is in
    let stays = c.entry_in.ensures.stays p.base p.past stands in
    let behind = c.apply.ensures.entry p.base p.past 0 stays in
    taken_entry o p c.args.body.now (entry_of 0 ready) c.apply.new.self c.args.page.now c.settle.new.page
    (found_so _ found ready is c.in_ok-ready.ensures.next p.base p.bodies p.past p.is_past stays) behind
    (c.settle.ensures c.args.page.now
    (told o (c.entry_in.new.centre.entries + 1) ready.at c.entry_in.new.centre.sum.incidents (carried_by c.entry_in.new.centre.sum [] ready.event ready.at) ready.event ready.reply)
    c.count-start.ensures c.put_chosen-verdict.ensures.line
    ∙ ap (λ (l : List ℕ). c.args.page.now ++ l)
    (entry_told o p.base c.entry_in.new.centre c.apply.new.self p.past ready stays (found_so _ found ready is c.in_ok-ready.ensures.made) behind
    (decided c.put_chosen-verdict.result c.apply.new.self.sum.incidents) (c.put_chosen-verdict.ensures.verdict c.apply.new.self.sum.incidents)))
