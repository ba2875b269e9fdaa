use Rattle.std.proofs.Common.{◌∙◌, ◌+◌, ◌++◌, [], ap, sym, subst, List, ℕ, arith}
use Rattle.arc_data.specs.WellFormed.{IsWellFormed}
use Rattle.arc_book.proofs.Entries.{chosen_so, told_so, put_either}
use Rattle.arc_book.specs.Taken.{put_by}
use Rattle.book_lines.specs.Telling.{told}
use Rattle.book_lines.specs.declared.choice.Verdict.{Verdict}
use Rattle.centre_rules.specs.Carrying.{carried_by}
use Rattle.arc_book.proofs.compile.put_chosen.Goals as goal

pub put_line-requires : goal.put_line-requires
put_line-requires c = record {
  near = c.requires.range.clock;
  moment = c.at-at.ensures.moment;
  formed = subst IsWellFormed (sym c.event-event.ensures) c.requires.formed;
  few = omega (arith, c.carried-carried.ensures.few);
  room = c.requires.room;
}

pub returns-in-LeftOut-clause-verdict : goal.returns-in-LeftOut-clause-verdict
returns-in-LeftOut-clause-verdict c behind =
    chosen_so c.args.options.now c.args.centre.now c.args.ready.now (c.entries-number.result + 1) c.at-at.result c.table-table.result.now.incidents c.carried-carried.result.now c.event-event.result.now c.reply-reply.result.now c.requires.made (ap (λ n. n + 1) c.entries-number.ensures) c.at-at.ensures.at c.table-table.ensures.incidents (c.carried-carried.ensures.carried c.requires.recorded) c.event-event.ensures c.reply-reply.ensures behind
    ∙ c.choose-verdict.ensures behind

pub returns-in-LeftOut-clause-line : goal.returns-in-LeftOut-clause-line
returns-in-LeftOut-clause-line c = ap (λ (v : Verdict). put_by v c.args.page.now
    (told c.args.options.now (c.args.centre.now.entries + 1) c.args.ready.now.at c.args.centre.now.sum.incidents
    (carried_by c.args.centre.now.sum [] c.args.ready.now.event c.args.ready.now.at) c.args.ready.now.event c.args.ready.now.reply)) (sym c.in-LeftOut.is)

pub returns-clause-verdict : goal.returns-clause-verdict
returns-clause-verdict c behind =
    chosen_so c.args.options.now c.args.centre.now c.args.ready.now (c.entries-number.result + 1) c.at-at.result c.table-table.result.now.incidents c.carried-carried.result.now c.event-event.result.now c.reply-reply.result.now c.requires.made (ap (λ n. n + 1) c.entries-number.ensures) c.at-at.ensures.at c.table-table.ensures.incidents (c.carried-carried.ensures.carried c.requires.recorded) c.event-event.ensures c.reply-reply.ensures behind
    ∙ c.choose-verdict.ensures behind

pub returns-clause-line : goal.returns-clause-line
returns-clause-line c =
    c.put_line.ensures ∙ ap (λ (l : List ℕ). c.args.page.now ++ l)
    (told_so c.args.options.now c.args.centre.now c.args.ready.now (c.entries-number.result + 1) c.at-at.result c.table-table.result.now.incidents c.carried-carried.result.now c.event-event.result.now c.reply-reply.result.now c.requires.made (ap (λ n. n + 1) c.entries-number.ensures) c.at-at.ensures.at c.table-table.ensures.incidents (c.carried-carried.ensures.carried c.requires.recorded) c.event-event.ensures c.reply-reply.ensures)
    ∙ sym (put_either c.choose-verdict.result c.in_default.not-LeftOut c.args.page.now
    (told c.args.options.now (c.args.centre.now.entries + 1) c.args.ready.now.at c.args.centre.now.sum.incidents
    (carried_by c.args.centre.now.sum [] c.args.ready.now.event c.args.ready.now.at) c.args.ready.now.event c.args.ready.now.reply))
