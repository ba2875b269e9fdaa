use Rattle.std.proofs.Common.{◌∙◌, sym}
use Rattle.open_schedules.proofs.HourLemmas.{none-last}
use Rattle.open_schedules.proofs.week.Week.close_up_to.Goals as goal

pub returns-in-None-2-clause-none : goal.returns-in-None-2-clause-none
returns-in-None-2-clause-none c =
    none-last c.args.self.now c.args.minute c.args.change c.in-None-2.ensures.none (sym c.closes.ensures ∙ c.if-closes.false)
