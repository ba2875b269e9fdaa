use Rattle.std.proofs.Common.{◌∙◌, arith, ◌*◌, ◌/◌}
use Rattle.open_schedules.proofs.HourLemmas.{hours-same}
use Rattle.open_schedules.proofs.week.Week.in_hours.Goals as goal

pub returns : goal.returns
returns c = c.is_open.ensures ∙ hours-same c.args.self.now (c.args.moment / 60 * 60) c.args.moment (omega arith)
