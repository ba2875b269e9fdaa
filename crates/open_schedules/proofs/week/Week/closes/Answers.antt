use Rattle.open_schedules.proofs.HourLemmas.{closes-then, closes-else}
use Rattle.open_schedules.proofs.week.Week.closes.Goals as goal

pub returns-then-is_open : goal.returns-then-is_open
returns-then-is_open c =
    closes-then c.args.self.now c.args.minute c.is_open.result c.is_open-then-is_open.result c.requires.later c.is_open.ensures
    c.is_open-then-is_open.ensures c.if-is_open.true

pub returns-else-is_open : goal.returns-else-is_open
returns-else-is_open c =
    closes-else c.args.self.now c.args.minute c.is_open.result c.requires.later c.is_open.ensures c.if-is_open.false
