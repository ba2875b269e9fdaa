use Rattle.std.proofs.Common.{sym, arith}
use Rattle.open_schedules.proofs.HourLemmas.{next-found, next-none, found-is_next, none-is_none}
use Rattle.open_schedules.proofs.week.Week.next_close.Goals as goal

pub returns-in-Some-clause-value : goal.returns-in-Some-clause-value
returns-in-Some-clause-value c =
    let kept = c.loop-minute.invariant in
    sym (next-found c.args.self.now c.args.after c.loop-minute.minute c.min-change.result c.in-Some.close (omega arith) kept.from kept.none
    c.in-Some.ensures.some)

pub returns-in-Some-clause-some : goal.returns-in-Some-clause-some
returns-in-Some-clause-some c =
    let kept = c.loop-minute.invariant in
    found-is_next c.args.self.now c.args.after _
    (next-found c.args.self.now c.args.after c.loop-minute.minute c.min-change.result c.in-Some.close (omega arith) kept.from kept.none
    c.in-Some.ensures.some)

pub returns-clause-value : goal.returns-clause-value
returns-clause-value c =
    let kept = c.loop-minute.invariant in
    sym (next-none c.args.self.now c.args.after c.loop-minute.minute (omega arith) kept.none)

pub returns-clause-none : goal.returns-clause-none
returns-clause-none c =
    let kept = c.loop-minute.invariant in
    none-is_none c.args.self.now c.args.after (next-none c.args.self.now c.args.after c.loop-minute.minute (omega arith) kept.none)
