use Rattle.std.proofs.Common.{◌≡◌, ◌≤◌, ◌+◌, ◌-◌, ◌*◌, ◌/◌}
use Rattle.alarm_rules.specs.Weeks.{is_closing}
use Rattle.open_schedules.specs.Minutes.{NoneUpTo}
use Rattle.open_schedules.proofs.week.Week.next_close.Given as goal

abbrev pub invariant-loop-minute : goal.invariant-loop-minute
invariant-loop-minute l = record {
  end : l.last ≡ l.after / 60 + 86_400;
  from : l.after / 60 ≤ l.minute;
  to : l.minute ≤ l.last;
  none : NoneUpTo (λ m. is_closing l.self (m * 60)) (l.after / 60) l.minute;
}

abbrev pub decreases-loop-minute : goal.decreases-loop-minute
decreases-loop-minute l = l.last - l.minute
