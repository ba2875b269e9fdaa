use Rattle.open_schedules.proofs.HourLemmas.{next-first}
use Rattle.open_schedules.proofs.laws.law_next_close_is_first.Goals as goal

pub returns : goal.returns
returns c = next-first
