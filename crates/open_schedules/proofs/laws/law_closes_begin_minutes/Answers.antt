use Rattle.open_schedules.proofs.HourLemmas.{close-minute}
use Rattle.open_schedules.proofs.laws.law_closes_begin_minutes.Goals as goal

pub returns : goal.returns
returns c = close-minute
