use Rattle.civil_time.proofs.DateLemmas.{date_of-day_number}
use Rattle.civil_time.proofs.laws.law_dates_are_reached.Goals as goal

pub returns : goal.returns
returns c = date_of-day_number
