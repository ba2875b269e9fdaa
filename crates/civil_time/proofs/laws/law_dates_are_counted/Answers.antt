use Rattle.civil_time.proofs.DateLemmas.{date_of-is_date, day_number-date_of}
use Rattle.civil_time.proofs.laws.law_dates_are_counted.Goals as goal

pub returns : goal.returns
returns c = λ n. (date_of-is_date n, day_number-date_of n)
