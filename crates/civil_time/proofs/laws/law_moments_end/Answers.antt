use Rattle.std.proofs.Common.{ℕ, ◌/◌, ◌<◌, arith}
use Rattle.civil_time.specs.Calendar.{date_of}
use Rattle.civil_time.proofs.DateLemmas.{date_of-is_date, date_of-year, day_number-date_of, day_number-year}
use Rattle.civil_time.proofs.laws.law_moments_end.Goals as goal

pub returns : goal.returns
returns c = λ t.
    (λ moment. date_of-year (t / 86_400) (omega arith), λ year. before t (rw day_number-date_of at (day_number-year (date_of (t / 86_400)) (date_of-is_date (t / 86_400)) year)))
  where
    before : (t : ℕ) → t / 86_400 < 2_932_897 → t < 253_402_300_800
    before t day = omega arith
