use Rattle.std.proofs.Common.{◌≡◌, ◌+◌, ◌*◌, ◌/◌, ◌%◌, ℕ, Bool, true, false, Some, arith, sym, if◌then◌else◌}
use Rattle.arc_data.specs.Moments.{IsMoment}
use Rattle.civil_time.specs.Calendar.{date_of}
use Rattle.civil_time.specs.Stamp.{stamp, stamp_text}
use Rattle.civil_time.proofs.StampLemmas.{stamp_time-complete}
use Rattle.book_lines.specs.Asked.{moment_at, moment_named}
use Rattle.book_lines.specs.Dates.{date_text}
use Rattle.book_lines.proofs.laws.law_dates_are_read.Goals as goal

-- the stamp of a moment, by its parts
stamp_by : (t hour minute second n : ℕ) → t / 3600 % 24 ≡ hour → t / 60 % 60 ≡ minute → t % 60 ≡ second → t / 86_400 ≡ n → stamp_text hour minute second (date_of n) ≡ stamp t
unfolding stamp
stamp_by t hour minute second n h m s d = sym (λ i. stamp_text (h i) (m i) (s i) (date_of (d i)))

first : (n : ℕ) → IsMoment (n * 86_400) → moment_named false (date_text (date_of n)) ≡ Some (n * 86_400)
unfolding moment_at
first n moment =
    stamp_time-complete (n * 86_400) (stamp_text 0 0 0 (date_of n))
    (record { moment = moment; text = stamp_by (n * 86_400) 0 0 0 n (omega arith) (omega arith) (omega arith) (omega arith) })

last : (n : ℕ) → IsMoment (n * 86_400) → moment_named true (date_text (date_of n)) ≡ Some (n * 86_400 + 86_399)
unfolding moment_at
last n moment =
    stamp_time-complete (n * 86_400 + 86_399) (stamp_text 23 59 59 (date_of n))
    (record { moment = omega (arith, moment); text = stamp_by (n * 86_400 + 86_399) 23 59 59 n (omega arith) (omega arith) (omega arith) (omega arith) })

by_end : (end : Bool) (n : ℕ) → IsMoment (n * 86_400) → moment_named end (date_text (date_of n)) ≡ Some (if end then n * 86_400 + 86_399 else n * 86_400)
by_end true n moment = last n moment
by_end false n moment = first n moment

pub returns : goal.returns
returns c = by_end
