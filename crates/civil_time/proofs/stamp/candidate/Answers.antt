use Rattle.std.proofs.Common.{◌≡◌, ◌+◌, ◌*◌, ◌/◌, ◌%◌, ℕ, List, length, get_or, ap, ◌∙◌, arith}
use Rattle.jiff_core.proofs.SignedLemmas.{signed_arith}
use Rattle.civil_time.specs.Calendar.{date_of}
use Rattle.civil_time.proofs.DateLemmas.{date_of-is_date, date_of-year, days_from_civil-date_of}
use Rattle.civil_time.proofs.StampLemmas.{length-stamp, stamp-text, date_of-shown}
use Rattle.civil_time.proofs.stamp.candidate.Goals as goal

pub returns-then-bytes-ne20-clause-only : goal.returns-then-bytes-ne20-clause-only
returns-then-bytes-ne20-clause-only c = λ t moment text. absurd (omega (arith, ap length text, length-stamp t))

pub returns-clause-only : goal.returns-clause-only
returns-clause-only c = λ t moment is.
    let text = is ∙ stamp-text t in
    let date = date_of (t / 86_400) in
    let h = date_of-is_date (t / 86_400) in
    let shown = date_of-shown t moment in
    let hour : c.number_at.result ≡ t / 3600 % 24 = c.number_at.ensures.value (t / 3600 % 24) (omega arith) (ap (λ (l : List ℕ). get_or l 1 0) text) (ap (λ (l : List ℕ). get_or l 2 0) text) in
    let minute : c.number_at-2.result ≡ t / 60 % 60 = c.number_at-2.ensures.value (t / 60 % 60) (omega arith) (ap (λ (l : List ℕ). get_or l 4 0) text) (ap (λ (l : List ℕ). get_or l 5 0) text) in
    let second : c.number_at-3.result ≡ t % 60 = c.number_at-3.ensures.value (t % 60) (omega arith) (ap (λ (l : List ℕ). get_or l 7 0) text) (ap (λ (l : List ℕ). get_or l 8 0) text) in
    let century : c.number_at-4.result ≡ date.year / 100 = c.number_at-4.ensures.value (date.year / 100) (omega (arith, shown.year)) (ap (λ (l : List ℕ). get_or l 16 0) text) (ap (λ (l : List ℕ). get_or l 17 0) text) in
    let in_century : c.number_at-5.result ≡ date.year % 100 = c.number_at-5.ensures.value (date.year % 100) (omega arith) (ap (λ (l : List ℕ). get_or l 18 0) text) (ap (λ (l : List ℕ). get_or l 19 0) text) in
    let month : c.number_at-6.result ≡ date.month = c.number_at-6.ensures.value date.month shown.month (ap (λ (l : List ℕ). get_or l 10 0) text) (ap (λ (l : List ℕ). get_or l 11 0) text) in
    let day : c.number_at-7.result ≡ date.day = c.number_at-7.ensures.value date.day shown.day (ap (λ (l : List ℕ). get_or l 13 0) text) (ap (λ (l : List ℕ). get_or l 14 0) text) in
    let year : c.number_at-4.result * 100 + c.number_at-5.result ≡ date.year = omega arith in
    c.moment_at.ensures.only t moment
    (rw (year, month, day) (omega (arith, signed_arith, date_of-year (t / 86_400)), (h.month_low, h.month_high), (h.day_low, h.day_high)))
    (rw (year, month, day) (days_from_civil-date_of (t / 86_400))) (omega arith)
