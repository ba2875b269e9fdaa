-- Stamps: what their bytes tell, and how they are read.
use Rattle.std.proofs.Common.{◌≡◌, ◌≢◌, ℕ, zero, suc, ◌+◌, ◌/◌, ◌%◌, ◌<◌, ◌≤◌, inl, inr, Bool, true, Some, None, List, length, get_or, refl, sym, ap, ◌∙◌, arith, All}
use Rattle.std.proofs.lemmas.Bool.{cases_Bool}
use Rattle.std.proofs.lemmas.Slice.Eq.{bytes_eq-Decides}
use Rattle.std.proofs.lemmas.List.Elements.{All-from_recursion}
use Rattle.jiff_core.proofs.CalendarLemmas.{days_in_month_bounds}
use Rattle.std.specs.Prelude.{bytes_eq, pos, codes, ◌++◌}
use Rattle.std.specs.List.{AllByRecursion}
use Rattle.civil_time.specs.Calendar.{CivilDate, date_of, day_number}
use Rattle.civil_time.specs.Stamp.{IsMoment, IsStampOf, two_digits, four_digits, stamp, stamp_text, stamp_time, found_below}
use Rattle.civil_time.specs.Laws.{IsStampByte}
use Rattle.civil_time.proofs.DateLemmas.{date_of-is_date, date_of-year, day_number-date_of, same_parts}

pub stamp-text : (t : ℕ) → stamp t ≡ stamp_text (t / 3600 % 24) (t / 60 % 60) (t % 60) (date_of (t / 86_400))
unfolding stamp
stamp-text t = refl

-- the parts of a date that a stamp can show
pub record IsShown (date : CivilDate) : Type 0 where
  pub year : date.year < 10_000
  pub month : date.month < 100
  pub day : date.day < 100

pub date_of-shown : (t : ℕ) → IsMoment t → IsShown (date_of (t / 86_400))
date_of-shown t moment =
    let date = date_of (t / 86_400) in
    let h = date_of-is_date (t / 86_400) in
    let year = date_of-year (t / 86_400) (omega arith) in
    record { year = omega arith; month = omega (arith, h.month_high); day = omega (arith, h.day_high, days_in_month_bounds (pos date.year) date.month) }

-- two numbers with the same two digits
two_same : (m n : ℕ) → m < 100 → n < 100 → 48 + m / 10 ≡ 48 + n / 10 → 48 + m % 10 ≡ 48 + n % 10 → m ≡ n
two_same m n hm hn high low = omega arith

-- what two stamps with one text have in common
record SameParts (h m s h' m' s' : ℕ) (date date' : CivilDate) : Type 0 where
  hour : h ≡ h'
  minute : m ≡ m'
  second : s ≡ s'
  is_date : date ≡ date'

stamp_text_same : (h m s h' m' s' : ℕ) (date date' : CivilDate) → h < 100 → m < 100 → s < 100 → h' < 100 → m' < 100 → s' < 100 → IsShown date → IsShown date'
    → stamp_text h m s date ≡ stamp_text h' m' s' date' → SameParts h m s h' m' s' date date'
stamp_text_same h m s h' m' s' date date' bh bm bs bh' bm' bs' d d' same =
    let byte : (i : ℕ) → get_or (stamp_text h m s date) i 0 ≡ get_or (stamp_text h' m' s' date') i 0 = λ i. ap (λ l. get_or l i 0) same in
    let month = two_same date.month date'.month d.month d'.month (byte 10) (byte 11) in
    let day = two_same date.day date'.day d.day d'.day (byte 13) (byte 14) in
    let century = two_same (date.year / 100) (date'.year / 100) (omega (arith, d.year)) (omega (arith, d'.year)) (byte 16) (byte 17) in
    let in_century = two_same (date.year % 100) (date'.year % 100) (omega arith) (omega arith) (byte 18) (byte 19) in
    record {
      hour = two_same h h' bh bh' (byte 1) (byte 2);
      minute = two_same m m' bm bm' (byte 4) (byte 5);
      second = two_same s s' bs bs' (byte 7) (byte 8);
      is_date = same_parts date date' (omega (arith, century, in_century)) month day;
    }

-- moments with the same clock and day
same_clock : (t u : ℕ) → t / 3600 % 24 ≡ u / 3600 % 24 → t / 60 % 60 ≡ u / 60 % 60 → t % 60 ≡ u % 60 → t / 86_400 ≡ u / 86_400 → t ≡ u
same_clock t u hour minute second day = omega arith

-- a text is the stamp of one moment at most
pub stamp_injective : (t u : ℕ) → IsMoment t → IsMoment u → stamp t ≡ stamp u → t ≡ u
stamp_injective t u ht hu same =
    let text = sym (stamp-text t) ∙ same ∙ stamp-text u in
    let parts = stamp_text_same (t / 3600 % 24) (t / 60 % 60) (t % 60) (u / 3600 % 24) (u / 60 % 60) (u % 60) (date_of (t / 86_400)) (date_of (u / 86_400))
    (omega arith) (omega arith) (omega arith) (omega arith) (omega arith) (omega arith) (date_of-shown t ht) (date_of-shown u hu) text in
    let day : t / 86_400 ≡ u / 86_400 = sym (day_number-date_of (t / 86_400)) ∙ ap day_number parts.is_date ∙ day_number-date_of (u / 86_400) in
    same_clock t u parts.hour parts.minute parts.second day

-- what is found passes the test and lies below the bound
found_below-passes : (test : ℕ → Bool) (n t : ℕ) → found_below test n ≡ Some t → (t < n) × (test t ≡ true)
unfolding found_below
found_below-passes test zero t e = cc
found_below-passes test (suc n) t e =
    elim (cases_Bool (test n)) [
      | inl passes ↦
          let here : n ≡ t = cc (rw passes at e) in
          (omega arith, ap test (sym here) ∙ passes)
      | inr fails ↦
          let below = found_below-passes test n t (rw fails at e) in
          (omega (arith, below.0), below.1)
    ]

-- where one number below the bound passes, it is found
found_below-only : (test : ℕ → Bool) (n t : ℕ) → t < n → test t ≡ true → ((u : ℕ) → u < n → test u ≡ true → u ≡ t) → found_below test n ≡ Some t
unfolding found_below
found_below-only test zero t lt passes only = absurd (omega arith)
found_below-only test (suc n) t lt passes only =
    elim (cases_Bool (test n)) [
      | inl last ↦
          let here : n ≡ t = only n (omega arith) last in
          rw last (ap Some here)
      | inr fails ↦
          let apart : n ≢ t = λ same. cc (ap test same, fails, passes) in
          rw fails (found_below-only test n t (omega arith) passes (λ u low. only u (omega arith)))
    ]

-- where none passes, none is found
found_below-none : (test : ℕ → Bool) (n : ℕ) → ((u : ℕ) → u < n → test u ≡ true → ⊥) → found_below test n ≡ None
unfolding found_below
found_below-none test zero none = refl
found_below-none test (suc n) none =
    elim (cases_Bool (test n)) [
      | inl passes ↦ absurd (none n (omega arith) passes)
      | inr fails ↦ rw fails (found_below-none test n (λ u low. none u (omega arith)))
    ]

pub stamp_time-sound : (t : ℕ) (bytes : List ℕ) → stamp_time bytes ≡ Some t → IsStampOf t bytes
unfolding stamp_time
stamp_time-sound t bytes e =
    let found = found_below-passes (λ u. bytes_eq bytes (stamp u)) _ t e in
    record { moment = found.0; text = (bytes_eq-Decides bytes (stamp t)).0 found.1 }

pub stamp_time-complete : (t : ℕ) (bytes : List ℕ) → IsStampOf t bytes → stamp_time bytes ≡ Some t
unfolding stamp_time
stamp_time-complete t bytes is =
    found_below-only (λ u. bytes_eq bytes (stamp u)) _ t is.moment ((bytes_eq-Decides bytes (stamp t)).1 is.text)
    (λ u low same. stamp_injective u t low is.moment (sym ((bytes_eq-Decides bytes (stamp u)).0 same) ∙ is.text))

-- a text that is the stamp of no moment has no time
pub stamp_time-none : (bytes : List ℕ) → ((t : ℕ) → IsMoment t → bytes ≡ stamp t → ⊥) → stamp_time bytes ≡ None
unfolding stamp_time
stamp_time-none bytes none =
    found_below-none (λ u. bytes_eq bytes (stamp u)) _ (λ u low same. none u low ((bytes_eq-Decides bytes (stamp u)).0 same))

-- the stamp of a moment is read as that moment
pub stamp_time-stamp : (t : ℕ) → IsMoment t → stamp_time (stamp t) ≡ Some t
stamp_time-stamp t moment = stamp_time-complete t (stamp t) (record { moment = moment; text = refl })

pub length-stamp : (t : ℕ) → length (stamp t) ≡ 20
unfolding stamp
length-stamp t = refl

plain : (b : ℕ) → 33 ≤ b → b < 124 → IsStampByte b
plain b low high = ((low, omega arith), λ bar. omega arith)

-- the two digits of a number are plain
plain-digits : (n : ℕ) → n < 100 → IsStampByte (48 + n / 10) × IsStampByte (48 + n % 10)
plain-digits n small = (plain (48 + n / 10) (omega arith) (omega arith), plain (48 + n % 10) (omega arith) (omega arith))

abbrev EachPlain : List ℕ → Type 0
EachPlain = AllByRecursion IsStampByte

stamp_text-plain : (h m s : ℕ) (date : CivilDate) → h < 100 → m < 100 → s < 100 → IsShown date → EachPlain (stamp_text h m s date)
stamp_text-plain h m s date bh bm bs shown =
    let hour = plain-digits h bh in
    let minute = plain-digits m bm in
    let second = plain-digits s bs in
    let month = plain-digits date.month shown.month in
    let day = plain-digits date.day shown.day in
    let century = plain-digits (date.year / 100) (omega (arith, shown.year)) in
    let year = plain-digits (date.year % 100) (omega arith) in
    let underscore = plain 95 (omega arith) (omega arith) in
    let colon = plain 58 (omega arith) (omega arith) in
    let comma = plain 44 (omega arith) (omega arith) in
    let dash = plain 45 (omega arith) (omega arith) in
    let from_year : EachPlain (four_digits date.year) = (century.0, (century.1, (year.0, (year.1, tt)))) in
    let from_day : EachPlain (two_digits date.day ++ codes "-" ++ four_digits date.year) = (day.0, (day.1, (dash, from_year))) in
    let from_month : EachPlain (two_digits date.month ++ codes "-" ++ two_digits date.day ++ codes "-" ++ four_digits date.year) = (month.0, (month.1, (dash, from_day))) in
    let from_second : EachPlain (two_digits s ++ codes "," ++ two_digits date.month ++ codes "-" ++ two_digits date.day ++ codes "-" ++ four_digits date.year) = (second.0, (second.1, (comma, from_month))) in
    (underscore, (hour.0, (hour.1, (colon, (minute.0, (minute.1, (colon, from_second)))))))

pub stamp-plain : (t : ℕ) → IsMoment t → All IsStampByte (stamp t)
unfolding stamp
stamp-plain t moment =
    All-from_recursion IsStampByte (stamp t) (stamp_text-plain (t / 3600 % 24) (t / 60 % 60) (t % 60) (date_of (t / 86_400)) (omega arith) (omega arith) (omega arith) (date_of-shown t moment))
