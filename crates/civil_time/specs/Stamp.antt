-- The stamp of a moment, `_HH:MM:SS,MM-DD-YYYY` in GMT, as ANSI/SIA DC-09 writes it. A moment is a number of seconds since
-- the beginning of 1970.
use Rattle.std.specs.Prelude.{◌≡◌, ℕ, zero, suc, ◌+◌, ◌/◌, ◌%◌, Bool, ◌&&◌, nat_le, if◌then◌else◌, Option, Some, None, List, []}
use Rattle.std.specs.Prelude.{◌∷◌, ◌++◌, codes, bytes_eq}
pub use Rattle.arc_data.specs.Digits.{two_digits}
pub use Rattle.arc_data.specs.Moments.{IsMoment, moments_end}
use Rattle.civil_time.specs.Calendar.{CivilDate, date_of}

-- the number in four decimal digits
abbrev pub four_digits : ℕ → List ℕ
four_digits n = two_digits (n / 100) ++ two_digits (n % 100)

-- the text of an hour, a minute, a second and a date
abbrev pub stamp_text : ℕ → ℕ → ℕ → CivilDate → List ℕ
stamp_text hour minute second date =
    codes "_" ++ two_digits hour ++ codes ":" ++ two_digits minute ++ codes ":" ++ two_digits second
    ++ codes "," ++ two_digits date.month ++ codes "-" ++ two_digits date.day ++ codes "-" ++ four_digits date.year

-- the stamp of the moment t: a day has 86,400 seconds, an hour 3,600 and a minute 60
unfoldable pub stamp : ℕ → List ℕ
stamp t = stamp_text (t / 3600 % 24) (t / 60 % 60) (t % 60) (date_of (t / 86_400))

-- the bytes are the stamp of a second from 1970 to the end of 9999
pub record IsStampOf (t : ℕ) (bytes : List ℕ) : Type 0 where
  pub moment : IsMoment t
  pub text : bytes ≡ stamp t

-- the number below n that passes the test, the greatest where several do
unfoldable pub found_below : (ℕ → Bool) → ℕ → Option ℕ
found_below test zero = None
found_below test (suc n) = if test n then Some n else found_below test n

-- the second from 1970 to the end of 9999 whose stamp the bytes are, if there is one
unfoldable pub stamp_time : List ℕ → Option ℕ
stamp_time bytes = found_below (λ t. bytes_eq bytes (stamp t)) moments_end

-- the stamp is at most 40 seconds older and at most 20 seconds newer than now, both ends included
abbrev pub is_fresh : ℕ → ℕ → Bool
is_fresh t now = nat_le now (t + 40) && nat_le t (now + 20)
