-- The words of a setup text.
use Rattle.std.specs.Prelude.{ℕ, ◌+◌, ◌-◌, ◌/◌, ◌%◌, ◌==◌, ◌&&◌, ◌||◌, ℤ, pos, neg_ℤ, Bool, true, false, if◌then◌else◌}
use Rattle.std.specs.Prelude.{List, [], ◌∷◌, ◌++◌, Option, Some, None, nat_le, nat_lt, length, codes, decimal}
use Rattle.std.specs.List.{find, list_all, position}
use Rattle.std.specs.Option.{option_map, option_or}
use Rattle.std.specs.Str.{bytes_eq}
use Rattle.arc_data.specs.Classes.{name_of}
use Rattle.arc_data.specs.Digits.{bytes_spelled, capitals, is_account, is_digit, is_hex, is_run, two_digits}
use Rattle.arc_data.specs.declared.plan.Planned.{Planned}
use Rattle.arc_data.specs.declared.plan.PlanWord.{PlanWord}
use Rattle.arc_data.specs.declared.plan.PlanWord.TheVariants.{Premises, Holders, Police, Fire, Ambulance, Guard, Note}
use Rattle.arc_data.specs.declared.signal.Class.{Class}
use Rattle.arc_data.specs.declared.signal.Class.TheVariants.{Fire as OfFire, Medical, Panic, Gas, Burglary, Tamper, Environment}
use Rattle.arc_data.specs.declared.signal.Class.TheVariants.{CommFail, Trouble, Irregular, LateClose, Unlisted}
use Rattle.zone_rules.specs.Zones.{Zone, zone_of}
use Rattle.alarm_rules.specs.FirstFrom.{first_from}

-- the word, where it passes the test
abbrev pub word_that : (List ℕ → Bool) → List ℕ → Option (List ℕ)
word_that test word = if test word then Some word else None

-- Accounts and keys.

-- the number of an account in capitals: 3 to 16 hexadecimal digits, in either case
abbrev pub account_named : List ℕ → Option (List ℕ)
account_named word = option_map capitals (word_that is_account word)

-- a key's digits: 32, 48 or 64 hexadecimal digits, in either case
abbrev pub is_key : List ℕ → Bool
is_key digits = list_all is_hex digits && ((length digits == 32) || (length digits == 48) || (length digits == 64))

-- the bytes of a key
abbrev pub key_spelled : List ℕ → Option (List ℕ)
key_spelled word = option_map bytes_spelled (word_that is_key word)

-- Numbers are decimal without leading zeros.

-- the number from the lowest to the highest whose decimal text the word is
abbrev pub number_between : ℕ → ℕ → List ℕ → Option ℕ
number_between low high word = first_from (λ n. bytes_eq word (decimal n)) low (high + 1 - low)

-- minutes from -840 to 840, with a minus before those below 0; `-0` is none
abbrev pub minutes_spelled : List ℕ → Option ℤ
minutes_spelled [] = None
minutes_spelled (b ∷ bs) =
    if b == 45 then option_map (λ n. neg_ℤ (pos n)) (number_between 1 840 bs) else option_map pos (number_between 0 840 (b ∷ bs))

-- Zones.

-- the zone that a text of 1 to 64 bytes names, or that it is no rule
abbrev pub zone_spelled : List ℕ → Option (Option Zone)
zone_spelled word = option_map zone_of (word_that (λ text. nat_lt 0 (length text) && nat_le (length text) 64) word)

-- Days and times of day.

-- the days of the week, from 0 for Monday
abbrev pub day_names : List (List ℕ)
day_names = codes "mon" ∷ codes "tue" ∷ codes "wed" ∷ codes "thu" ∷ codes "fri" ∷ codes "sat" ∷ codes "sun" ∷ []

abbrev pub day_named : List ℕ → Option ℕ
day_named word = position (bytes_eq word) day_names

-- the minute of a day as `HH:MM`; the end of the day, minute 1440, is `24:00`
abbrev pub time_text : ℕ → List ℕ
time_text minute = two_digits (minute / 60) ++ codes ":" ++ two_digits (minute % 60)

-- the minute, up to the last one, whose time the word is
abbrev pub minute_named : ℕ → List ℕ → Option ℕ
minute_named last word = first_from (λ minute. bytes_eq word (time_text minute)) 0 (last + 1)

-- Telephone numbers and PINs.

-- the digits of a telephone number
abbrev pub is_dialled : List ℕ → Bool
is_dialled digits = is_run is_digit 3 20 digits

-- a telephone number: 3 to 20 digits, before which a plus may stand
abbrev pub is_phone : List ℕ → Bool
is_phone [] = false
is_phone (b ∷ bs) = if b == 43 then is_dialled bs else is_dialled (b ∷ bs)

abbrev pub is_pin : List ℕ → Bool
is_pin word = is_run is_digit 4 8 word

-- Classes and steps of plans.

-- the classes that a plan may have: those with a priority
abbrev pub planned_classes : List Class
planned_classes =
    OfFire ∷ Medical ∷ Panic ∷ Gas ∷ Burglary ∷ Tamper ∷ Environment ∷ CommFail ∷ Trouble ∷ Irregular ∷ LateClose ∷ Unlisted ∷ []

abbrev pub class_named : List ℕ → Option Class
class_named word = find (λ class. bytes_eq word (name_of class)) planned_classes

abbrev pub name_of_word : PlanWord → List ℕ
name_of_word Premises = codes "premises"
name_of_word Holders = codes "holders"
name_of_word Police = codes "police"
name_of_word Fire = codes "fire"
name_of_word Ambulance = codes "ambulance"
name_of_word Guard = codes "guard"
name_of_word Note = codes "note"

abbrev pub all_words : List PlanWord
all_words = Premises ∷ Holders ∷ Police ∷ Fire ∷ Ambulance ∷ Guard ∷ Note ∷ []

-- a word of a plan, by its name and then a mark, which may be nothing
abbrev pub word_named : List ℕ → List ℕ → Option PlanWord
word_named mark text = find (λ word. bytes_eq text (name_of_word word ++ mark)) all_words

abbrev pub with_mark : Bool → PlanWord → Planned
with_mark closed word = record { word = word; closed = closed }

-- a word of a plan, without or with the mark `@closed`
abbrev pub planned_named : List ℕ → Option Planned
planned_named text =
    option_or (option_map (with_mark false) (word_named [] text)) (option_map (with_mark true) (word_named (codes "@closed") text))
