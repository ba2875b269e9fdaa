-- What a line of a setup text says.
use Rattle.std.specs.Prelude.{ℕ, ◌==◌, ◌&&◌, pos, Bool, true, false, not, nat_lt, if◌then◌else◌}
use Rattle.std.specs.Prelude.{List, [], ◌∷◌, Option, Some, None, option_and_then, length, codes}
use Rattle.std.specs.List.{slice_split}
use Rattle.std.specs.Option.{option_map, unwrap_or}
use Rattle.std.specs.Str.{bytes_eq}
use Rattle.arc_data.specs.Digits.{is_name}
use Rattle.arc_data.specs.Words.{has_word}
use Rattle.arc_data.specs.declared.plan.Planned.{Planned}
use Rattle.arc_data.specs.declared.signal.Class.{Class}
use Rattle.arc_data.specs.declared.window.Window.{Window}
use Rattle.zone_rules.specs.Zones.{Zone, fixed_zone}
use Rattle.alarm_rules.specs.Limits.{longest_line}
use Rattle.alarm_rules.specs.SetupWords.{word_that, account_named, key_spelled, number_between, minutes_spelled}
use Rattle.alarm_rules.specs.SetupWords.{zone_spelled, day_named, minute_named, is_phone, is_pin, class_named, planned_named}

-- an account: its number in capitals, the bytes of its key and the seconds of its interval, where it has them, and its zone, which
-- is none where the text that names it is no rule
pub record AccountLine : Type 0 where
  pub number : List ℕ
  pub key : Option (List ℕ)
  pub beat : Option ℕ
  pub zone : Option Zone

-- a window of an account's opening hours
pub record HoursLine : Type 0 where
  pub account : List ℕ
  pub window : Window

-- a keyholder of an account
pub record KeyholderLine : Type 0 where
  pub account : List ℕ
  pub name : List ℕ

-- the plan of an account for a class, or of all accounts that have none of their own
pub record PlanLine : Type 0 where
  pub account : Option (List ℕ)
  pub class : Class
  pub words : List Planned

-- an operator and the secret digits to log in with
pub record Operator : Type 0 where
  pub name : List ℕ
  pub pin : List ℕ

-- what a line says
pub data Said : Type 0 where
  Nothing : Said
  OfAccount : AccountLine → Said
  OfHours : HoursLine → Said
  OfKeyholder : KeyholderLine → Said
  OfPlan : PlanLine → Said
  OfOperator : Operator → Said
  OfLapse : (seconds : ℕ) → Said

-- Parts of a line.

-- the words of a line: what stands between its spaces; two spaces together, or one at an end, make a word of no bytes
abbrev pub words_of : List ℕ → List (List ℕ)
words_of line = slice_split (λ b. b == 32) line

-- what follows from a part, where it can be read
abbrev pub after : {A B : Type 0} → Option A → (A → Option B) → Option B
after part rest = option_and_then rest part

abbrev pub is_nil : {A : Type 0} → List A → Bool
is_nil [] = true
is_nil (x ∷ xs) = false

-- the value, where the test passes
abbrev pub provided : {A : Type 0} → Bool → A → Option A
provided test value = if test then Some value else None

-- An option of a line: where the next word is its name, the word behind that has to be its value. It gives the value, or none, and
-- the words that follow.
abbrev pub value_first : {A : Type 0} → (List ℕ → Option A) → List (List ℕ) → Option (Option A × List (List ℕ))
value_first read [] = None
value_first read (word ∷ words) = option_map (λ value. (Some value, words)) (read word)

abbrev pub optional : {A : Type 0} → List ℕ → (List ℕ → Option A) → List (List ℕ) → Option (Option A × List (List ℕ))
optional name read [] = Some (None, [])
optional name read (word ∷ words) = if bytes_eq word name then value_first read words else Some (None, word ∷ words)

-- Lines, by the words behind the first one.

-- the zone of an account: optionally `zone TEXT`, and without it GMT
abbrev pub rule_named : List (List ℕ) → Option (Option Zone × List (List ℕ))
rule_named words =
    option_map (λ zone. (unwrap_or zone.0 (Some (fixed_zone (pos 0))), zone.1)) (optional (codes "zone") zone_spelled words)

-- optionally `offset MINUTES` in its place
abbrev pub zone_named : List (List ℕ) → Option (Option Zone × List (List ℕ))
zone_named words =
    after (optional (codes "offset") minutes_spelled words) (λ offset.
    elim offset.0 [ Some minutes ↦ Some (Some (fixed_zone minutes), offset.1) | None ↦ rule_named offset.1 ])

-- `account ACC`, then optionally `key HEX`, then optionally `beat SECONDS`, then optionally `offset MINUTES` or `zone TEXT`
abbrev pub account_line : List (List ℕ) → Option AccountLine
account_line [] = None
account_line (number ∷ words) =
    after (account_named number) (λ account.
    after (optional (codes "key") key_spelled words) (λ key.
    after (optional (codes "beat") (number_between 1 1_000_000) key.1) (λ beat.
    after (zone_named beat.1) (λ zone.
    provided (is_nil zone.1) (record { number = account; key = key.0; beat = beat.0; zone = zone.0 })))))

-- `hours ACC DAY HH:MM HH:MM`: the first time is from 00:00 to 23:59, the second is later and may be 24:00
abbrev pub hours_line : List (List ℕ) → Option HoursLine
hours_line (number ∷ day ∷ first ∷ second ∷ []) =
    after (account_named number) (λ account.
    after (day_named day) (λ weekday.
    after (minute_named 1439 first) (λ from.
    after (minute_named 1440 second) (λ to.
    provided (nat_lt from to) (record { account = account; window = record { weekday = weekday; from = from; to = to } })))))
hours_line other = None

-- `keyholder ACC NAME PHONE`
abbrev pub keyholder_line : List (List ℕ) → Option KeyholderLine
keyholder_line (number ∷ word ∷ phone ∷ []) =
    after (account_named number) (λ account.
    after (word_that is_name word) (λ name.
    provided (is_phone phone) (record { account = account; name = name })))
keyholder_line other = None

-- whose plan it is: that of an account, or with `*` that of all accounts that have none of their own
abbrev pub target_named : List ℕ → Option (Option (List ℕ))
target_named word = if bytes_eq word (codes "*") then Some None else option_map Some (account_named word)

-- what every word reads as, where each can be read
abbrev pub each_read : {A : Type 0} → (List ℕ → Option A) → List (List ℕ) → Option (List A)
each_read read [] = Some []
each_read read (word ∷ words) = after (read word) (λ value. option_map (λ values. value ∷ values) (each_read read words))

-- no word stands in the plan twice, with or without its mark
abbrev pub none_twice : List Planned → Bool
none_twice [] = true
none_twice (p ∷ ps) = not (has_word p.word ps) && none_twice ps

-- 1 to 7 words of a plan; none stands twice, and so there are 7 at most
abbrev pub plan_words : List (List ℕ) → Option (List Planned)
plan_words words = after (each_read planned_named words) (λ plan. provided (not (is_nil plan) && none_twice plan) plan)

-- `plan ACC CLASS WORDS` or `plan * CLASS WORDS`
abbrev pub plan_line : List (List ℕ) → Option PlanLine
plan_line (whose ∷ name ∷ words) =
    after (target_named whose) (λ account.
    after (class_named name) (λ class.
    after (plan_words words) (λ plan.
    Some (record { account = account; class = class; words = plan }))))
plan_line other = None

-- `operator NAME PIN`
abbrev pub operator_line : List (List ℕ) → Option Operator
operator_line (word ∷ digits ∷ []) =
    after (word_that is_name word) (λ name. option_map (λ pin. record { name = name; pin = pin }) (word_that is_pin digits))
operator_line other = None

-- `lapse SECONDS`: 60 to 86,400
abbrev pub lapse_line : List (List ℕ) → Option ℕ
lapse_line (word ∷ []) = number_between 60 86_400 word
lapse_line other = None

-- a line that declares something, by its first word
abbrev pub declared : List (List ℕ) → Option Said
declared [] = None
declared (word ∷ words) =
    if bytes_eq word (codes "account") then option_map OfAccount (account_line words)
    else if bytes_eq word (codes "hours") then option_map OfHours (hours_line words)
    else if bytes_eq word (codes "keyholder") then option_map OfKeyholder (keyholder_line words)
    else if bytes_eq word (codes "plan") then option_map OfPlan (plan_line words)
    else if bytes_eq word (codes "operator") then option_map OfOperator (operator_line words)
    else if bytes_eq word (codes "lapse") then option_map OfLapse (lapse_line words)
    else None

-- an empty line or a remark, which begins with `#`
abbrev pub is_skipped : List ℕ → Bool
is_skipped [] = true
is_skipped (b ∷ bs) = b == 35

-- what a line of at most 1,024 bytes says; none where it has more or is of no form
abbrev pub says : List ℕ → Option Said
says line =
    if nat_lt longest_line (length line) then None
    else if is_skipped line then Some Nothing
    else declared (words_of line)
