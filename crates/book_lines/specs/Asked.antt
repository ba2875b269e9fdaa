-- What a book is asked for, in words.
use Rattle.std.specs.Prelude.{ℕ, ◌==◌, ◌&&◌, List, [], ◌∷◌, Bool, true, false, if◌then◌else◌, take, drop}
use Rattle.std.specs.Prelude.{Option, Some, None, IfSome, length, codes, slice_index}
use Rattle.std.specs.Option.{option_map, option_or, unwrap_or}
use Rattle.std.specs.Str.{bytes_eq}
use Rattle.arc_data.specs.Digits.{is_name}
use Rattle.arc_data.specs.Moments.{IsMoment}
use Rattle.alarm_rules.specs.SetupWords.{account_named, number_between, word_that, zone_spelled}
use Rattle.civil_time.specs.Stamp.{stamp_time}
use Rattle.book_lines.specs.Clocks.{IsNear}
use Rattle.book_lines.specs.declared.clock.Clock.{Clock}
use Rattle.book_lines.specs.declared.clock.Clock.TheVariants.{Fixed, Ruled}
use Rattle.book_lines.specs.declared.clock.Offset.{Offset}
use Rattle.book_lines.specs.declared.clock.Offset.TheVariants.{Gmt, Ahead, Behind}
use Rattle.book_lines.specs.declared.options.Options.{Options}
use Rattle.book_lines.specs.declared.options.Place.{Place}
use Rattle.book_lines.specs.declared.options.Place.TheVariants.{Number, Moment}

-- Words.

-- the number of a record or an incident, decimal without leading zeros, from 1 to the last one of 8 bytes
abbrev pub number_named : List ℕ → Option ℕ
number_named word = number_between 1 18_446_744_073_709_551_615 word

-- minutes ahead of GMT, from -840 to 840
abbrev pub offset_named : List ℕ → Option Offset
offset_named [] = None
offset_named (b ∷ digits) =
    if bytes_eq (b ∷ digits) (codes "0") then Some Gmt
    else if b == 45 then option_map Behind (number_between 1 840 digits)
    else option_map Ahead (number_between 1 840 (b ∷ digits))

abbrev pub clock_ahead : List ℕ → Option Clock
clock_ahead word = option_map Fixed (offset_named word)

-- the clock of a zone, by the text of a rule as a setup has it
abbrev pub clock_ruled : List ℕ → Option Clock
clock_ruled word = option_map Ruled (unwrap_or (zone_spelled word) None)

-- the moment of a date, as `2026-11-28`, and a time, as `18:19:00`, in the order of a stamp
unfoldable pub moment_at : List ℕ → List ℕ → Option ℕ
moment_at date time =
    let d : ℕ → ℕ = λ k. slice_index date k in
    let t : ℕ → ℕ = λ k. slice_index time k in
    if slice_index date 4 == 45 then
    stamp_time
    (95 ∷ t 0 ∷ t 1 ∷ t 2 ∷ t 3 ∷ t 4 ∷ t 5 ∷ t 6 ∷ t 7 ∷ 44 ∷ d 5 ∷ d 6 ∷ d 7 ∷ d 8 ∷ d 9 ∷ 45 ∷ d 0 ∷ d 1 ∷ d 2 ∷ d 3 ∷ [])
    else None

-- the time of the first second of a day, or of its last
abbrev pub end_of_day : Bool → List ℕ
end_of_day last = if last then codes "23:59:59" else codes "00:00:00"

-- a date, `T` and a time; a date alone is its first second, or the last one
abbrev pub moment_named : Bool → List ℕ → Option ℕ
moment_named last word =
    if length word == 10 then moment_at word (end_of_day last)
    else if (length word == 19) && (slice_index word 10 == 84) then moment_at (take 10 word) (drop 11 word)
    else None

abbrev pub place_named : Bool → List ℕ → Option Place
place_named last word = option_or (option_map Number (number_named word)) (option_map Moment (moment_named last word))

-- What words ask for, from an option on: it and its word, and the options behind it, or these alone.

-- all records, by GMT
abbrev pub plain : Bool → Options
plain tabs = record { since = None; until = None; account = None; incident = None; operator = None; clock = Fixed Gmt; tabs = tabs }

-- where the word can be read and those behind it as well
abbrev pub asking : {A : Type 0} → (A → Options → Options) → Option A → Option Options → Option Options
asking put None rest = None
asking put (Some value) rest = option_map (put value) rest

unfoldable pub from_tabs : List (List ℕ) → Option Options
from_tabs [] = Some (plain false)
from_tabs (word ∷ []) = if bytes_eq word (codes "tabs") then Some (plain true) else None
from_tabs (word ∷ next ∷ words) = None

unfoldable pub from_zone : List (List ℕ) → Option Options
from_zone (name ∷ value ∷ words) =
    if bytes_eq name (codes "zone") then asking (λ c o. record o { clock = c }) (clock_ruled value) (from_tabs words)
    else from_tabs (name ∷ value ∷ words)
from_zone words = from_tabs words

-- one of both at most
unfoldable pub from_offset : List (List ℕ) → Option Options
from_offset (name ∷ value ∷ words) =
    if bytes_eq name (codes "offset") then asking (λ c o. record o { clock = c }) (clock_ahead value) (from_tabs words)
    else from_zone (name ∷ value ∷ words)
from_offset words = from_zone words

unfoldable pub from_operator : List (List ℕ) → Option Options
from_operator (name ∷ value ∷ words) =
    if bytes_eq name (codes "operator") then asking (λ n o. record o { operator = Some n }) (word_that is_name value) (from_offset words)
    else from_offset (name ∷ value ∷ words)
from_operator words = from_offset words

unfoldable pub from_incident : List (List ℕ) → Option Options
from_incident (name ∷ value ∷ words) =
    if bytes_eq name (codes "incident") then asking (λ n o. record o { incident = Some n }) (number_named value) (from_operator words)
    else from_operator (name ∷ value ∷ words)
from_incident words = from_operator words

unfoldable pub from_account : List (List ℕ) → Option Options
from_account (name ∷ value ∷ words) =
    if bytes_eq name (codes "account") then asking (λ a o. record o { account = Some a }) (account_named value) (from_incident words)
    else from_incident (name ∷ value ∷ words)
from_account words = from_incident words

unfoldable pub from_until : List (List ℕ) → Option Options
from_until (name ∷ value ∷ words) =
    if bytes_eq name (codes "until") then asking (λ p o. record o { until = Some p }) (place_named true value) (from_account words)
    else from_account (name ∷ value ∷ words)
from_until words = from_account words

unfoldable pub from_since : List (List ℕ) → Option Options
from_since (name ∷ value ∷ words) =
    if bytes_eq name (codes "since") then asking (λ p o. record o { since = Some p }) (place_named false value) (from_until words)
    else from_until (name ∷ value ∷ words)
from_since words = from_until words

-- `since PLACE`, `until PLACE`, `account NUMBER`, `incident NUMBER`, `operator NAME`, `offset MINUTES` or `zone RULE`, and `tabs`: in this
-- order, and each at most once
abbrev pub options_of : List (List ℕ) → Option Options
options_of words = from_since words

-- Ranges.

abbrev pub IsPlace : Place → Type 0
IsPlace (Number number) = Unit {0}
IsPlace (Moment moment) = IsMoment moment

-- the moments lie before the year 10000, and the clock is near GMT
pub record AreInRange (o : Options) : Type 0 where
  pub since : IfSome o.since IsPlace
  pub until : IfSome o.until IsPlace
  pub clock : IsNear o.clock
