-- What recorded entries leave behind, one mark after another. Lists of marks stand the newest first. Each question has a
-- base in the summary, and then goes by the newest mark.
use Rattle.std.specs.Prelude.{ℕ, List, [], ◌∷◌, ◌&&◌, ◌||◌, Bool, true, false, if◌then◌else◌}
use Rattle.std.specs.Prelude.{Option, Some, None, option_and_then, is_some}
use Rattle.std.specs.List.{find}
use Rattle.std.specs.Option.{option_map}
use Rattle.std.specs.Result.{result_ok}
use Rattle.std.specs.Str.{bytes_eq}
use Rattle.arc_data.specs.Classes.{same_class}
use Rattle.arc_data.specs.declared.event.Message.{Message}
pub use Rattle.arc_data.specs.declared.incident.Carried.{Carried}
use Rattle.arc_data.specs.declared.signal.Class.{Class}
use Rattle.arc_data.specs.declared.signal.Class.TheVariants.{CommFail, LateClose}
use Rattle.arc_data.specs.declared.signal.Kind.{Kind}
use Rattle.arc_data.specs.declared.signal.Kind.TheVariants.{Opening, Closing}
use Rattle.arc_data.specs.declared.step.Acted.{Acted}
use Rattle.alarm_rules.specs.Setups.{Setup, setup_of}
use Rattle.centre_rules.specs.Summary.{Summary, AccountRow, Past, Opened, row_of}

-- A setup text comes into force; a run starts; an account sends a message, or is heard without one; it has a signal; an
-- operator claims an incident; a step of it is carried out; it is released; it is closed.
pub data Mark : Type 0 where
  Adopts : (text : List ℕ) → Mark
  Starts : (at : ℕ) → Mark
  Sends : (message : Message) (at : ℕ) → Mark
  Hears : (account : List ℕ) (at : ℕ) → Mark
  Carries : (signal : Carried) → Mark
  Claims : (operator : List ℕ) (number : ℕ) (at : ℕ) → Mark
  Acts : (number : ℕ) (acted : Acted) → Mark
  Releases : (number : ℕ) → Mark
  Closes : (number : ℕ) → Mark

-- The setup in force: that of the last Adopt; and after how many seconds a hold lapses by it, if ever.

abbrev pub text_at : Mark → Option (List ℕ) → Option (List ℕ)
text_at (Adopts text) before = Some text
text_at m before = before

abbrev pub text : Summary → List Mark → Option (List ℕ)
text s [] = s.text
text s (m ∷ ms) = text_at m (text s ms)

abbrev pub force : Summary → List Mark → Option Setup
force s ms = option_and_then (λ t. result_ok (setup_of t)) (text s ms)

abbrev pub lapse : Summary → List Mark → Option ℕ
lapse s ms = option_and_then (λ setup. setup.lapse) (force s ms)

-- The last Start.

abbrev pub start_at : Mark → Option ℕ → Option ℕ
start_at (Starts at) before = Some at
start_at m before = before

abbrev pub start : Summary → List Mark → Option ℕ
start s [] = s.start
start s (m ∷ ms) = start_at m (start s ms)

-- The recorded messages of an account, the newest first.

abbrev pub messages_at : List ℕ → Mark → List Past → List Past
messages_at account (Sends message at) before =
    if bytes_eq message.account account then record { message = message; at = at } ∷ before else before
messages_at account m before = before

abbrev pub messages : Summary → List Mark → List ℕ → List Past
messages s [] account = (row_of s account).messages
messages s (m ∷ ms) account = messages_at account m (messages s ms account)

-- Whether an account has a row: a recorded message or heartbeat or a signal names it, or it had one.

abbrev pub keeps_row_at : List ℕ → Mark → Bool → Bool
keeps_row_at account (Sends message at) before = bytes_eq message.account account || before
keeps_row_at account (Hears x at) before = bytes_eq x account || before
keeps_row_at account (Carries x) before = bytes_eq x.account account || before
keeps_row_at account m before = before

abbrev pub has_row : List AccountRow → List ℕ → Bool
has_row rows account = is_some (find (λ r. bytes_eq r.account account) rows)

abbrev pub keeps_row : Summary → List Mark → List ℕ → Bool
keeps_row s [] account = has_row s.rows account
keeps_row s (m ∷ ms) account = keeps_row_at account m (keeps_row s ms account)

-- When an account was last heard: the last Start, or recorded message or heartbeat of it. None before the first.

abbrev pub heard_at : List ℕ → Mark → Option ℕ → Option ℕ
heard_at account (Starts at) before = Some at
heard_at account (Sends message at) before = if bytes_eq message.account account then Some at else before
heard_at account (Hears x at) before = if bytes_eq x account then Some at else before
heard_at account m before = before

abbrev pub heard : Summary → List Mark → List ℕ → Option ℕ
heard s [] account = (row_of s account).heard
heard s (m ∷ ms) account = heard_at account m (heard s ms account)

-- Whether a Tick has raised a CommFail of it since it was last heard.

-- a Tick has raised it: a signal of this account and class
abbrev pub is_raised : List ℕ → Class → Carried → Bool
is_raised account class x = x.by_tick && same_class x.signal.class class && bytes_eq x.account account

abbrev pub failed_at : List ℕ → Mark → Bool → Bool
failed_at account (Starts at) before = false
failed_at account (Sends message at) before = if bytes_eq message.account account then false else before
failed_at account (Hears x at) before = if bytes_eq x account then false else before
failed_at account (Carries x) before = is_raised account CommFail x || before
failed_at account m before = before

abbrev pub failed : Summary → List Mark → List ℕ → Bool
failed s [] account = (row_of s account).failed
failed s (m ∷ ms) account = failed_at account m (failed s ms account)

-- The last opening signal of an account, unless a closing one stands after it, and whether a Tick has raised a LateClose of
-- it since. Where there is one, the account is open.

abbrev pub now_late : Opened → Opened
now_late o = record o { late = true }

abbrev pub opening_by : Kind → ℕ → Bool → Option Opened → Option Opened
opening_by Opening at late before = Some (record { at = at; late = false })
opening_by Closing at late before = None
opening_by kind at late before = if late then option_map now_late before else before

abbrev pub opening_at : List ℕ → Mark → Option Opened → Option Opened
opening_at account (Carries x) before =
    if bytes_eq x.account account then opening_by x.signal.kind x.at (is_raised account LateClose x) before else before
opening_at account m before = before

abbrev pub opening : Summary → List Mark → List ℕ → Option Opened
opening s [] account = (row_of s account).opening
opening s (m ∷ ms) account = opening_at account m (opening s ms account)
