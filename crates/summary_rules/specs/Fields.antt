-- The ranges of the fields of a summary: what each stands in its bytes can say.
use Rattle.std.specs.Prelude.{◌≡◌, ◌<◌, ◌≤◌, ◌^◌, ℕ, List, true, length, Option, Some, None}
use Rattle.arc_data.specs.Classes.{priority_of}
use Rattle.arc_data.specs.Digits.{is_run, is_capital_hex, is_name, AreBytes}
use Rattle.arc_data.specs.Steps.{is_step, fits}
use Rattle.arc_data.specs.WellFormed.{IsMessage, IsText}
use Rattle.arc_data.specs.declared.incident.Incident.{Incident}
use Rattle.arc_data.specs.declared.step.Acted.{Acted}
use Rattle.centre_rules.specs.Limits.{messages_kept}
use Rattle.centre_rules.specs.Summary.{Summary, AccountRow, Past}
use Rattle.summary_rules.specs.Lists.{Every}

-- eight bytes hold the number
abbrev pub IsLongNumber : ℕ → Type 0
IsLongNumber n = n < 2 ^ 64

-- where there is a value, it is so
abbrev pub Given : {A : Type 0} → (A → Type 0) → Option A → Type 0
Given P None = Unit {0}
Given P (Some x) = P x

-- a text of at most so many bytes: a field of its own has 32, and the name of a line, or none, 16
pub record IsTextUpTo (most : ℕ) (text : List ℕ) : Type 0 where
  pub size : length text ≤ most
  pub bytes : AreBytes text

abbrev pub IsAccount : List ℕ → Type 0
IsAccount account = is_run is_capital_hex 3 16 account ≡ true

-- a message of the account
pub record IsPastOf (account : List ℕ) (p : Past) : Type 0 where
  pub at : IsLongNumber p.at
  pub message : IsMessage p.message
  pub of : p.message.account ≡ account

-- a row: an account, and at most 32 messages of it
pub record IsRow (r : AccountRow) : Type 0 where
  pub account : IsAccount r.account
  pub heard : Given IsLongNumber r.heard
  pub opening : Given (λ o. IsLongNumber o.at) r.opening
  pub few : length r.messages ≤ messages_kept
  pub messages : Every (IsPastOf r.account) r.messages

-- the claimer of the incident, and since when it was not touched: 0 where it has none
abbrev pub IsHolding : Option (List ℕ) → ℕ → Type 0
IsHolding None touched = touched ≡ 0
IsHolding (Some operator) touched = (is_name operator ≡ true) × IsLongNumber touched

-- an act: a step, an outcome that fits it, and who carried it out
pub record IsActed (a : Acted) : Type 0 where
  pub step : is_step a.step ≡ true
  pub outcome : fits a.step a.outcome ≡ true
  pub at : IsLongNumber a.at
  pub operator : is_name a.operator ≡ true

-- an incident: its class is one whose signals open incidents; it has at most 10 steps, and as many acts
pub record IsIncident (i : Incident) : Type 0 where
  pub number : IsLongNumber i.number
  pub account : IsAccount i.account
  pub class : 0 < priority_of i.class
  pub code : IsTextUpTo 32 i.code
  pub via : IsTextUpTo 16 i.via
  pub at : IsLongNumber i.at
  pub signals : IsLongNumber i.signals
  pub holder : IsHolding i.holder i.touched
  pub few_steps : length i.steps ≤ 10
  pub steps : Every (λ s. is_step s ≡ true) i.steps
  pub few_acts : length i.acts ≤ 10
  pub acts : Every IsActed i.acts

-- a summary, with its generation
pub record HasFields (generation : ℕ) (s : Summary) : Type 0 where
  pub numbered : IsLongNumber generation
  pub last : IsLongNumber s.last
  pub recorded : IsLongNumber s.recorded
  pub opened : IsLongNumber s.opened
  pub start : Given IsLongNumber s.start
  pub text : Given IsText s.text
  pub few_rows : length s.rows < 2 ^ 32
  pub rows : Every IsRow s.rows
  pub few_incidents : length s.incidents < 2 ^ 32
  pub incidents : Every IsIncident s.incidents
