-- What has to hold of a summary besides the ranges of its fields, for its bytes to be a spelling.
use Rattle.std.specs.Prelude.{◌≡◌, ◌≤◌, ◌^◌, ◌+◌, ◌*◌, ℕ, List, [], true, false, IsOk, codes, if◌then◌else◌}
use Rattle.std.specs.Cmp.Lexicographic.{slice_cmp}
use Rattle.std.specs.List.{list_any}
use Rattle.std.specs.Ordering.{nat_cmp, is_lt}
use Rattle.std.specs.Str.{bytes_eq}
use Rattle.arc_data.specs.Incidents.{is_of, Ascends}
use Rattle.arc_data.specs.Moments.{IsMoment}
use Rattle.arc_data.specs.Steps.{same_step}
use Rattle.arc_data.specs.declared.incident.Incident.{Incident}
use Rattle.arc_data.specs.declared.step.Acted.{Acted}
use Rattle.arc_data.specs.declared.step.Step.{Step}
use Rattle.alarm_rules.specs.Setups.{setup_of}
use Rattle.alarm_rules.specs.Signals.{has_signals}
use Rattle.event_codec.specs.Spelling.{via_of_one}
use Rattle.centre_rules.specs.Summary.{Summary, AccountRow, Past}
use Rattle.centre_rules.specs.Standing.{last_standing}
use Rattle.centre_rules.specs.Desks.{holds}
use Rattle.summary_rules.specs.Lists.{Every, EveryTwo}
use Rattle.summary_rules.specs.Fields.{Given, HasFields}
use Rattle.summary_rules.specs.Spelling.{summary_text}

-- Moments.

-- no moment of a row is later
pub record HasRowBy (last : ℕ) (r : AccountRow) : Type 0 where
  pub heard : Given (λ at. at ≤ last) r.heard
  pub opening : Given (λ o. o.at ≤ last) r.opening
  pub messages : Every (λ p. p.at ≤ last) r.messages

-- no moment of an incident is later
pub record HasIncidentBy (last : ℕ) (i : Incident) : Type 0 where
  pub at : i.at ≤ last
  pub touched : i.touched ≤ last
  pub acts : Every (λ a. a.at ≤ last) i.acts

-- no moment of the summary is later than that of the last entry
pub record AreMomentsBy (s : Summary) : Type 0 where
  pub start : Given (λ at. at ≤ s.last) s.start
  pub rows : Every (HasRowBy s.last) s.rows
  pub incidents : Every (HasIncidentBy s.last) s.incidents

-- Rows.

-- the account of the first row stands before that of the other, by bytes
abbrev pub IsRowBefore : AccountRow → AccountRow → Type 0
IsRowBefore r other = is_lt (slice_cmp nat_cmp r.account other.account) ≡ true

-- its content has signals
abbrev pub HasSignals : Past → Type 0
HasSignals p = has_signals p.message.token p.message.content ≡ true

-- the first message is the newer one, or as old
abbrev pub IsNoOlder : Past → Past → Type 0
IsNoOlder p other = other.at ≤ p.at

-- the messages of a row have signals, and their moments don't fall from the oldest to the newest
pub record AreMessages (messages : List Past) : Type 0 where
  pub signals : Every HasSignals messages
  pub moments : EveryTwo IsNoOlder messages

-- Incidents.

-- they are not of one account and class
abbrev pub IsApart : Incident → Incident → Type 0
IsApart i other = is_of i.account i.class other ≡ false

-- no operator holds both
abbrev pub IsHeldApart : Incident → Incident → Type 0
IsHeldApart i other = Given (λ operator. holds operator other ≡ false) i.holder

-- so many signals, at least one
pub record IsCount (most signals : ℕ) : Type 0 where
  pub any : 1 ≤ signals
  pub within : signals ≤ most

-- its steps: none stands twice
abbrev pub AreSteps : List Step → Type 0
AreSteps steps = EveryTwo (λ s other. same_step s other ≡ false) steps

-- its acts are each of one of its steps, and no two are of one step
pub record AreActsOf (steps : List Step) (acts : List Acted) : Type 0 where
  pub among : Every (λ a. list_any (same_step a.step) steps ≡ true) acts
  pub apart : EveryTwo (λ a other. same_step a.step other.step ≡ false) acts

-- the line by which a signal of this code came, as version 1 has it, which tells none: the one of its name, and none where no panel sent
-- the signal
abbrev pub name_of_one : List ℕ → List ℕ
name_of_one code = if bytes_eq code (codes "-") then [] else via_of_one

abbrev pub HasNameOfOne : Incident → Type 0
HasNameOfOne i = i.via ≡ name_of_one i.code

-- in version 1 each incident has the line that this version gives it
abbrev pub AreNamedIn : ℕ → List Incident → Type 0
AreNamedIn version is = version ≡ 1 → Every HasNameOfOne is

-- The whole.

-- A recorded entry raises no count by more than 4,000: a setup has at most 2,000 accounts, each of which a Tick may report
-- twice, and a message has fewer signals. In version 2 the generation may be one more, since what stood in version 1 is written again.
pub record IsSummary (version generation : ℕ) (s : Summary) : Type 0 where
  pub last : IsMoment s.last
  pub moments : AreMomentsBy s
  pub recorded : s.recorded ≤ 2 ^ 48
  pub first : 1 ≤ generation
  pub followed : generation ≤ s.recorded + version
  pub opened : s.opened ≤ 4000 * s.recorded
  pub text : Given (λ text. IsOk (setup_of text)) s.text
  pub rows : EveryTwo IsRowBefore s.rows
  pub messages : Every (λ r. AreMessages r.messages) s.rows
  pub numbers : Ascends 0 s.incidents s.opened
  pub single : EveryTwo IsApart s.incidents
  pub signals : Every (λ i. IsCount (4000 * s.recorded) i.signals) s.incidents
  pub holders : EveryTwo IsHeldApart (last_standing s)
  pub steps : Every (λ i. AreSteps i.steps) s.incidents
  pub acts : Every (λ i. AreActsOf i.steps i.acts) s.incidents
  pub names : AreNamedIn version s.incidents

-- Of a generation and a summary that have one, it is the one spelling in the version.
pub record IsSpelling (version generation : ℕ) (s : Summary) (bytes : List ℕ) : Type 0 where
  pub fields : HasFields generation s
  pub besides : IsSummary version generation s
  pub is : bytes ≡ summary_text version generation s
