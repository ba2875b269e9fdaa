-- What a centre is read from, and what has to hold of its parts.
use Rattle.std.specs.Prelude.{◌≡◌, ◌≤◌, ◌^◌, ◌+◌, ◌*◌, ℕ, List, [], Option, IsOk}
use Rattle.std.specs.Option.{option_map}
use Rattle.arc_data.specs.Incidents.{Ascends}
use Rattle.arc_data.specs.Moments.{IsMoment}
use Rattle.arc_data.specs.declared.incident.Incident.{Incident}
use Rattle.alarm_rules.specs.Setups.{setup_of}
use Rattle.centre_rules.specs.Standing.{stands_at}
use Rattle.centre_rules.specs.State.{State, StandsFor}
use Rattle.centre_rules.specs.Summary.{Summary}
use Rattle.summary_rules.specs.Fields.{Given}
use Rattle.summary_rules.specs.Lists.{Every, EveryTwo}
use Rattle.summary_rules.specs.Conditions.{HasRowBy, HasIncidentBy, IsRowBefore, AreMessages, IsApart}
use Rattle.summary_rules.specs.Conditions.{IsHeldApart, IsCount, AreSteps, AreActsOf, IsSummary, IsSpelling}
use Rattle.summary_codec.specs.declared.head.Head.{Head}
use Rattle.summary_codec.specs.declared.reading.ReadRow.{ReadRow}
use Rattle.summary_codec.specs.declared.summary.ReadSummary.{ReadSummary}
use Rattle.summary_codec.specs.Parts.{row_of_read, summary_of_read}

-- they spell no summary in a version, of no generation
abbrev pub IsNoSpelling : ℕ → List ℕ → Type 0
IsNoSpelling version bytes = (generation : ℕ) (s : Summary) → IsSpelling version generation s bytes → ⊥

-- they spell a summary of this generation in a version, and the centre stands for the history of no entries over it
pub record IsDecoded (version : ℕ) (bytes : List ℕ) (s : State) (generation : ℕ) : Type 0 where
  pub base : Summary
  pub spelling : IsSpelling version generation base bytes
  pub stands : StandsFor base s []

-- What was read is a summary in a version, or not.

abbrev pub IsNoSummary : ℕ → ReadSummary → Type 0
IsNoSummary version r = IsSummary version r.head.generation (summary_of_read r) → ⊥

-- it is, and a centre keeps that
pub record IsKeptOf (version : ℕ) (r : ReadSummary) (s : State) : Type 0 where
  pub besides : IsSummary version r.head.generation (summary_of_read r)
  pub entries : s.entries ≡ r.head.recorded
  pub sum : s.sum ≡ summary_of_read r

-- The conditions, part by part.

pub record IsHeadFine (version : ℕ) (h : Head) : Type 0 where
  pub last : IsMoment h.last
  pub start : Given (λ at. at ≤ h.last) h.start
  pub recorded : h.recorded ≤ 2 ^ 48
  pub first : 1 ≤ h.generation
  pub followed : h.generation ≤ h.recorded + version
  pub opened : h.opened ≤ 4000 * h.recorded

-- a row by itself
pub record IsRowFine (last : ℕ) (r : ReadRow) : Type 0 where
  pub by : HasRowBy last (row_of_read r)
  pub messages : AreMessages r.window

-- its account stands behind that of the other, by bytes
abbrev pub IsReadBefore : ReadRow → ReadRow → Type 0
IsReadBefore other r = IsRowBefore (row_of_read other) (row_of_read r)

pub record AreRowsFine (last : ℕ) (rows : List ReadRow) : Type 0 where
  pub each : Every (IsRowFine last) rows
  pub order : EveryTwo IsReadBefore rows

-- an incident by itself
pub record IsIncidentFine (h : Head) (i : Incident) : Type 0 where
  pub by : HasIncidentBy h.last i
  pub signals : IsCount (4000 * h.recorded) i.signals
  pub steps : AreSteps i.steps
  pub acts : AreActsOf i.steps i.acts

pub record AreIncidentsFine (h : Head) (is : List Incident) : Type 0 where
  pub each : Every (IsIncidentFine h) is
  pub numbers : Ascends 0 is h.opened

-- the head, the rows and the incidents
pub record ArePartsFine (version : ℕ) (h : Head) (rows : List ReadRow) (is : List Incident) : Type 0 where
  pub head : IsHeadFine version h
  pub rows_are : AreRowsFine h.last rows
  pub incidents : AreIncidentsFine h is

-- no operator holds both at the moment
abbrev pub IsHeldApartAt : Option ℕ → ℕ → Incident → Incident → Type 0
IsHeldApartAt lapse at i other = IsHeldApart (stands_at lapse at i) (stands_at lapse at other)

-- no two are of one account and class, and no operator holds two at the moment
pub record AreAllApart (lapse : Option ℕ) (at : ℕ) (is : List Incident) : Type 0 where
  pub single : EveryTwo IsApart is
  pub holders : EveryTwo (IsHeldApartAt lapse at) is

-- the text, where there is one, is a setup
abbrev pub IsSetupGiven : Option (List ℕ) → Type 0
IsSetupGiven text = Given (λ t. IsOk (setup_of t)) text

abbrev pub IsTextFine : Head → Type 0
IsTextFine h = IsSetupGiven (option_map (λ t. t.now) h.text)
