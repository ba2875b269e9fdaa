-- What stays so of the summaries of histories.
use Rattle.std.specs.Prelude.{◌≡◌, ◌≤◌, ◌<◌, ◌*◌, ◌++◌, ◌+◌, ◌^◌, ℕ, List, length, Option, Some, None, IsOk}
use Rattle.arc_data.specs.Moments.{IsMoment}
use Rattle.arc_data.specs.Incidents.{Ascends}
use Rattle.arc_data.specs.declared.incident.Incident.{Incident}
use Rattle.alarm_rules.specs.Setups.{setup_of}
use Rattle.event_codec.specs.Spelling.{IsVersion}
use Rattle.centre_rules.specs.Summary.{Summary, nothing}
use Rattle.centre_rules.specs.Standing.{last_standing}
use Rattle.centre_rules.specs.History.{Entry}
use Rattle.centre_rules.specs.Answers.{IsLegal}
use Rattle.centre_rules.specs.Sums.{summary_of}
use Rattle.summary_rules.specs.Lists.{Every, EveryTwo}
use Rattle.summary_rules.specs.Fields.{Given, HasFields}
use Rattle.summary_rules.specs.Spelling.{summary_text}
use Rattle.summary_rules.specs.Conditions.{IsRowBefore, AreMomentsBy, AreMessages, IsApart, IsHeldApart, AreActsOf, IsSummary, IsSpelling}

-- over a summary whose rows ascend by account, those of the summary of a history do
abbrev pub RowsAscend : Type 0
RowsAscend = (s : Summary) (h : List Entry) → EveryTwo IsRowBefore s.rows → EveryTwo IsRowBefore (summary_of s h).rows

-- over one that names no moment later than its last one, the summary of a legal history names none
abbrev pub MomentsStay : Type 0
MomentsStay = (s : Summary) (h : List Entry) → AreMomentsBy s → IsLegal s h → AreMomentsBy (summary_of s h)

-- likewise the messages of each row have signals, and their moments don't fall
abbrev pub MessagesStay : Type 0
MessagesStay = (s : Summary) (h : List Entry) → AreMomentsBy s → Every (λ r. AreMessages r.messages) s.rows → IsLegal s h
    → Every (λ r. AreMessages r.messages) (summary_of s h).rows

-- likewise the text in force is a setup
abbrev pub SetupsStay : Type 0
SetupsStay = (s : Summary) (h : List Entry) → Given (λ text. IsOk (setup_of text)) s.text → IsLegal s h
    → Given (λ text. IsOk (setup_of text)) (summary_of s h).text

-- Incidents.

-- where an incident has no claimer, the moment since which it was not touched is 0
abbrev pub IsUnheld : Option (List ℕ) → ℕ → Type 0
IsUnheld None touched = touched ≡ 0
IsUnheld (Some operator) touched = Unit {0}

abbrev pub IsUntouched : Incident → Type 0
IsUntouched i = IsUnheld i.holder i.touched

abbrev pub HasSignal : Incident → Type 0
HasSignal i = 1 ≤ i.signals

-- no two are of one account and class, no operator holds two at the last moment, those without a claimer were not touched, and each has
-- a signal
pub record AreIncidents (s : Summary) : Type 0 where
  pub single : EveryTwo IsApart s.incidents
  pub holders : EveryTwo IsHeldApart (last_standing s)
  pub untouched : Every IsUntouched s.incidents
  pub counted : Every HasSignal s.incidents

-- over such open incidents, whose numbers ascend, it is so of those of a legal history
abbrev pub IncidentsStay : Type 0
IncidentsStay = (s : Summary) (h : List Entry) → Ascends 0 s.incidents s.opened → AreIncidents s → IsLegal s h
    → AreIncidents (summary_of s h)

-- Counts.

-- so many were opened at most, and no incident has more signals
pub record AreWithin (most count : ℕ) (is : List Incident) : Type 0 where
  pub all : count ≤ most
  pub each : Every (λ i. i.signals ≤ most) is

-- where no count is greater than 4,000 times the number of recorded entries, it is so of the summary of each history
abbrev pub CountsStay : Type 0
CountsStay = (s : Summary) (h : List Entry) → AreWithin (4000 * s.recorded) s.opened s.incidents
    → AreWithin (4000 * (summary_of s h).recorded) (summary_of s h).opened (summary_of s h).incidents

-- Acts.

abbrev pub HasActs : Incident → Type 0
HasActs i = AreActsOf i.steps i.acts

-- over incidents whose numbers ascend and whose acts are each of one of their steps, no two of one step, it is so of those of a legal
-- history
abbrev pub ActsStay : Type 0
ActsStay = (s : Summary) (h : List Entry) → Ascends 0 s.incidents s.opened → Every HasActs s.incidents → IsLegal s h
    → Every HasActs (summary_of s h).incidents

-- The whole.

-- what has to hold of the summary of a history, and of a generation, beside what its entries bring, where it is written: moments lie before
-- the year 10000, at most 2^48 entries are recorded, the generation is one that may come, and four bytes hold the counts of rows and
-- incidents
pub record MaySpell (generation : ℕ) (t : Summary) : Type 0 where
  pub last : IsMoment t.last
  pub recorded : t.recorded ≤ 2 ^ 48
  pub first : 1 ≤ generation
  pub followed : generation ≤ t.recorded + 2
  pub few_rows : length t.rows < 2 ^ 32
  pub few_incidents : length t.incidents < 2 ^ 32

-- over one that has a spelling in a version, the summary of a legal history has one in version 2, in which it is written; and the empty
-- one, over which the first history is, has one in both
abbrev pub SummariesAreSpelled : Type 0
SummariesAreSpelled = (version generation other : ℕ) (s : Summary) (h : List Entry) → HasFields generation s
    → IsSummary version generation s → IsLegal s h → MaySpell other (summary_of s h)
    → IsSpelling 2 other (summary_of s h) (summary_text 2 other (summary_of s h))

-- where its bytes are fewer than 2^32, four bytes hold the counts of its rows and of its incidents
pub record AreFew (s : Summary) : Type 0 where
  pub rows : length s.rows < 2 ^ 32
  pub incidents : length s.incidents < 2 ^ 32

abbrev pub ShortOnesAreFew : Type 0
ShortOnesAreFew = (version generation : ℕ) (s : Summary) → length (summary_text version generation s) < 2 ^ 32 → AreFew s

abbrev pub NothingIsSpelled : Type 0
NothingIsSpelled = (version : ℕ) → IsVersion version → IsSpelling version 1 nothing (summary_text version 1 nothing)

-- the summary of a history over the summary of a legal one is that of the first and then the other
abbrev pub SummariesCompose : Type 0
SummariesCompose = (s : Summary) (h k : List Entry) → IsLegal s h → summary_of (summary_of s h) k ≡ summary_of s (k ++ h)
