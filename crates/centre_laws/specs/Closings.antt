-- An incident is closed only when each of its steps is met.
use Rattle.std.specs.Prelude.{◌≡◌, ◌<◌, ◌⊎◌, ◌==◌, ℕ, List, [], ◌∷◌, ◌++◌, true, if◌then◌else◌, Option, Some, None}
use Rattle.std.specs.Prelude.{length, take, slice_index_or}
use Rattle.arc_data.specs.declared.event.Event.{Event}
use Rattle.arc_data.specs.declared.event.Event.TheVariants.{Act as Do}
use Rattle.arc_data.specs.declared.reply.Reply.{Reply}
use Rattle.arc_data.specs.declared.reply.Reply.TheVariants.{Recorded, Closed}
use Rattle.arc_data.specs.declared.step.Acted.{Acted}
use Rattle.arc_data.specs.declared.step.Step.{Step}
use Rattle.arc_data.specs.declared.step.Step.TheVariants.{Note}
use Rattle.alarm_rules.specs.Plans.{is_met}
use Rattle.alarm_rules.specs.Setups.{Setup, steps_of}
use Rattle.centre_rules.specs.Summary.{Summary}
use Rattle.centre_rules.specs.Marks.{force}
use Rattle.centre_rules.specs.Cases.{Incident, opened, incidents}
use Rattle.centre_rules.specs.History.{Entry, marks, acted_by}
use Rattle.centre_rules.specs.Desks.{numbered}
use Rattle.centre_rules.specs.Answers.{IsLegal}
use Rattle.centre_laws.specs.Numbers.{IsNumbered}

-- the number of a reply Closed
abbrev pub closed_number : Reply → Option ℕ
closed_number (Closed number) = Some number
closed_number reply = None

-- what an entry with the reply Recorded of this incident recorded
abbrev pub acted_of : ℕ → Event → ℕ → Reply → List Acted
acted_of number (Do operator n step outcome) at (Recorded other left) =
    if number == other then acted_by operator step outcome at ∷ [] else []
acted_of number event at reply = []

-- what the entries with the reply Recorded of this incident recorded, the oldest first
abbrev pub acts_recorded : ℕ → List Entry → List Acted
acts_recorded number [] = []
acts_recorded number (e ∷ h) = acts_recorded number h ++ acted_of number e.event e.at e.reply

-- the acts meet each of the steps, which is judged by the steps before it
abbrev pub MeetAll : List Acted → List Step → Type 0
MeetAll acts steps =
    (place : ℕ) → place < length steps → is_met acts (take place steps) (slice_index_or steps place Note) ≡ true

-- After these entries e opened the incident, which stands so after it. Its steps are those of the setup then in force, for
-- its account, its class and that moment.
pub record OpensIt (s : Summary) (before : List Entry) (e : Entry) (i : Incident) : Type 0 where
  pub first : opened s (marks s before) < i.number
  pub there : numbered i.number (incidents s (marks s (e ∷ before))) ≡ Some i
  pub at : i.at ≡ e.at
  pub setup : Setup
  pub in_force : force s (marks s before) ≡ Some setup
  pub steps : i.steps ≡ steps_of setup i.account i.class e.at

-- an entry of the history opened the incident, and acts that were recorded of it since meet each of its steps
pub record IsDoneSince (s : Summary) (h : List Entry) (number : ℕ) : Type 0 where
  pub later : List Entry
  pub opening : Entry
  pub before : List Entry
  pub parts : h ≡ later ++ opening ∷ before
  pub incident : Incident
  pub is_it : incident.number ≡ number
  pub opens : OpensIt s before opening incident
  pub met : MeetAll (acts_recorded number later) incident.steps

-- the incident was open at the beginning, and its acts then and those that were recorded of it since meet each of its steps
pub record IsDoneFrom (s : Summary) (h : List Entry) (number : ℕ) : Type 0 where
  pub incident : Incident
  pub there : numbered number s.incidents ≡ Some incident
  pub met : MeetAll (incident.acts ++ acts_recorded number h) incident.steps

-- In a legal history each entry with the reply Closed for an incident has before it acts on it that meet every step that the
-- incident had at its opening.
abbrev pub ClosesDone : Type 0
ClosesDone =
    (s : Summary) (h : List Entry) (e : Entry) (number : ℕ) → IsNumbered s → IsLegal s (e ∷ h)
    → closed_number e.reply ≡ Some number → IsDoneSince s h number ⊎ IsDoneFrom s h number
