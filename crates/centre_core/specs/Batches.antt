-- Events that are submitted together: what a batch has, their entries, and what is answered of them.
use Rattle.std.specs.Prelude.{◌≤◌, ℕ, List, [], ◌∷◌, Option, None, Some, All, length}
use Rattle.arc_data.specs.WellFormed.{IsWellFormed}
use Rattle.centre_rules.specs.Summary.{Summary}
use Rattle.centre_rules.specs.Answers.{answer}
use Rattle.centre_rules.specs.History.{Entry, IsMoment, moment_after}
use Rattle.centre_core.specs.Runs.{IsSubmitted}
use Rattle.centre_core.specs.declared.batch.Submission.{Submission}
use Rattle.centre_core.specs.declared.hall.Stop.{Stop}
use Rattle.centre_core.specs.declared.hall.Stop.TheVariants.{Down}
use Rattle.centre_core.specs.declared.ready.Done.{Done}

-- an event that a caller may submit at a reading of the clock
pub record MayBeSubmitted (call : Submission) : Type 0 where
  pub submitted : IsSubmitted call.event
  pub formed : IsWellFormed call.event
  pub clock : IsMoment call.clock

-- a batch: at most 64 of these, the first one first
pub record IsBatch (calls : List Submission) : Type 0 where
  pub few : length calls ≤ 64
  pub each : All MayBeSubmitted calls

-- the entry of a caller's event after a history: its moment and reply are those of one thread
abbrev pub entry_by : ℕ → Summary → List Entry → Submission → Entry
entry_by caller b h call =
    let at = moment_after b h call.clock in record { caller = caller; event = call.event; at = at; reply = answer b h call.event at }

-- the history with the entries of these, which a caller submitted one after another, the first one first
abbrev pub with_all : ℕ → Summary → List Entry → List Submission → List Entry
with_all caller b h [] = h
with_all caller b h (call ∷ later) = with_all caller b (entry_by caller b h call ∷ h) later

-- what the caller is told of an entry
abbrev pub done_of : Entry → Done
done_of e = record { caller = e.caller; at = e.at; reply = e.reply }

-- and of each of these, the first one first
abbrev pub dones_of : ℕ → Summary → List Entry → List Submission → List Done
dones_of caller b h [] = []
dones_of caller b h (call ∷ later) =
    let e = entry_by caller b h call in done_of e ∷ dones_of caller b (e ∷ h) later

-- their entries, the first one first
abbrev pub entries_by : ℕ → Summary → List Entry → List Submission → List Entry
entries_by caller b h [] = []
entries_by caller b h (call ∷ later) =
    let e = entry_by caller b h call in e ∷ entries_by caller b (e ∷ h) later

-- the stop is Down
abbrev pub IsDown : Stop → Type 0
IsDown (Down at_open now) = Unit {0}
IsDown stop = ⊥

-- the answer to them stopped by Down
abbrev pub IsDownThen : Option Stop → Type 0
IsDownThen None = ⊥
IsDownThen (Some stop) = IsDown stop
