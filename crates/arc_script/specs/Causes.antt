-- For which event a line of a script was stopped.
use Rattle.std.specs.Prelude.{◌≡◌, ◌⊎◌, ℕ, suc, List, [], ◌∷◌, Option, Some, None}
use Rattle.alarm_rules.specs.Setups.{meaning}
use Rattle.arc_data.specs.declared.event.Event.{Event}
use Rattle.arc_data.specs.declared.event.Event.TheVariants.{Message as Sent, Tick}
use Rattle.arc_data.specs.declared.event.Message.{Message as Telling}
use Rattle.arc_io.specs.Disks.{DiskSeen}
use Rattle.centre_core.specs.declared.hall.Stop.{Stop}
use Rattle.centre_core.specs.declared.hall.Stop.TheVariants.{Memory}
use Rattle.centre_rules.specs.History.{Entry}
use Rattle.centre_rules.specs.Summary.{Summary}
use Rattle.centre_store.specs.Begins.{begun_after, event_of_begin}
use Rattle.centre_store.specs.Given.{HasRecorded}
use Rattle.centre_store.specs.StoreHalls.{store_seen}
use Rattle.centre_store.specs.Stores.{HasFailed, Stored, Shows}
use Rattle.dc09_message.specs.Verdicts.{verdict_of}
use Rattle.desk_session.specs.Events as Desk
use Rattle.desk_session.specs.declared.desk_end.DeskEnd.{DeskEnd}
use Rattle.desk_session.specs.declared.desk_end.DeskEnd.TheVariants.{Stopped}
use Rattle.line_session.specs.Turns as Line
use Rattle.script_lines.specs.Lines.{Asked, Time, Feed, Message, Command, Reopen}
use Rattle.arc_script.specs.Fed.{clock_of, desk_read}
use Rattle.arc_script.specs.Names.{line_name}

-- What a store that stands for a history over a summary shows of a stop at a moment: an event that is one of these met it, and the areas
-- have the recorded entries, or these and the body of just that event, at its moment. Or memory was wanted: the areas have the recorded
-- entries alone, unless it was for a message and the disk has failed.
abbrev pub HasShown : {D : Type 0} → (D → DiskSeen) → Summary → Stored D → List Entry → Stop → ℕ → (Event → Type 0) → Type 0
HasShown seen base s h stop moment IsOne =
    ((stop ≡ Memory)
    × (HasRecorded (seen s.journal.disk) base h ⊎ (HasFailed seen s × (m : Telling) × (via : List ℕ) × IsOne (Sent m via))))
    ⊎ ((event : Event) × IsOne event × Shows seen s stop event moment × (store_seen seen s).torn base h event moment)

-- How many frames a line was fed until it was stopped for this, where so many have their turns: the one that was stopped, too, or none more
-- where memory was wanted before a frame or for a reply.
abbrev pub IsSentFor : Stop → ℕ → ℕ → Type 0
IsSentFor stop count sent = (sent ≡ suc count) ⊎ ((stop ≡ Memory) × (sent ≡ count))

-- a `T`, by the moment that was set before: the first begins a run where this text is in force, or none, and ticks once it is the setup's;
-- each other ticks
abbrev pub IsOfTime : Option (List ℕ) → Option ℕ → List ℕ → Event → Type 0
IsOfTime force None setup event = (event ≡ event_of_begin force setup) ⊎ ((force ≡ Some setup) × (event ≡ Tick))
IsOfTime force (Some last) setup event = event ≡ Tick

-- the first of the frames that have no turn: the event of its verdict at this moment, by the line that was fed it
abbrev pub IsOfFrame : List ℕ → ℕ → ℕ → List (List ℕ) → Event → Type 0
IsOfFrame setup clock line [] event = ⊥
IsOfFrame setup clock line (body ∷ more) event = Line.event_of (line_name line) (verdict_of (meaning setup) clock body) ≡ Some event

-- a command, for the operator who logged in last since the desk was made anew
abbrev pub IsOfCommand : List ℕ → List Asked → ℕ → List ℕ → Event → Type 0
IsOfCommand setup before desk text event =
    Desk.event_of (Desk.acts_over (meaning setup) None (desk_read desk before)) (Desk.command_in text) ≡ Some event

-- Behind what was asked before, the next line submits this event at this moment: of `L` and `M`, where these frames have no turn; of `X`
-- and of the first `T`, where this text is in force, or none.
abbrev pub Submits : Option (List ℕ) → List ℕ → List Asked → ℕ → List (List ℕ) → Asked → Event → Type 0
Submits force setup before clock waiting (Time moment) event = IsOfTime force (clock_of before) setup event
Submits force setup before clock waiting (Feed line digits) event = IsOfFrame setup clock line waiting event
Submits force setup before clock waiting (Message line body) event = IsOfFrame setup clock line waiting event
Submits force setup before clock waiting (Command desk text) event = IsOfCommand setup before desk text event
Submits force setup before clock waiting Reopen event = event ≡ event_of_begin force setup

-- So it is of a history; or, where the event that was stopped may be one by which a run begins, of that history with all by which it does.
abbrev pub OrBegun : (List Entry → Type 0) → (Event → Type 0) → Option (List ℕ) → Summary → List ℕ → ℕ → List Entry → Type 0
OrBegun IsSo IsOne force base setup clock x =
    IsSo x ⊎ (IsOne (event_of_begin force setup) × IsSo (begun_after base x setup clock))

-- the stop for which a desk ended; the other ends that it has on a page are for want of memory
abbrev pub stop_in : DeskEnd → Stop
stop_in (Stopped stop) = stop
stop_in end = Memory
