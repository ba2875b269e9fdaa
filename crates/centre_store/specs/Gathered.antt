-- What is gathered of a batch, before its records are written, and why no further one is.
use Rattle.std.specs.Prelude.{◌≡◌, ◌≤◌, ◌<◌, ◌+◌, ◌^◌, ◌++◌, ℕ, List, [], ◌∷◌, length, true, Option, Some, None}
use Rattle.centre_core.specs.Setting.{IsShown}
use Rattle.centre_core.specs.declared.hall.Stop.{Stop}
use Rattle.centre_core.specs.declared.hall.Stop.TheVariants.{Memory}
use Rattle.centre_core.specs.declared.ready.Done.{Done}
use Rattle.centre_rules.specs.History.{Entry, is_recorded}
use Rattle.centre_rules.specs.State.{State, StandsFor, Plan}
use Rattle.centre_rules.specs.Summary.{Summary}
use Rattle.disk_journal.specs.Faults.{IsOverWithAll}
use Rattle.disk_journal.specs.Journal.{room_of}
use Rattle.disk_journal.specs.Records.{MayAllHave, need_of_all}
use Rattle.disk_journal.specs.declared.journal.Journal.{Journal}
use Rattle.centre_store.specs.Bodies.{need_of}
use Rattle.centre_store.specs.Calls.{Submission}
use Rattle.centre_store.specs.Groups.{with_all, dones_of, bodies_by, AreSpelledBy}
use Rattle.centre_store.specs.Stores.{IsToRecord}
use Rattle.centre_store.specs.declared.gather.End.{End}
use Rattle.centre_store.specs.declared.gather.End.TheVariants.{Empty, NoRoom, Stopped}

-- the state is that of some history over some beginning
pub record HasHistory (s : State) : Type 0 where
  pub base : Summary
  pub history : List Entry
  pub stands : StandsFor base s history

-- A caller's events have their entries, one after another: t is what these make of the state, what is told of each stands behind what was
-- told before, and the body of each that is recorded behind the bodies before.
pub record AreTakenUp (caller : ℕ) (calls : List Submission) (s t : State)
    (bodies further : List (List ℕ)) (dones told : List Done) : Type 0 where
  pub stands : (b : Summary) (h : List Entry) → StandsFor b s h → StandsFor b t (with_all caller b h calls)
  pub told_is : (b : Summary) (h : List Entry) → StandsFor b s h → told ≡ dones ++ dones_of caller b h calls
  pub bodies_are : (b : Summary) (h : List Entry) → StandsFor b s h → further ≡ bodies ++ bodies_by caller b h calls
  pub spelled : (b : Summary) (h : List Entry) → StandsFor b s h → AreSpelledBy caller b h calls
  pub count : length told ≡ length dones + length calls
  pub few : length further ≤ length bodies + length calls
  pub entries : t.entries ≡ s.entries + length calls
  pub bound : s.entries ≤ 2 ^ 48 → t.entries ≤ 2 ^ 48
  pub text : t.sum.text ≡ s.sum.text

-- so many bytes and records more, of these bodies, would pass a limit of the journal
abbrev pub AreOverAt : {D : Type 0} → Journal D → ℕ → ℕ → Type 0
AreOverAt j need count = IsOverWithAll j.used need j.records count j.limits.bytes j.limits.records

-- The journal can take the records of these bodies together: each may be one, there is room to join them in, and they pass no limit.
pub record HasRoomForAll {D : Type 0} (j : Journal D) (bodies : List (List ℕ)) : Type 0 where
  pub sizes : MayAllHave bodies
  pub joined : need_of_all bodies ≤ room_of j
  pub fit : 1 ≤ length bodies → AreOverAt j (need_of_all bodies) (length bodies) → ⊥

-- it can't take a further one together with these: that of an event which would be recorded
pub record HasNoRoomBeside {D : Type 0} (j : Journal D) (s : State) (bodies : List (List ℕ)) (call : Submission) : Type 0 where
  pub over : AreOverAt j (need_of_all bodies + need_of call.event) (length bodies + 1)
  pub may_be : s.entries < 2 ^ 48
  pub to_record : (b : Summary) (h : List Entry) → StandsFor b s h → IsToRecord b h call.event call.clock

-- the stop in it, where it is one
abbrev pub stop_of_end : End → Option Stop
stop_of_end (Stopped stop) = Some stop
stop_of_end end = None

-- why no further one is gathered: none is left; the first of those that are left has no room; want of memory, or too many entries
abbrev pub ShowsOfEnd : {D : Type 0} → Journal D → State → List (List ℕ) → List Submission → End → Type 0
ShowsOfEnd j s bodies left Empty = left ≡ []
ShowsOfEnd j s bodies left NoRoom =
    (call : Submission) × (later : List Submission) × (left ≡ call ∷ later) × HasNoRoomBeside j s bodies call
ShowsOfEnd j s bodies left (Stopped stop) = IsShown s stop

-- why the body of what is ready was not put behind these
abbrev pub IsUnlaid : {D : Type 0} → Journal D → List (List ℕ) → Plan → End → Type 0
IsUnlaid j bodies p Empty = ⊥
IsUnlaid j bodies p NoRoom = AreOverAt j (need_of_all bodies + need_of p.event) (length bodies + 1) × (is_recorded p.reply ≡ true)
IsUnlaid j bodies p (Stopped stop) = stop ≡ Memory
