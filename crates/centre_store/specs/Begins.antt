-- How a run begins over a history: with an Adopt of the setup's text, where another text is in force or none, and a Start.
use Rattle.std.specs.Prelude.{◌≡◌, ◌⊎◌, ℕ, List, ◌∷◌, Bool, true, false, if◌then◌else◌, Option, Some, None, IfSome, Result, IsErr}
use Rattle.std.specs.Str.{bytes_eq}
use Rattle.arc_data.specs.declared.event.Event.{Event}
use Rattle.arc_data.specs.declared.event.Event.TheVariants.{Adopt, Start}
use Rattle.arc_data.specs.declared.reply.Reply.TheVariants.{Adopted, Started}
use Rattle.arc_io.specs.Areas.{Areas}
use Rattle.arc_io.specs.Disks.{DiskSeen}
use Rattle.arc_io.specs.Crashes.{LeavesOnly}
use Rattle.centre_core.specs.declared.hall.Stop.{Stop}
use Rattle.centre_rules.specs.Summary.{Summary}
use Rattle.centre_rules.specs.Marks.{text}
use Rattle.centre_rules.specs.History.{Entry, Extends, marks, moment_after}
use Rattle.centre_store.specs.Bodies.{need_of}
use Rattle.centre_store.specs.Given.{StandForIn, summed_size}
use Rattle.centre_store.specs.Stores.{Stored, HasFailed, StoreStands, StandsOn, Shows, IsAsBefore}
use Rattle.centre_store.specs.Orders.{StopsInOrder}
use Rattle.centre_store.specs.Writes.{IsWrittenOn}

abbrev pub is_in_force : Option (List ℕ) → List ℕ → Bool
is_in_force None setup = false
is_in_force (Some other) setup = bytes_eq other setup

-- the history after the Adopt, where there is one
abbrev pub adopted_after : Summary → List Entry → List ℕ → ℕ → List Entry
adopted_after b h setup clock =
    if is_in_force (text b (marks b h)) setup then h
    else record { caller = 0; event = Adopt setup; at = moment_after b h clock; reply = Adopted } ∷ h

-- the history after the Start
abbrev pub begun_after : Summary → List Entry → List ℕ → ℕ → List Entry
begun_after b h setup clock =
    record { caller = 0; event = Start; at = moment_after b (adopted_after b h setup clock) clock; reply = Started }
    ∷ adopted_after b h setup clock

-- the one of the two events that is next where this text is in force, or none: the Adopt, until the setup's is, and then the Start
abbrev pub event_of_begin : Option (List ℕ) → List ℕ → Event
event_of_begin force setup = if is_in_force force setup then Start else Adopt setup

-- the areas stand for h, or for h with the Adopt, or for h with both
pub record StandsWithin (b : Summary) (h : List Entry) (setup : List ℕ) (clock : ℕ) (areas : Areas) : Type 0 where
  pub so_far : List Entry
  pub from_h : Extends h so_far
  pub to_begun : Extends so_far (begun_after b h setup clock)
  pub stands : StandForIn 2 b so_far areas

-- a crash at any moment from old to new leaves areas that stand so
abbrev pub LeavesWithin : {D : Type 0} → (D → DiskSeen) → Stored D → Stored D → List ℕ → ℕ → Type 0
LeavesWithin seen old new setup clock =
    (b : Summary) (h : List Entry) → StoreStands seen b old h → (HasFailed seen old → ⊥)
    → LeavesOnly (seen old.journal.disk) (seen new.journal.disk) (StandsWithin b h setup clock)

-- and so does what a read gives then
abbrev pub TellsWithin : {D : Type 0} → (D → DiskSeen) → Stored D → Stored D → List ℕ → ℕ → Type 0
TellsWithin seen old new setup clock =
    (b : Summary) (h : List Entry) → StoreStands seen b old h → (HasFailed seen old → ⊥)
    → IfSome (seen new.journal.disk).told (StandsWithin b h setup clock)

-- what the store shows after a stop, which the event met that is next by the text in force there
abbrev pub ShowsOfBegin : {D : Type 0} → (D → DiskSeen) → Stored D → List ℕ → ℕ → Stop → Type 0
ShowsOfBegin seen s setup clock stop = Shows seen s stop (event_of_begin s.state.sum.text setup) clock

-- the journal has the record of the Adopt
abbrev pub IsAdoptWritten : {D : Type 0} → (D → DiskSeen) → Stored D → Stored D → List ℕ → Type 0
IsAdoptWritten seen old s setup =
    (b : Summary) (h : List Entry) → StoreStands seen b old h
    → IsWrittenOn old.journal s.journal (summed_size b h) (need_of (Adopt setup))

-- An Adopt was to be made and met a stop: the store stands for what it stood for, and is as it was before the call.
pub record IsUnadopted {A D : Type 0} (seen : D → DiskSeen) (old new : Stored D) (setup : List ℕ) (r : Result A Stop) : Type 0 where
  pub other : is_in_force old.state.sum.text setup ≡ false
  pub stopped : IsErr r
  pub stands : StandsOn seen old new
  pub before : IsAsBefore old new r

-- The store between the two events: where there is no Adopt to make, the one before the call; else with the Adopt. Its disk has not
-- failed.
pub record HasAdopted {D : Type 0} (seen : D → DiskSeen) (old s : Stored D) (setup : List ℕ) (clock : ℕ) : Type 0 where
  pub stands : (b : Summary) (h : List Entry) → StoreStands seen b old h
      → StoreStands seen b s (adopted_after b h setup clock)
  pub same : is_in_force old.state.sum.text setup ≡ true → s ≡ old
  pub written : is_in_force old.state.sum.text setup ≡ false → IsAdoptWritten seen old s setup
  pub limits : s.journal.limits ≡ old.journal.limits
  pub up : HasFailed seen s → ⊥

-- The Start stops by the numbers of the store between the two events, and that store is as it was after the stop.
pub record StartsInOrder {A D : Type 0} (seen : D → DiskSeen)
    (old new : Stored D) (setup : List ℕ) (clock : ℕ) (r : Result A Stop) : Type 0 where
  pub between : Stored D
  pub adopted : HasAdopted seen old between setup clock
  pub order : StopsInOrder seen between Start clock r
  pub before : IsAsBefore between new r

-- Where an Adopt is to be made, it stops by the numbers of the store before it. It meets a stop, or it is made and the Start goes on.
pub record BeginsInOrder {A D : Type 0} (seen : D → DiskSeen)
    (old new : Stored D) (setup : List ℕ) (clock : ℕ) (r : Result A Stop) : Type 0 where
  pub adopt : is_in_force old.state.sum.text setup ≡ false → StopsInOrder seen old (Adopt setup) clock r
  pub start : IsUnadopted seen old new setup r ⊎ StartsInOrder seen old new setup clock r
