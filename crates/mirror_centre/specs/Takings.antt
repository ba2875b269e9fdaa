-- What a mirror makes of an answer.
use Rattle.std.specs.Prelude.{◌≡◌, ◌⊎◌, ◌<◌, ◌+◌, ℕ, List, true, Option, Some, None, is_some, Result, Ok, Err}
use Rattle.std.specs.Prelude.{if◌then◌else◌, nat_eq, nat_le}
use Rattle.arc_io.specs.Disks.{DiskSeen}
use Rattle.arc_io.specs.Crashes.{LeavesOnly}
use Rattle.centre_core.specs.declared.hall.Stop.{Stop}
use Rattle.centre_rules.specs.Summary.{Summary}
use Rattle.centre_rules.specs.History.{Entry}
use Rattle.centre_store.specs.Followings.{TakesIn}
use Rattle.centre_store.specs.Given.{StandForEither, HasEither}
use Rattle.centre_store.specs.Stores.{Stored, StoreStands, StandsOn}
use Rattle.mirror_centre.specs.Messages.{Answer, Record, End, Summed, IsAnswer, IsNoAnswer}
use Rattle.mirror_centre.specs.declared.mirror.Took.{Took}
use Rattle.mirror_centre.specs.declared.mirror.Took.TheVariants.{Added, Old, Idle, Behind, Strange}

-- What a mirror with so many recorded entries makes of an answer; none where this is the record of the next one.
abbrev pub passed_by : ℕ → Answer → Option Took
passed_by have (Record number body) = if nat_eq number (have + 1) then None else Some Old
passed_by have End = Some Idle
passed_by have (Summed count) = if nat_le count have then Some Old else Some (Behind have count)

-- the bytes are the record of the entry behind so many, with this body
abbrev pub IsNextRecord : ℕ → List ℕ → List ℕ → Type 0
IsNextRecord have message body = IsAnswer message (Record (have + 1) body)

-- The message is no answer, and strange; or it is an answer, and not the record of the next entry.
abbrev pub IsPassed : ℕ → List ℕ → Took → Type 0
IsPassed have message took =
    (IsNoAnswer message × (took ≡ Strange)) ⊎ ((a : Answer) × IsAnswer message a × (passed_by have a ≡ Some took))

-- what the message is by the outcome of taking it, where so many entries were recorded
abbrev pub IsTold : ℕ → List ℕ → Took → Type 0
IsTold have message Added = (body : List ℕ) × IsNextRecord have message body
IsTold have message Old = (a : Answer) × IsAnswer message a × (passed_by have a ≡ Some Old)
IsTold have message Idle = IsAnswer message End
IsTold have message (Behind so_many count) = (so_many ≡ have) × (have < count) × IsAnswer message (Summed count)
IsTold have message Strange = IsNoAnswer message ⊎ ((body : List ℕ) × IsNextRecord have message body)

-- the record of the next entry was taken in or strange, or it met a stop
abbrev pub IsOfNext : Result Took Stop → Type 0
IsOfNext (Ok took) = (took ≡ Added) ⊎ (took ≡ Strange)
IsOfNext (Err stop) = Unit {0}

-- What is so behind a call of a mirror with the record of the next entry, whatever it answers: the entry is recorded, or the mirror stands
-- for what it stood for. A crash at any moment of it leaves the records from before it, or them and this one.
pub record Tries {D : Type 0} (seen : D → DiskSeen) (old new : Stored D) (body : List ℕ) : Type 0 where
  pub behind : StandsOn seen old new ⊎ ((b : Summary) (h : List Entry) → StoreStands seen b old h → TakesIn seen b new h body)
  pub any_moment : (b : Summary) (h : List Entry) → StoreStands seen b old h
      → LeavesOnly (seen old.journal.disk) (seen new.journal.disk) (StandForEither b h body)
  pub met : (b : Summary) (h : List Entry) → StoreStands seen b old h → HasEither (seen new.journal.disk) b h body

-- What is so behind a call of a mirror with a message, where its disk has not failed before: each other answer changes nothing.
pub record Receives {D : Type 0} (seen : D → DiskSeen) (old new : Stored D) (message : List ℕ) : Type 0 where
  pub passed : (a : Answer) → IsAnswer message a → is_some (passed_by old.state.sum.recorded a) ≡ true → new ≡ old
  pub next : (body : List ℕ) → IsNextRecord old.state.sum.recorded message body → Tries seen old new body
