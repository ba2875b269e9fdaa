-- Calls of a store with events, each known by its clauses alone, and what a crash at any moment of a run of them leaves.
use Rattle.std.specs.Prelude.{◌≡◌, ◌<◌, ◌≤◌, ◌^◌, ◌⊎◌, ℕ, List, [], ◌∷◌}
use Rattle.arc_data.specs.WellFormed.{IsWellFormed}
use Rattle.arc_data.specs.declared.event.Event.{Event}
use Rattle.arc_data.specs.declared.reply.Reply.{Reply}
use Rattle.arc_io.specs.Areas.{Areas}
use Rattle.arc_io.specs.Causes.{Rose}
use Rattle.arc_io.specs.Disks.{DiskSeen}
use Rattle.arc_io.specs.Crashes.{LeavesOnly}
use Rattle.centre_rules.specs.Summary.{Summary}
use Rattle.centre_rules.specs.Answers.{answer}
use Rattle.centre_rules.specs.History.{Entry, Extends, IsMoment, moment_after}
use Rattle.event_codec.specs.Spelling.{spelling}
pub use Rattle.centre_core.specs.declared.batch.Submission.{Submission}
use Rattle.centre_store.specs.Given.{StandForIn, StandForEither, HasEither}
use Rattle.centre_store.specs.Stores.{Stored, HasFailed, StoreStands, IsNextKept, Takes, IsToRecord, IsSameJournal}

-- What is so of a call of `submit` with the event, whatever it answers, where it may be made and the disk has not failed before.
pub record Submits {D : Type 0} (seen : D → DiskSeen) (old new : Stored D) (event : Event) (clock : ℕ) : Type 0 where
  pub formed : IsWellFormed event
  pub moment : IsMoment clock
  pub few : old.state.entries < 2 ^ 48
  pub any_moment : (b : Summary) (h : List Entry) → StoreStands seen b old h
      → LeavesOnly (seen old.journal.disk) (seen new.journal.disk) (StandForEither b h (spelling event (moment_after b h clock)))
  pub met : (b : Summary) (h : List Entry) → StoreStands seen b old h
      → HasEither (seen new.journal.disk) b h (spelling event (moment_after b h clock))
  pub unrecorded : (b : Summary) (h : List Entry) → StoreStands seen b old h → (IsToRecord b h event clock → ⊥)
      → IsSameJournal old.journal new.journal

-- it answers Ok
pub record Enters {D : Type 0} (seen : D → DiskSeen) (old new : Stored D) (event : Event) (clock : ℕ) : Type 0 where
  pub submits : Submits seen old new event clock
  pub at : ℕ
  pub reply : Reply
  pub takes : (b : Summary) (h : List Entry) → StoreStands seen b old h
      → Takes seen b new h clock (record { caller = 0; event = event; at = at; reply = reply })
  pub up : HasFailed seen new → ⊥

-- A run of calls.

-- its entry after a history: the answer of one thread
abbrev pub entry_after : Summary → List Entry → Event → ℕ → Entry
entry_after b h event clock =
    let at = moment_after b h clock in record { caller = 0; event = event; at = at; reply = answer b h event at }

-- the history with the entries of these, of which the newest stands first
abbrev pub entered : Summary → List Entry → List Submission → List Entry
entered b h [] = h
entered b h (call ∷ earlier) = entry_after b (entered b h earlier) call.event call.clock ∷ entered b h earlier

-- each of them was answered by Ok, from the first store to the last
abbrev pub AreEntered : {D : Type 0} → (D → DiskSeen) → Stored D → List Submission → Stored D → Type 0
AreEntered {D} seen first [] last = last ≡ first
AreEntered {D} seen first (call ∷ earlier) last =
    (old : Stored D) × AreEntered seen first earlier old × Enters seen old last call.event call.clock

-- each but the newest, of which any answer came
abbrev pub AreSubmitted : {D : Type 0} → (D → DiskSeen) → Stored D → List Submission → Stored D → Type 0
AreSubmitted {D} seen first [] last = last ≡ first
AreSubmitted {D} seen first (call ∷ earlier) last =
    (old : Stored D) × AreEntered seen first earlier old × Submits seen old last call.event call.clock

-- the areas stand for a history that begins with h, and x begins with it
pub record StandsBetween (b : Summary) (h x : List Entry) (areas : Areas) : Type 0 where
  pub so_far : List Entry
  pub from_h : Extends h so_far
  pub to_x : Extends so_far x
  pub stands : StandForIn 2 b so_far areas

-- A crash at any moment from t of the disk's clock on leaves areas that stand for a history that begins with k, and with which h
-- begins: all that k has recorded is left, and nothing past h. Where the disk has failed since it had so many faults, the event that
-- met the fault may be left, too: its entry is the next one of h.
pub record LeavesFrom (t : ℕ) (k : List Entry) (faults : ℕ) (disk : DiskSeen) (b : Summary) (h : List Entry) : Type 0 where
  pub later : t ≤ disk.moment
  pub extends : Extends k h
  pub furthest : List Entry
  pub is : (furthest ≡ h) ⊎ (Rose faults disk.faults × (e : Entry) × IsNextKept b h e × (furthest ≡ e ∷ h))
  pub each : (c : Areas) → disk.left_since t c → StandsBetween b k furthest c

-- Of a store that stands for h, and of any events that are submitted then one after another: a crash at any moment from there on, within
-- any of the calls, leaves the recorded entries of h and of some first ones of the events, each of which has the answer of one thread.
abbrev pub RunsLeaveAll : {D : Type 0} → (D → DiskSeen) → Type 0
RunsLeaveAll {D} seen =
    (b : Summary) (h : List Entry) (first last : Stored D) (calls : List Submission)
    → StoreStands seen b first h → (HasFailed seen first → ⊥) → AreSubmitted seen first calls last
    → LeavesOnly (seen first.journal.disk) (seen last.journal.disk) (StandsBetween b h (entered b h calls))
