-- What callers see of events that a pass submits together, and of a gate that is closed behind such events.
use Rattle.std.specs.Prelude.{◌≡◌, ◌≤◌, ◌⊎◌, ℕ, List, [], ◌∷◌, ◌++◌, Some, map, reverse}
use Rattle.arc_io.specs.Causes.{Rose}
use Rattle.arc_io.specs.Disks.{DiskSeen}
use Rattle.centre_rules.specs.Summary.{Summary}
use Rattle.centre_core.specs.declared.batch.Submission.{Submission}
use Rattle.centre_core.specs.declared.ready.Done.{Done}
use Rattle.centre_store.specs.Stores.{Stored, HasFailed, StoreStands}
use Rattle.line_gate.specs.Entries.{Entry, Extends}
use Rattle.line_gate.specs.Passes.{PassSeen, MakesAll}
use Rattle.line_gate.specs.Terms.{Terms, IsPastBase}
use Rattle.line_gate.specs.UnderLock.{IsBroken}
use Rattle.line_gate.specs.declared.closed.GroupClosed.{GroupClosed}
use Rattle.line_gate.specs.declared.closed.GroupClosed.TheVariants.{Whole, Broken}

-- the entry of an event, as its caller was told of it
abbrev pub told_entry : Submission → Done → Entry
told_entry call d = record { caller = d.caller; event = call.event; at = d.at; reply = d.reply }

-- those of these events, as far as their caller was told of them, the newest first
abbrev pub told_entries : List Submission → List Done → List Entry
told_entries [] dones = []
told_entries (call ∷ calls) [] = []
told_entries (call ∷ calls) (d ∷ dones) = told_entries calls dones ++ told_entry call d ∷ []

-- the readings at which these were submitted, the newest first
abbrev pub clocks_of : List Submission → List ℕ
clocks_of calls = reverse (map (λ call. call.clock) calls)

-- What the pass has seen after the call ends with the entries of these events, all of them together, in order; these are the ones that it
-- made in the call, and each has the moment and the reply of one thread.
abbrev pub MakesTold : Terms → PassSeen → PassSeen → List Submission → List Done → Type 0
MakesTold t p q calls dones = MakesAll t p q (clocks_of calls) (told_entries calls dones)

-- the gate was closed with this pass: the store stands for a history that begins with all that the pass has seen
pub record IsClosed {D : Type 0} (seen : D → DiskSeen) (t : Terms) (last : PassSeen) (s : Stored D) : Type 0 where
  pub stands : (b : Summary) (base : List Entry) → t.stood b base
      → (h : List Entry) × Extends (last.since ++ base) h × StoreStands seen b s h × IsPastBase base h
  pub told_is : last.told ≤ (seen s.journal.disk).faults
  pub at_open : s.at_open ≡ t.at_open
  pub limits : s.journal.limits ≡ t.limits
  pub text : s.state.sum.text ≡ Some t.text

-- the store stands for such a history, or is broken
abbrev pub IsClosedOrBroken : {D : Type 0} → (D → DiskSeen) → Terms → PassSeen → Stored D → Type 0
IsClosedOrBroken seen t last s =
    ((b : Summary) (base : List Entry) → t.stood b base
    → (h : List Entry) × Extends (last.since ++ base) h × StoreStands seen b s h × IsPastBase base h)
    ⊎ IsBroken seen t s

-- of a store whose disk has not failed
pub record IsClosedWhole {D : Type 0} (seen : D → DiskSeen) (t : Terms) (last : PassSeen) (s : Stored D) : Type 0 where
  pub closed : IsClosed seen t last s
  pub up : HasFailed seen s → ⊥

-- of a disk that has failed since the opening
pub record IsClosedBroken {D : Type 0} (seen : D → DiskSeen) (t : Terms) (last : PassSeen) (disk : D) (at_open now : ℕ) : Type 0 where
  pub at_open_is : at_open ≡ t.at_open
  pub now_is : now ≡ (seen disk).faults
  pub rose : Rose at_open now
  pub told_is : last.told ≤ now

-- what comes of closing a gate with groups
abbrev pub ClosesGroup : {D : Type 0} → (D → DiskSeen) → Terms → PassSeen → GroupClosed D → Type 0
ClosesGroup seen t last (Whole s) = IsClosedWhole seen t last s
ClosesGroup seen t last (Broken disk at_open now) = IsClosedBroken seen t last disk at_open now
