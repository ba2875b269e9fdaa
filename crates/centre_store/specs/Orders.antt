-- When Down stops an event, and when Worn and Full do, by the numbers of the store before it.
use Rattle.std.specs.Prelude.{◌≡◌, ◌≤◌, ◌<◌, ◌⊎◌, ◌↔◌, ◌^◌, ℕ, List, Result, Err}
use Rattle.arc_data.specs.declared.event.Event.{Event}
use Rattle.arc_io.specs.Disks.{DiskSeen}
use Rattle.centre_rules.specs.Summary.{Summary}
use Rattle.centre_rules.specs.History.{Entry}
use Rattle.centre_core.specs.declared.hall.Stop.{Stop}
use Rattle.centre_core.specs.declared.hall.Stop.TheVariants.{Memory, Down, Full, Worn}
use Rattle.centre_store.specs.Bodies.{need_of}
use Rattle.centre_store.specs.Given.{summed_size}
use Rattle.centre_store.specs.Stores.{Stored, HasFailed, StoreStands, IsToRecord, IsOverWith}

-- Down comes exactly where the store shows at the end that the disk has failed.
abbrev pub IsDownWhereFailed : {A D : Type 0} → (D → DiskSeen) → Stored D → Result A Stop → Type 0
IsDownWhereFailed seen s r = HasFailed seen s ↔ (r ≡ Err (Down s.at_open (seen s.journal.disk).faults))

-- As long as the disk has not failed, Worn comes first: it does where there are 2^48 entries or more.
abbrev pub IsWornFirst : {A D : Type 0} → (D → DiskSeen) → Stored D → Result A Stop → Type 0
IsWornFirst seen s r = (HasFailed seen s → ⊥) → 2 ^ 48 ≤ s.state.entries → r ≡ Err (Worn s.state.entries)

-- With fewer, Full comes, want of memory aside, where the event is to be recorded and its record would pass a limit of the journal, behind
-- a checkpoint too.
abbrev pub IsFullThen : {A D : Type 0} → (D → DiskSeen) → Stored D → Event → ℕ → Result A Stop → Type 0
IsFullThen seen s event clock r =
    (HasFailed seen s → ⊥) → s.state.entries < 2 ^ 48 → (b : Summary) (h : List Entry)
    → StoreStands seen b s h → IsToRecord b h event clock → IsOverWith s (summed_size b h) (need_of event)
    → (r ≡ Err Memory) ⊎ (r ≡ Err (Full (summed_size b h) (need_of event) 0))

-- the one and then the other
pub record StopsInOrder {A D : Type 0} (seen : D → DiskSeen) (s : Stored D) (event : Event) (clock : ℕ) (r : Result A Stop) : Type 0 where
  pub worn : IsWornFirst seen s r
  pub full : IsFullThen seen s event clock r
