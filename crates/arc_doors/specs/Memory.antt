-- What the forms in memory tell, and what their calls do.
use Rattle.std.specs.Prelude.{◌≡◌, ◌↔◌, ℕ, List, map, reverse, take, drop, Option, Some, Result, Contains, IsErr, is_err, if◌then◌else◌}
use Rattle.arc_io.specs.Causes.{next_count}
use Rattle.arc_io.specs.declared.traits.Ends.{Ghosts}
use Rattle.arc_io.specs.declared.traits.Failed.{Failed}
use Rattle.arc_doors.specs.Doors.{Links, DoorSeen}
use Rattle.arc_doors.specs.Pulses.{Moments}
use Rattle.arc_doors.specs.declared.memory.door.MemDoor.{MemDoor}
use Rattle.arc_doors.specs.declared.memory.pulse.ListPulse.{ListPulse}

-- the numbers of the calls that are to fail
abbrev pub door_failing : {P : Type 0} {G : Ghosts P} → MemDoor P G → List ℕ
door_failing d = d.failing.items

-- how many calls were made
abbrev pub door_calls : {P : Type 0} {G : Ghosts P} → MemDoor P G → ℕ
door_calls d = d.calls

abbrev pub door_faults : {P : Type 0} {G : Ghosts P} → MemDoor P G → ℕ
door_faults d = d.faults

-- the ports that were got back
abbrev pub door_back : {P : Type 0} {G : Ghosts P} → MemDoor P G → List P
door_back d = d.back.items

-- its links, by what each port tells
abbrev pub door_links : {P : Type 0} {G : Ghosts P} → MemDoor P G → Links
door_links {G} d = record {
  left = map G.seen (reverse d.left.items);
  given = map G.seen (map (λ s. s.value) d.given.items);
  back = map G.seen d.back.items;
}

abbrev pub door_seen : {P : Type 0} {G : Ghosts P} → MemDoor P G → DoorSeen
door_seen d = record { links = Some (door_links d); faults = door_faults d }

-- a call that takes a link: it fails exactly where its number is listed
pub record DoorCall {P : Type 0} {G : Ghosts P} (before after : MemDoor P G) (result : Result (Option P) Failed) : Type 0 where
  pub failing : door_failing after ≡ door_failing before
  pub calls : door_calls after ≡ next_count (door_calls before)
  pub fails : IsErr result ↔ Contains (door_failing before) (door_calls after)
  pub faults : door_faults after ≡ (if is_err result then next_count (door_faults before) else door_faults before)

-- the list is given from its front on
abbrev pub pulse_moments : ListPulse → Moments
pulse_moments p = record { left = drop p.at p.moments.items; given = take p.at p.moments.items }
