-- Places for incidents, of which some are closed.
use Rattle.std.specs.Prelude.{◌≡◌, ℕ, ◌+◌, ◌-◌, ◌&&◌, List, Bool, true, false, if◌then◌else◌}
use Rattle.std.specs.Prelude.{Option, Some, None, length, map, nat_lt}
use Rattle.std.specs.List.{filter, filter_map}
use Rattle.std.specs.List.Sorted.{IsPartitionPoint}
use Rattle.arc_data.specs.Incidents.{has_number, Ascends}
use Rattle.arc_data.specs.declared.incident.Incident.{Incident}
use Rattle.incidents.specs.declared.slots.Slot.{Slot}
use Rattle.incidents.specs.Tables.{held}

-- the incidents that are open, and for how many open ones there is memory, these included
pub record SlotsValue : Type 0 where
  pub incidents : List Incident
  pub room : ℕ

-- the incident that is open at a place
abbrev pub standing : Slot → Option Incident
standing s = if s.is_open then Some s.incident else None

-- the incidents that are open
abbrev pub open_of : List Slot → List Incident
open_of slots = filter_map standing slots

-- the closed ones too
abbrev pub all_of : List Slot → List Incident
all_of slots = map (λ s. s.incident) slots

-- the open ones, and what memory is left behind all places
abbrev pub room_of : List Slot → ℕ → ℕ
room_of slots memory = length (open_of slots) + (memory - length slots)

-- numbers rise over all places, up to one, and so many are open
pub record AreSlots (count highest : ℕ) (slots : List Slot) : Type 0 where
  pub rise : Ascends 0 (all_of slots) highest
  pub counted : count ≡ length (open_of slots)

-- Numbers.

-- the numbers rise over all places
abbrev pub Rise : List Slot → Type 0
Rise slots = (high : ℕ) × Ascends 0 (all_of slots) high

abbrev pub is_below : ℕ → Slot → Bool
is_below number s = nat_lt s.incident.number number

-- numbers before this place are below one, and from it on they are not
abbrev pub IsCut : ℕ → List Slot → ℕ → Type 0
IsCut number slots place = IsPartitionPoint (λ s. is_below number s ≡ true) (λ s. is_below number s ≡ false) slots place

-- the incident of this number is open at this place
abbrev pub has_open : ℕ → Slot → Bool
has_open number s = s.is_open && has_number number s.incident

-- What calls do.

-- without the closed ones, where that is wanted
abbrev pub thinned : Bool → List Slot → List Slot
thinned wanted slots = if wanted then filter (λ s. s.is_open) slots else slots

-- nobody holds the incident, whether it is open or not
abbrev pub released : Slot → Slot
released s = record s { incident = held None 0 s.incident }
