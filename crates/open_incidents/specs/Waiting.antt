-- The queue of the open incidents without a claimer, next to the list of those with one.
use Rattle.std.specs.Prelude.{◌≡◌, ◌≤◌, ℕ, List, Option, map, length, min}
use Rattle.std.specs.List.{filter, find}
use Rattle.std.specs.List.Sorted.{IsPermutation}
use Rattle.std.specs.Option.{option_map}
use Rattle.arc_data.specs.Classes.{priority_of}
use Rattle.arc_data.specs.Incidents.{has_number, Ascends}
use Rattle.arc_data.specs.declared.incident.Incident.{Incident}
use Rattle.centre_rules.specs.Desks.{is_free}
use Rattle.incidents.specs.declared.slots.Former.{Former}
use Rattle.incidents.specs.Tables.{TableValue, former_of}
use Rattle.operator_queue.specs.Pairs.{PairsValue}
use Rattle.open_incidents.specs.Holding.{HeldValue, IsHeldOf}

-- the priority of an incident's class, and its number
abbrev pub pair_of : Incident → ℕ × ℕ
pair_of i = (priority_of i.class, i.number)

-- the pairs of those of the incidents that have no claimer
abbrev pub waiting : List Incident → List (ℕ × ℕ)
waiting is = map pair_of (filter is_free is)

-- the queue has these pairs, in its own order, and memory for those of all the incidents
pub record IsQueueOf (is : List Incident) (queue : PairsValue) : Type 0 where
  pub same : IsPermutation (waiting is) queue.pairs
  pub memory : length is ≤ queue.room

-- the queue of those without a claimer, and the list of the others
pub record IsParted (is : List Incident) (queue : PairsValue) (held : HeldValue) : Type 0 where
  pub queue_of : IsQueueOf is queue
  pub held_of : IsHeldOf is held

-- what contracts see of a table with both: the table, and room where all three have it
abbrev pub with_queue : TableValue → PairsValue → HeldValue → TableValue
with_queue t queue held = record t { room = min (min t.room queue.room) held.room }

-- the incidents stand in order of number, and that of this number, where there is one, was so
pub record WasIn (is : List Incident) (number : ℕ) (former : Option Former) : Type 0 where
  pub opened : ℕ
  pub ascends : Ascends 0 is opened
  pub found : former ≡ option_map former_of (find (has_number number) is)
