-- When the bell rings.
use Rattle.std.specs.Prelude.{ℕ, ◌+◌, ◌-◌, ◌==◌, List, [], ◌∷◌, Bool, false, not, ◌&&◌, Option, is_some, is_none, min, nat_le}
use Rattle.std.specs.Prelude.{if◌then◌else◌}
use Rattle.std.specs.List.{list_any}
use Rattle.arc_data.specs.Classes.{priority_of}
use Rattle.arc_data.specs.declared.listing.Row.{Row}
use Rattle.arc_data.specs.declared.signal.Class.{Class}
use Rattle.desk_said.specs.declared.said.Said.{Said}
use Rattle.desk_said.specs.declared.said.Said.TheVariants.{Listed}
use Rattle.desk_screen.specs.Inputs.{Input, Key, Answer, Second, Made, Lost, Sitting, is_second}
use Rattle.desk_screen.specs.Orders.{user}
use Rattle.desk_screen.specs.declared.queue.Waiting.{Waiting}

-- an incident of priority 1 or 2
abbrev pub is_urgent : Class → Bool
is_urgent class = nat_le 1 (priority_of class) && nat_le (priority_of class) 2

-- an urgent one that waits for somebody to take it
abbrev pub is_left : Waiting → Bool
is_left w = is_urgent w.row.class && is_none w.row.holder

-- an urgent one that the list before did not have
abbrev pub is_new : List Waiting → Row → Bool
is_new before row = is_urgent row.class && not (list_any (λ w. w.row.number == row.number) before)

abbrev pub rings_at : Said → List Waiting → Bool
rings_at (Listed total rows) before = list_any (is_new before) rows
rings_at other before = false

-- The bell rings where a list shows a new urgent incident. It rings at a second where an urgent one is left, it has not rung for 20
-- seconds, and no key silenced it within the last minute.
abbrev pub rings : Input → Said → List Waiting → ℕ → ℕ → Bool
rings input said queue quiet muted =
    if is_second input then (list_any is_left queue && (nat_le 19 quiet && muted == 0)) else rings_at said queue

abbrev pub quiet_after : Input → ℕ → ℕ
quiet_after input before = if is_second input then min (before + 1) 20 else before

-- For how many seconds the bell has not rung, up to 20.
unfoldable pub quiet : Sitting → ℕ
quiet [] = 20
quiet (t ∷ s) = if t.rung then 0 else quiet_after t.input (quiet s)

-- `m` silences it, where somebody is logged in
abbrev pub muted_after : Input → Option (List ℕ) → ℕ → ℕ
muted_after (Key key) user before = if is_some user && key == 109 then 60 else before
muted_after (Answer line) user before = before
muted_after Second user before = before - 1
muted_after Made user before = before
muted_after Lost user before = before

-- For how many seconds more it is silent.
unfoldable pub muted : Sitting → ℕ
muted [] = 0
muted (t ∷ s) = muted_after t.input (user s) (muted s)
