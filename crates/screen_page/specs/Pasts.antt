-- What was done in a sitting.
use Rattle.std.specs.Prelude.{ℕ, ◌≡◌, ◌⊎◌, ◌+◌, ◌-◌, List, [], ◌∷◌, ◌++◌, Option, Some, None, nat_lt, length, drop, if◌then◌else◌}
use Rattle.std.specs.Prelude.{slice_index_or}
use Rattle.arc_data.specs.declared.step.Outcome.{Outcome}
use Rattle.arc_data.specs.declared.step.Step.{Step}
use Rattle.desk_said.specs.Lines.{said_of}
use Rattle.desk_said.specs.declared.said.Said.{Said}
use Rattle.desk_said.specs.declared.said.Said.TheVariants.{Recorded}
use Rattle.desk_wire.specs.declared.command.Command.{Command}
use Rattle.desk_wire.specs.declared.command.Command.TheVariants.{Act}
use Rattle.desk_screen.specs.declared.deed.Deed.{Deed}

-- a step of an incident, and what came of it
abbrev pub ActRow : Type 0
ActRow = ℕ × Step × Outcome

-- the step that an answered command recorded
abbrev pub recorded_by : Command → Said → Option ActRow
recorded_by (Act number step outcome) (Recorded incident left) = Some (number, step, outcome)
recorded_by command said = None

abbrev pub recorded_in : Deed → Option ActRow
recorded_in deed = recorded_by deed.command (said_of deed.answer)

-- of at most 200 the oldest goes where a further one comes
abbrev pub with_room : {A : Type 0} → List A → List A
with_room {A} before = if nat_lt (length before) 200 then before else drop 1 before

-- one more stands last; where memory is short, it is left out
abbrev pub HasAdded : {A : Type 0} → List A → A → List A → Type 0
HasAdded {A} old one new = (new ≡ with_room old ++ one ∷ []) ⊎ (new ≡ with_room old)

abbrev pub MayAdd : {A : Type 0} → List A → Option A → List A → Type 0
MayAdd {A} old None new = new ≡ old
MayAdd {A} old (Some one) new = HasAdded old one new

-- the one at a place, the newest first; none has no text
abbrev pub newest : List (List ℕ) → ℕ → List ℕ
newest rows place = if nat_lt place (length rows) then slice_index_or rows (length rows - (place + 1)) [] else []
