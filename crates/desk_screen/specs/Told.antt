-- What the desk has told of the step that is expected, in words of its lines.
use Rattle.std.specs.Prelude.{◌≡◌, ◌==◌, ◌⊎◌, ℕ, [], ◌∷◌, false, Option, Some}
use Rattle.arc_data.specs.declared.step.Step.{Step}
use Rattle.desk_said.specs.declared.said.Said.{Said}
use Rattle.desk_said.specs.declared.said.Said.TheVariants.{Welcome, Expected, Missing, Recorded, Shown}
use Rattle.desk_screen.specs.Inputs.{Sitting, is_break, news}
use Rattle.desk_screen.specs.Orders.{way}
use Rattle.desk_screen.specs.Owning.{worked_on}

-- An answer tells that this step of this incident is expected: it shows the incident, or it answers a command that works on it.
abbrev pub Tells : Said → Option ℕ → ℕ → Step → Type 0
Tells (Shown view) about number step = (view.number ≡ number) × (view.expected ≡ Some step)
Tells (Expected first) about number step = (about ≡ Some number) × (first ≡ Some step)
Tells (Missing first) about number step = (about ≡ Some number) × (first ≡ step)
Tells other about number step = ⊥

-- An answer leaves what was told of an incident: none of its steps is recorded by it, and nobody logs in.
abbrev pub Leaves : Said → ℕ → Type 0
Leaves (Recorded incident left) number = (incident == number) ≡ false
Leaves (Welcome name) number = ⊥
Leaves other number = Unit {0}

-- The desk has told that this step of this incident is expected, and since then nobody has logged in, the connection has stood, and no step
-- of the incident was recorded.
abbrev pub IsTold : Sitting → ℕ → Step → Type 0
IsTold [] number step = ⊥
IsTold (t ∷ s) number step =
    Tells (news t.input (way s)) (worked_on (way s)) number step
    ⊎ ((is_break t.input ≡ false) × Leaves (news t.input (way s)) number × IsTold s number step)
