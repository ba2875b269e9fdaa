-- How a run begins, and what is submitted in one.
use Rattle.std.specs.Prelude.{ℕ, List, [], ◌∷◌}
use Rattle.arc_data.specs.declared.event.Event.{Event}
use Rattle.arc_data.specs.declared.event.Event.TheVariants.{Adopt, Start}
use Rattle.arc_data.specs.declared.reply.Reply.TheVariants.{Adopted, Started}
use Rattle.centre_rules.specs.History.{Entry}

-- an Adopt of the setup's text, and then a Start, both at the one reading (the newest entry stands first)
abbrev pub begun : List ℕ → ℕ → List Entry
begun text clock =
    record { caller = 0; event = Start; at = clock; reply = Started }
    ∷ record { caller = 0; event = Adopt text; at = clock; reply = Adopted } ∷ []

-- neither an Adopt nor a Start, which only the beginning of a run submits
abbrev pub IsSubmitted : Event → Type 0
IsSubmitted (Adopt text) = ⊥
IsSubmitted Start = ⊥
IsSubmitted event = Unit {0}
