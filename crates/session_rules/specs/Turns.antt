-- The turns of a session, of any kind: what they answer, what they add to the port, and their entries.
use Rattle.std.specs.Prelude.{ℕ, List, Option, map}
use Rattle.std.specs.List.{flat_map}
use Rattle.std.specs.Option.{option_to_list}
use Rattle.arc_io.specs.Added.{Added}
use Rattle.centre_core.specs.declared.hall.Stop.{Stop}
use Rattle.centre_rules.specs.History.{Entry}

-- What is asked of each turn: the piece of the input that it answers, what it adds to the port (its text is the reply), and its
-- entry where it has one.
pub record Kind (T : Type 0) : Type 0 where
  pub asked : T → List ℕ
  pub adds : T → Added
  pub entry : T → Option Entry

abbrev pub pieces_of : {T : Type 0} → Kind T → List T → List (List ℕ)
pieces_of kind turns = map kind.asked turns

abbrev pub entries_of : {T : Type 0} → Kind T → List T → List Entry
entries_of kind turns = flat_map (λ t. option_to_list (kind.entry t)) turns

abbrev pub text_of : {T : Type 0} → Kind T → List T → List ℕ
text_of kind turns = flat_map (λ t. (kind.adds t).text) turns

abbrev pub readings_of : {T : Type 0} → Kind T → List T → List ℕ
readings_of kind turns = flat_map (λ t. (kind.adds t).readings) turns

abbrev pub noise_of : {T : Type 0} → Kind T → List T → List ℕ
noise_of kind turns = flat_map (λ t. (kind.adds t).noise) turns

-- what the turns add to a port
abbrev pub added_by : {T : Type 0} → Kind T → List T → Added
added_by kind turns = record { text = text_of kind turns; readings = readings_of kind turns; noise = noise_of kind turns }

-- What holds of the turns of a session: that they stand behind one another from a history on, to another; why a piece is
-- stopped at a reading, behind that other; and which turns may stand recorded behind the last that was answered.
pub record Rules (T : Type 0) : Type 1 where
  pub are_turns : List Entry → List Entry → List T → Type 0
  pub is_cause : List Entry → Stop → List ℕ → ℕ → Type 0
  pub may_be_behind : List T → Type 0
