-- The signals of a message's content.
use Rattle.std.specs.Prelude.{ℕ, List, [], ◌∷◌, ◌==◌, Bool, Option, is_some}
use Rattle.std.specs.List.{before_first}
use Rattle.std.specs.Option.{option_map}
use Rattle.arc_data.specs.declared.event.Token.{Token}
use Rattle.arc_data.specs.declared.event.Token.TheVariants.{SiaDcs, AdmCid}
use Rattle.arc_data.specs.declared.signal.Signal.{Signal}
use Rattle.alarm_rules.specs.ContactId.{contact_id_signal}
use Rattle.alarm_rules.specs.SiaCodes.{sia_signals}

-- the data of a content: what stands before its first `]`, or all where there is none
abbrev pub data_of : List ℕ → List ℕ
data_of content = before_first (λ b. b == 93) content

-- the signals of a content, by the kind of its data; none where the data is outside its grammar
abbrev pub signals : Token → List ℕ → Option (List Signal)
signals AdmCid content = option_map (λ signal. signal ∷ []) (contact_id_signal (data_of content))
signals SiaDcs content = sia_signals (data_of content)

-- the content has signals: its data is in its grammar
abbrev pub has_signals : Token → List ℕ → Bool
has_signals token content = is_some (signals token content)
