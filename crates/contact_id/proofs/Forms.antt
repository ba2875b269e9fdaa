-- The signal of Contact ID data.
use Rattle.std.proofs.Common.{◌≡◌, ℕ, List, true, Some, refl, get_or, take, drop}
use Rattle.arc_data.specs.declared.signal.Class.{Class}
use Rattle.arc_data.specs.declared.signal.Kind.{Kind}
use Rattle.arc_data.specs.declared.signal.Signal.{Signal}
use Rattle.alarm_rules.specs.ContactId.{is_contact_id, contact_id_class, contact_id_kind, contact_id_signal}

-- the signal from its parts
pub contact_id_signal-made : (text code : List ℕ) (class : Class) (kind : Kind) → is_contact_id text ≡ true → code ≡ take 3 (drop 1 text) → class ≡ contact_id_class code → kind ≡ contact_id_kind class (get_or text 0 0)
    → Some (let s : Signal = record { class = class; kind = kind; code = code } in s) ≡ contact_id_signal text
unfolding contact_id_signal
contact_id_signal-made text code class kind good is_code is_class is_kind = rw (good, is_kind, is_class, is_code) refl
