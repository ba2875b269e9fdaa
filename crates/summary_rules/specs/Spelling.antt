-- The bytes of a summary, which a checkpoint writes in place of the records that brought the centre there, in each of two versions: in the
-- second an incident tells by which line the signal came that opened it. All numbers have their highest byte first.
use Rattle.std.specs.Prelude.{ℕ, ◌+◌, List, [], ◌∷◌, ◌++◌, length, reverse, Bool, true, false, Option, Some, None}
use Rattle.std.specs.Int.{w16, w32, w64, to_be_bytes}
use Rattle.std.specs.List.{flat_map}
use Rattle.arc_data.specs.Classes.{class_place}
use Rattle.arc_data.specs.declared.event.Message.{Message}
use Rattle.arc_data.specs.declared.incident.Incident.{Incident}
use Rattle.arc_data.specs.declared.incident.Opened.{Opened}
use Rattle.arc_data.specs.declared.signal.Class.{Class}
use Rattle.arc_data.specs.declared.step.Acted.{Acted}
use Rattle.event_codec.specs.Spelling.{short_text, receiver_text, via_text, token_byte, step_byte, outcome_byte}
use Rattle.centre_rules.specs.Summary.{Summary, AccountRow, Past}

-- Truths, and values that may lack.

abbrev pub truth_byte : Bool → ℕ
truth_byte false = 0
truth_byte true = 1

-- 0 where it lacks, and otherwise 1 and the value
abbrev pub option_text : {A : Type 0} → (A → List ℕ) → Option A → List ℕ
option_text text None = 0 ∷ []
option_text text (Some x) = 1 ∷ text x

-- a moment, or another number, in eight bytes
unfoldable pub long_number : ℕ → List ℕ
long_number n = to_be_bytes w64 n

-- four bytes of length, and that many bytes
unfoldable pub long_text : List ℕ → List ℕ
long_text text = to_be_bytes w32 (length text) ++ text

-- a byte that says how many there are, and each of them
unfoldable pub few_texts : {A : Type 0} → (A → List ℕ) → List A → List ℕ
few_texts text xs = length xs ∷ flat_map text xs

-- four bytes that say how many there are, and each of them; where they are more than four bytes can say, the count is taken
-- modulo 2^32
unfoldable pub many_texts : {A : Type 0} → (A → List ℕ) → List A → List ℕ
many_texts text xs = to_be_bytes w32 (length xs) ++ flat_map text xs

-- Rows.

-- the moment of an opening, and whether a late closing was raised since
abbrev pub opening_text : Opened → List ℕ
opening_text o = long_number o.at ++ truth_byte o.late ∷ []

-- what a record spells of a message behind its account: `R` digits, `L` digits, sequence, token, length and content
abbrev pub message_text : Message → List ℕ
message_text m = receiver_text m.receiver ++ (short_text m.line ++ (to_be_bytes w16 m.seq
    ++ (token_byte m.token ∷ (to_be_bytes w16 (length m.content) ++ m.content))))

-- a recorded message: its moment and its fields, but for the account, which is that of the row
abbrev pub past_text : Past → List ℕ
past_text p = long_number p.at ++ message_text p.message

-- account, when it was heard, whether it failed, its opening, and its messages, the oldest first
unfoldable pub row_text : AccountRow → List ℕ
row_text r = short_text r.account ++ (option_text long_number r.heard ++ (truth_byte r.failed
    ∷ (option_text opening_text r.opening ++ few_texts past_text (reverse r.messages))))

-- Incidents.

-- the classes of incidents are 1 to 12, in their order
abbrev pub class_byte : Class → ℕ
class_byte class = class_place class + 1

-- the operator that claimed the incident and was not let go since, and the moment since which it was not touched; an empty name where
-- there is none
abbrev pub holder_text : Option (List ℕ) → ℕ → List ℕ
holder_text None touched = 0 ∷ []
holder_text (Some operator) touched = short_text operator ++ long_number touched

-- step, outcome, moment and operator
abbrev pub act_text : Acted → List ℕ
act_text a = step_byte a.step ∷ outcome_byte a.outcome ∷ long_number a.at ++ short_text a.operator

-- number, account, class, code, line, moment, signals, whether it is restored, holder, steps and acts
unfoldable pub incident_text : ℕ → Incident → List ℕ
incident_text version i = long_number i.number ++ (short_text i.account ++ (class_byte i.class ∷ (short_text i.code
    ++ (via_text version i.via ++ (long_number i.at ++ (long_number i.signals ++ (truth_byte i.restored
    ∷ (holder_text i.holder i.touched ++ (few_texts (λ s. step_byte s ∷ []) i.steps ++ few_texts act_text i.acts)))))))))

-- The whole.

-- a tag, the generation, the last moment, how many entries are recorded, how many incidents were opened, the last Start, the
-- setup text, the rows and the open incidents
unfoldable pub summary_text : ℕ → ℕ → Summary → List ℕ
summary_text version generation s = 11 ∷ (long_number generation ++ (long_number s.last ++ (long_number s.recorded ++ (long_number s.opened
    ++ (option_text long_number s.start ++ (option_text long_text s.text
    ++ (many_texts row_text s.rows ++ many_texts (incident_text version) s.incidents)))))))
