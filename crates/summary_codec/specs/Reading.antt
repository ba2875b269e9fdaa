-- Reading a summary of either version from left to right. A reading is None where the bytes do not begin so, and else a value and the bytes
-- behind it.
use Rattle.std.specs.Prelude.{ℕ, suc, zero, ◌==◌, ◌||◌, List, [], ◌∷◌, reverse, Bool, true, false, Option, Some, None}
use Rattle.std.specs.Prelude.{nat_le, if◌then◌else◌}
use Rattle.std.specs.Int.{w16, w32, w64}
use Rattle.arc_data.specs.Digits.{is_run, is_hex, is_name}
use Rattle.arc_data.specs.declared.event.Message.{Message}
use Rattle.arc_data.specs.declared.event.Token.{Token}
use Rattle.arc_data.specs.declared.incident.Incident.{Incident}
use Rattle.arc_data.specs.declared.incident.Opened.{Opened}
use Rattle.arc_data.specs.declared.signal.Class.{Class}
use Rattle.arc_data.specs.declared.signal.Class.TheVariants.{Fire, Medical, Panic, Gas, Burglary, Tamper, Environment, CommFail}
use Rattle.arc_data.specs.declared.signal.Class.TheVariants.{Trouble, Irregular, LateClose, Unlisted}
use Rattle.arc_data.specs.declared.step.Acted.{Acted}
use Rattle.arc_data.specs.declared.step.Outcome.{Outcome}
use Rattle.arc_data.specs.declared.step.Step.{Step}
use Rattle.event_codec.specs.Reading.{◌>>=◌, byte_at, piece_at, number_at, number_up_to, short_at, receiver_at, long_at}
use Rattle.event_codec.specs.Reading.{token_of, step_of, coded_at, account_at, outcome_at}
use Rattle.centre_rules.specs.Summary.{Summary, AccountRow, Past}
use Rattle.summary_rules.specs.Conditions.{name_of_one}

-- What a reading gives.
abbrev pub Reading : Type 0 → Type 0
Reading A = List ℕ → Option (A × List ℕ)

-- one reading and then another
abbrev pub pair_at : {A B : Type 0} → Reading A → (A → Reading B) → Reading (A × B)
pair_at first second bytes = first bytes >>= λ x. second x.0 x.1 >>= λ y. Some ((x.0, y.0), y.1)

-- what was read, as another value
abbrev pub made_at : {A B : Type 0} → (A → B) → Reading A → Reading B
made_at make read bytes = read bytes >>= λ x. Some (make x.0, x.1)

-- so many in a row
abbrev pub front_of : {A : Type 0} → A × List A → List A
front_of p = p.0 ∷ p.1

abbrev pub times_at : {A : Type 0} → Reading A → ℕ → Reading (List A)
times_at read zero = λ bytes. Some ([], bytes)
times_at read (suc n) = made_at front_of (pair_at read (λ x. times_at read n))

-- a byte of count, at most so much, and that many
unfoldable pub few_at : {A : Type 0} → ℕ → Reading A → Reading (List A)
few_at most read bytes = byte_at bytes >>= λ n. if nat_le n.0 most then times_at read n.0 n.1 else None

-- four bytes of count, and that many
unfoldable pub many_at : {A : Type 0} → Reading A → Reading (List A)
many_at read bytes = number_at w32 bytes >>= λ n. times_at read n.0 n.1

abbrev pub truth_of : ℕ → Option Bool
truth_of b = if b == 0 then Some false else if b == 1 then Some true else None

abbrev pub some_of : {A : Type 0} → A → Option A
some_of x = Some x

unfoldable pub option_at : {A : Type 0} → Reading A → Reading (Option A)
option_at read bytes = byte_at bytes >>= λ b.
    if b.0 == 0 then Some (None, b.1) else if b.0 == 1 then made_at some_of read b.1 else None

-- Rows.

abbrev pub opening_of : ℕ × Bool → Opened
opening_of p = record { at = p.0; late = p.1 }

abbrev pub opening_at : Reading Opened
opening_at = made_at opening_of (pair_at (number_at w64) (λ at. coded_at truth_of))

-- the parts of a message of an account
abbrev pub MessageParts : Type 0
MessageParts = Option (List ℕ) × (List ℕ × (ℕ × (Token × List ℕ)))

abbrev pub message_of : List ℕ → MessageParts → Message
message_of account p = record {
  account = account;
  receiver = p.0;
  line = p.1.0;
  seq = p.1.1.0;
  token = p.1.1.1.0;
  content = p.1.1.1.1;
}

unfoldable pub message_parts_at : Reading MessageParts
message_parts_at = pair_at receiver_at (λ r. pair_at (short_at (is_run is_hex 1 6)) (λ l. pair_at (number_up_to w16 9999) (λ n.
    pair_at (coded_at token_of) (λ t. long_at w16 4095))))

abbrev pub past_of : List ℕ → ℕ × MessageParts → Past
past_of account p = record { message = message_of account p.1; at = p.0 }

abbrev pub past_at : List ℕ → Reading Past
past_at account = made_at (past_of account) (pair_at (number_at w64) (λ at. message_parts_at))

abbrev pub RowParts : Type 0
RowParts = List ℕ × (Option ℕ × (Bool × (Option Opened × List Past)))

abbrev pub row_of_parts : RowParts → AccountRow
row_of_parts p = record {
  account = p.0;
  heard = p.1.0;
  failed = p.1.1.0;
  opening = p.1.1.1.0;
  messages = reverse p.1.1.1.1;
}

unfoldable pub row_at : Reading AccountRow
row_at = made_at row_of_parts (pair_at account_at (λ account. pair_at (option_at (number_at w64)) (λ h. pair_at (coded_at truth_of) (λ f.
    pair_at (option_at opening_at) (λ o. few_at 32 (past_at account))))))

-- Incidents.

abbrev pub class_of : ℕ → Option Class
class_of b = if b == 1 then Some Fire else if b == 2 then Some Medical else if b == 3 then Some Panic else if b == 4 then Some Gas
    else if b == 5 then Some Burglary else if b == 6 then Some Tamper else if b == 7 then Some Environment else if b == 8 then Some CommFail
    else if b == 9 then Some Trouble else if b == 10 then Some Irregular else if b == 11 then Some LateClose
    else if b == 12 then Some Unlisted else None

-- a byte of length, at most so much, and that many bytes
unfoldable pub text_up_to : ℕ → Reading (List ℕ)
text_up_to most bytes = byte_at bytes >>= λ n. if nat_le n.0 most then piece_at n.0 n.1 else None

-- a code has at most 32 bytes
abbrev pub code_text_at : Reading (List ℕ)
code_text_at = text_up_to 32

-- the line of an incident of this code, at most 16 bytes; version 1 leaves it out
unfoldable pub line_text_at : ℕ → List ℕ → Reading (List ℕ)
line_text_at version code bytes = if version == 1 then Some (name_of_one code, bytes) else text_up_to 16 bytes

abbrev pub is_empty : List ℕ → Bool
is_empty [] = true
is_empty (b ∷ bs) = false

-- the name of an operator, or none
abbrev pub is_holder_name : List ℕ → Bool
is_holder_name text = is_empty text || is_name text

abbrev pub holding_of : List ℕ → ℕ → Option (List ℕ) × ℕ
holding_of operator touched = (Some operator, touched)

-- its claimer, and since when it was not touched
unfoldable pub holding_at : Reading (Option (List ℕ) × ℕ)
holding_at bytes = short_at is_holder_name bytes >>= λ name.
    if is_empty name.0 then Some ((None, 0), name.1) else made_at (holding_of name.0) (number_at w64) name.1

abbrev pub acted_of : (Step × Outcome) × (ℕ × List ℕ) → Acted
acted_of p = record { step = p.0.0; outcome = p.0.1; at = p.1.0; operator = p.1.1 }

unfoldable pub acted_at : Reading Acted
acted_at = made_at acted_of (pair_at outcome_at (λ s. pair_at (number_at w64) (λ at. short_at is_name)))

abbrev pub IncidentParts : Type 0
IncidentParts = ℕ × (List ℕ × (Class × (List ℕ × (List ℕ × (ℕ × (ℕ × (Bool × ((Option (List ℕ) × ℕ) × (List Step × List Acted)))))))))

abbrev pub incident_of_parts : IncidentParts → Incident
incident_of_parts p = record {
  number = p.0;
  account = p.1.0;
  class = p.1.1.0;
  code = p.1.1.1.0;
  via = p.1.1.1.1.0;
  at = p.1.1.1.1.1.0;
  signals = p.1.1.1.1.1.1.0;
  restored = p.1.1.1.1.1.1.1.0;
  holder = p.1.1.1.1.1.1.1.1.0.0;
  touched = p.1.1.1.1.1.1.1.1.0.1;
  steps = p.1.1.1.1.1.1.1.1.1.0;
  acts = p.1.1.1.1.1.1.1.1.1.1;
}

unfoldable pub incident_at : ℕ → Reading Incident
incident_at version = made_at incident_of_parts (pair_at (number_at w64) (λ n. pair_at account_at (λ account.
    pair_at (coded_at class_of) (λ class. pair_at code_text_at (λ code. pair_at (line_text_at version code) (λ via.
    pair_at (number_at w64) (λ at. pair_at (number_at w64) (λ signals. pair_at (coded_at truth_of) (λ restored.
    pair_at holding_at (λ holding. pair_at (few_at 10 (coded_at step_of)) (λ steps. few_at 10 acted_at)))))))))))

-- The whole.

-- the tag of a summary
unfoldable pub tag_at : Reading ℕ
tag_at bytes = byte_at bytes >>= λ b. if b.0 == 11 then Some (b.0, b.1) else None

abbrev pub SummaryParts : Type 0
SummaryParts = ℕ × (ℕ × (ℕ × (ℕ × (ℕ × (Option ℕ × (Option (List ℕ) × (List AccountRow × List Incident)))))))

abbrev pub summary_of_parts : SummaryParts → ℕ × Summary
summary_of_parts p = (
  p.1.0,
  record {
    last = p.1.1.0;
    recorded = p.1.1.1.0;
    opened = p.1.1.1.1.0;
    start = p.1.1.1.1.1.0;
    text = p.1.1.1.1.1.1.0;
    rows = p.1.1.1.1.1.1.1.0;
    incidents = p.1.1.1.1.1.1.1.1;
  },
)

unfoldable pub summary_at : ℕ → Reading (ℕ × Summary)
summary_at version = made_at summary_of_parts (pair_at tag_at (λ tag. pair_at (number_at w64) (λ generation.
    pair_at (number_at w64) (λ last. pair_at (number_at w64) (λ recorded. pair_at (number_at w64) (λ opened.
    pair_at (option_at (number_at w64)) (λ start. pair_at (option_at (long_at w32 4194304)) (λ text.
    pair_at (many_at row_at) (λ rows. many_at (incident_at version))))))))))
