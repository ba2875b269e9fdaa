-- Reading from left to right. A reading is None where the bytes do not begin so, and else a value and the bytes behind it.
use Rattle.std.specs.Prelude.{ℕ, ◌-◌, ◌&&◌, ◌==◌, List, [], ◌∷◌, length, take, drop, Bool, Option, Some, None}
use Rattle.std.specs.Prelude.{nat_lt, nat_le, if◌then◌else◌}
use Rattle.std.specs.Int.{Width, w16, w32, w64, byte_len, from_be_bytes}
use Rattle.arc_data.specs.Digits.{is_run, is_hex, is_capital_hex, is_name}
use Rattle.arc_data.specs.Steps.{fits}
use Rattle.arc_data.specs.WellFormed.{is_receiver}
use Rattle.arc_data.specs.declared.event.Event.{Event}
use Rattle.arc_data.specs.declared.event.Event.TheVariants.{Adopt, Start, Message as Sent, Beat, Tick}
use Rattle.arc_data.specs.declared.event.Event.TheVariants.{Claim, Next, Act, Release, Close}
use Rattle.arc_data.specs.declared.event.Message.{Message}
use Rattle.arc_data.specs.declared.event.Token.{Token}
use Rattle.arc_data.specs.declared.event.Token.TheVariants.{SiaDcs, AdmCid}
use Rattle.arc_data.specs.declared.event.CloseCode.{CloseCode}
use Rattle.arc_data.specs.declared.event.CloseCode.TheVariants.{Real, False, Test}
use Rattle.arc_data.specs.declared.step.Outcome.{Outcome}
use Rattle.arc_data.specs.declared.step.Outcome.TheVariants.{Reached, NoAnswer, Done}
use Rattle.arc_data.specs.declared.step.Step.{Step}
use Rattle.arc_data.specs.declared.step.Step.TheVariants.{Premises, Holder, Police, Fire, Ambulance, Guard, Note}
use Rattle.event_codec.specs.Spelling.{via_of_one}

infixl 10 ◌>>=◌
abbrev pub ◌>>=◌ : {A B : Type 0} → Option A → (A → Option B) → Option B
None >>= f = None
(Some x) >>= f = f x

-- a value that may be none, and the bytes behind it
abbrev pub given : {A : Type 0} → Option A → List ℕ → Option (A × List ℕ)
given None rest = None
given (Some x) rest = Some (x, rest)

abbrev pub byte_at : List ℕ → Option (ℕ × List ℕ)
byte_at [] = None
byte_at (b ∷ rest) = Some (b, rest)

-- so many bytes
abbrev pub piece_at : ℕ → List ℕ → Option (List ℕ × List ℕ)
piece_at n bytes = if nat_lt (length bytes) n then None else Some (take n bytes, drop n bytes)

abbrev pub number_at : Width → List ℕ → Option (ℕ × List ℕ)
number_at w bytes = if nat_lt (length bytes) (byte_len w) then None
    else Some (from_be_bytes w (take (byte_len w) bytes), drop (byte_len w) bytes)

-- a number of at most so much
unfoldable pub number_up_to : Width → ℕ → List ℕ → Option (ℕ × List ℕ)
number_up_to w most bytes = do
  n ← number_at w bytes
  if nat_le n.0 most then Some (n.0, n.1) else None

-- a byte of length, and that many bytes
unfoldable pub text_at : List ℕ → Option (List ℕ × List ℕ)
text_at bytes = do
  n ← byte_at bytes
  piece_at n.0 n.1

-- a short text that passes a test
abbrev pub short_at : (List ℕ → Bool) → List ℕ → Option (List ℕ × List ℕ)
short_at test bytes = text_at bytes >>= λ text. if test text.0 then Some (text.0, text.1) else None

-- no digits stand for no `R` field
abbrev pub receiver_of : List ℕ → Option (List ℕ)
receiver_of [] = None
receiver_of (b ∷ bs) = Some (b ∷ bs)

abbrev pub receiver_at : List ℕ → Option (Option (List ℕ) × List ℕ)
receiver_at bytes = text_at bytes >>= λ text. if is_receiver (receiver_of text.0) then Some (receiver_of text.0, text.1) else None

-- a length of at most so much, and that many bytes
unfoldable pub long_at : Width → ℕ → List ℕ → Option (List ℕ × List ℕ)
long_at w most bytes = do
  n ← number_up_to w most bytes
  piece_at n.0 n.1

abbrev pub token_of : ℕ → Option Token
token_of b = if b == 1 then Some SiaDcs else if b == 2 then Some AdmCid else None

abbrev pub step_of : ℕ → Option Step
step_of b = if b == 1 then Some Premises else if nat_le 2 b && nat_le b 5 then Some (Holder (b - 1)) else if b == 6 then Some Police
    else if b == 7 then Some Fire else if b == 8 then Some Ambulance else if b == 9 then Some Guard else if b == 10 then Some Note else None

abbrev pub outcome_of : ℕ → Option Outcome
outcome_of b = if b == 1 then Some Reached else if b == 2 then Some NoAnswer else if b == 3 then Some Done else None

abbrev pub code_of : ℕ → Option CloseCode
code_of b = if b == 1 then Some Real else if b == 2 then Some False else if b == 3 then Some Test else None

-- a byte that stands for a value
abbrev pub coded_at : {A : Type 0} → (ℕ → Option A) → List ℕ → Option (A × List ℕ)
coded_at of bytes = byte_at bytes >>= λ b. given (of b.0) b.1

abbrev pub account_at : List ℕ → Option (List ℕ × List ℕ)
account_at bytes = short_at (is_run is_capital_hex 3 16) bytes

unfoldable pub message_at : List ℕ → Option (Message × List ℕ)
message_at bytes = do
  account ← account_at bytes
  receiver ← receiver_at account.1
  line ← short_at (is_run is_hex 1 6) receiver.1
  seq ← number_up_to w16 9999 line.1
  token ← coded_at token_of seq.1
  content ← long_at w16 4095 token.1
  Some (record { account = account.0; receiver = receiver.0; line = line.0; seq = seq.0; token = token.0; content = content.0 }, content.1)

-- the name of a line; version 1 leaves it out, and it is `v1` there
unfoldable pub via_at : ℕ → List ℕ → Option (List ℕ × List ℕ)
via_at version bytes = if version == 1 then Some (via_of_one, bytes) else short_at is_name bytes

-- a message and the name of its line
unfoldable pub sent_at : ℕ → List ℕ → Option (Event × List ℕ)
sent_at version bytes = do
  message ← message_at bytes
  via ← via_at version message.1
  Some (Sent message.0 via.0, via.1)

-- an operator and the number of an incident
unfoldable pub order_at : List ℕ → Option ((List ℕ × ℕ) × List ℕ)
order_at bytes = do
  operator ← short_at is_name bytes
  number ← number_at w64 operator.1
  Some ((operator.0, number.0), number.1)

-- a step and an outcome that fits it
unfoldable pub outcome_at : List ℕ → Option ((Step × Outcome) × List ℕ)
outcome_at bytes = do
  step ← coded_at step_of bytes
  outcome ← coded_at outcome_of step.1
  if fits step.0 outcome.0 then Some ((step.0, outcome.0), outcome.1) else None

-- the fields behind the tag of another event than a message
unfoldable pub other_fields_at : ℕ → List ℕ → Option (Event × List ℕ)
other_fields_at tag bytes = if tag == 1 then (long_at w32 4194304 bytes >>= λ text. Some (Adopt text.0, text.1))
    else if tag == 2 then Some (Start, bytes)
    else if tag == 4 then (account_at bytes >>= λ account. Some (Beat account.0, account.1))
    else if tag == 5 then Some (Tick, bytes)
    else if tag == 6 then (order_at bytes >>= λ o. Some (Claim o.0.0 o.0.1, o.1))
    else if tag == 7 then (short_at is_name bytes >>= λ operator. Some (Next operator.0, operator.1))
    else if tag == 8 then (order_at bytes >>= λ o. outcome_at o.1 >>= λ a. Some (Act o.0.0 o.0.1 a.0.0 a.0.1, a.1))
    else if tag == 9 then (order_at bytes >>= λ o. Some (Release o.0.0 o.0.1, o.1))
    else if tag == 10 then (order_at bytes >>= λ o. coded_at code_of o.1 >>= λ code. Some (Close o.0.0 o.0.1 code.0, code.1))
    else None

-- the fields behind a tag
abbrev pub fields_at : ℕ → ℕ → List ℕ → Option (Event × List ℕ)
fields_at version tag bytes = if tag == 3 then sent_at version bytes else other_fields_at tag bytes

-- the last moment is the second before the year 10000
unfoldable pub event_at : ℕ → List ℕ → Option ((Event × ℕ) × List ℕ)
event_at version bytes = do
  tag ← byte_at bytes
  moment ← number_up_to w64 253_402_300_799 tag.1
  event ← fields_at version tag.0 moment.1
  Some ((event.0, moment.0), event.1)

-- an event and nothing behind it
abbrev pub alone : {A : Type 0} → Option (A × List ℕ) → Option A
alone None = None
alone (Some (x, [])) = Some x
alone (Some (x, b ∷ rest)) = None

abbrev pub decoded : ℕ → List ℕ → Option (Event × ℕ)
decoded version bytes = alone (event_at version bytes)
