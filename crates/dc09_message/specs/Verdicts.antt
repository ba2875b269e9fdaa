-- The verdict on an undamaged frame: the first case that holds.
use Rattle.std.specs.Prelude.{◌≡◌, ℕ, List, if◌then◌else◌, true, Option, Some, None, is_some, drop, slice_range}
use Rattle.arc_data.specs.Digits.{capitals, dec_value}
use Rattle.arc_data.specs.WellFormed.{IsMessage, IsWellFormed}
use Rattle.arc_data.specs.declared.event.Event.TheVariants.{Beat as Heard}
use Rattle.arc_data.specs.declared.event.Message.{Message}
use Rattle.arc_data.specs.declared.event.Token.{Token}
use Rattle.alarm_rules.specs.Setups.{Setup, Account, account_of, has_account, key_of}
use Rattle.alarm_rules.specs.Signals.{has_signals}
use Rattle.civil_time.specs.Stamp.{is_fresh}
use Rattle.dc09_frame.specs.Headers.{header_at, IsHeader}
use Rattle.dc09_frame.specs.declared.header.Header.{Header}
use Rattle.dc09_crypt.specs.Sealed.{text_under, opening_of}
use Rattle.dc09_crypt.specs.declared.opening.Opening.{Opening}
use Rattle.dc09_crypt.specs.declared.opening.Opening.TheVariants.{NotCipher as NoCipher, NoBar as LacksBar, NoStamp as LacksStamp, Text}
use Rattle.dc09_message.specs.Contents.{kind_of, content_in}
use Rattle.dc09_message.specs.declared.kind.MessageKind.{MessageKind}
use Rattle.dc09_message.specs.declared.kind.MessageKind.TheVariants.{Heartbeat, Report}
use Rattle.dc09_message.specs.declared.outcome.Verdict.{Verdict}
use Rattle.dc09_message.specs.declared.outcome.Verdict.TheVariants.{Silence, Nak, Duh, Beat, Numbered}
use Rattle.dc09_message.specs.declared.outcome.Why.TheVariants.{UnknownToken, UnknownAccount, PlainButKeyed, SealedButKeyless}
use Rattle.dc09_message.specs.declared.outcome.Why.TheVariants.{NotCipher, NoBar, NoStamp, BadBlocks}

-- the message of a header and what it keeps: the account in capitals, the digits of the fields as they came
abbrev pub message_of : Token → Header → List ℕ → Message
message_of token h content = record {
  account = capitals h.account;
  receiver = h.receiver;
  line = h.line;
  seq = dec_value h.seq;
  token = token;
  content = content;
}

-- where the blocks can be read or not
abbrev pub on_blocks : Header → MessageKind → Option (List ℕ) → Verdict
on_blocks h kind None = Duh h BadBlocks
on_blocks h Heartbeat (Some content) = Beat h (capitals h.account)
on_blocks h (Report token) (Some content) = Numbered h (message_of token h content)

-- of a sealed message, by what its digits open to
abbrev pub on_opening : ℕ → Header → MessageKind → List ℕ → Opening → Verdict
on_opening now h kind text NoCipher = Duh h NotCipher
on_opening now h kind text LacksBar = Duh h NoBar
on_opening now h kind text LacksStamp = Duh h NoStamp
on_opening now h kind text (Text from to t) =
    if is_fresh t now then on_blocks h kind (content_in kind h (slice_range text from to)) else Nak

-- of a sealed message, by the account's key
abbrev pub on_sealed : ℕ → Header → MessageKind → List ℕ → Option (List ℕ) → Verdict
on_sealed now h kind rest None = Duh h SealedButKeyless
on_sealed now h kind rest (Some key) = on_opening now h kind (text_under key rest) (opening_of key rest)

-- of a plain message, by the account's key
abbrev pub on_plain : Header → MessageKind → List ℕ → Option (List ℕ) → Verdict
on_plain h kind rest None = on_blocks h kind (content_in kind h rest)
on_plain h kind rest (Some key) = Duh h PlainButKeyed

-- by the account, where the setup has it
abbrev pub on_account : ℕ → Header → MessageKind → List ℕ → Option Account → Verdict
on_account now h kind rest None = Duh h UnknownAccount
on_account now h kind rest (Some account) = if h.sealed then on_sealed now h kind rest account.key else on_plain h kind rest account.key

-- by the kind of message, where the token is read
abbrev pub on_kind : Setup → ℕ → Header → List ℕ → Option MessageKind → Verdict
on_kind setup now h rest None = Duh h UnknownToken
on_kind setup now h rest (Some kind) = on_account now h kind rest (account_of setup (capitals h.account))

-- by the header, where it can be read
abbrev pub on_header : Setup → ℕ → List ℕ → Option (Header × ℕ) → Verdict
on_header setup now body None = Silence
on_header setup now body (Some found) = on_kind setup now found.0 (drop found.1 body) (kind_of found.0.token)

-- the verdict on a body under a setup, at a reading of the clock
unfoldable pub verdict_of : Setup → ℕ → List ℕ → Verdict
verdict_of setup now body = on_header setup now body (header_at body)

-- The header of a verdict is one, and its event is well formed.
abbrev pub IsGood : Verdict → Type 0
IsGood Silence = Unit {0}
IsGood Nak = Unit {0}
IsGood (Duh h why) = IsHeader h
IsGood (Beat h account) = IsHeader h × IsWellFormed (Heard account)
IsGood (Numbered h m) = IsHeader h × IsMessage m

-- only a numbered message takes memory
abbrev pub TakesMemory : Verdict → Type 0
TakesMemory Silence = ⊥
TakesMemory Nak = ⊥
TakesMemory (Duh h why) = ⊥
TakesMemory (Beat h account) = ⊥
TakesMemory (Numbered h m) = Unit {0}

-- A message that is taken is sealed exactly where its account has a key.
abbrev pub IsSealedAsKeyed : Setup → Header → Type 0
IsSealedAsKeyed setup h = h.sealed ≡ is_some (key_of setup (capitals h.account))

abbrev pub IsKeyed : Setup → Verdict → Type 0
IsKeyed setup Silence = Unit {0}
IsKeyed setup Nak = Unit {0}
IsKeyed setup (Duh h why) = Unit {0}
IsKeyed setup (Beat h account) = IsSealedAsKeyed setup h
IsKeyed setup (Numbered h m) = IsSealedAsKeyed setup h

-- What a centre needs to take a message: the setup has its account, and its content has signals.
pub record IsReadable (setup : Setup) (m : Message) : Type 0 where
  pub account : has_account setup m.account ≡ true
  pub content : has_signals m.token m.content ≡ true

-- What is taken is not unknown to a centre of that setup.
abbrev pub IsKnown : Setup → Verdict → Type 0
IsKnown setup Silence = Unit {0}
IsKnown setup Nak = Unit {0}
IsKnown setup (Duh h why) = Unit {0}
IsKnown setup (Beat h account) = has_account setup account ≡ true
IsKnown setup (Numbered h m) = IsReadable setup m
