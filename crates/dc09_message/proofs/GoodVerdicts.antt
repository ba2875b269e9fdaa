-- What is taken is well formed, is sealed exactly where its account has a key, and is not unknown to a centre of the setup.
use Rattle.std.proofs.Common.{◌≡◌, ◌≤◌, ℕ, List, length, Bool, true, false, cond, Option, Some, None, is_some, refl, sym, ◌∙◌, ap, subst}
use Rattle.std.specs.Prelude.{Result, Ok, Err, IfOk, option_and_then, slice_range}
use Rattle.arc_data.specs.Digits.{AreBytes, capitals}
use Rattle.arc_data.specs.WellFormed.{IsMessage}
use Rattle.arc_data.specs.declared.blob.Memory.{Memory}
use Rattle.arc_data.specs.declared.event.Token.{Token}
use Rattle.alarm_rules.specs.Setups.{Setup, Account, account_of, has_account, key_of}
use Rattle.civil_time.specs.Stamp.{is_fresh}
use Rattle.dc09_frame.specs.Headers.{IsHeader}
use Rattle.dc09_frame.specs.declared.limits.TheConstants.{BODY_LIMIT}
use Rattle.dc09_frame.specs.declared.header.Header.{Header}
use Rattle.dc09_crypt.specs.Sealed.{text_under, opening_of}
use Rattle.dc09_crypt.specs.declared.opening.Opening.{Opening}
use Rattle.dc09_crypt.specs.declared.opening.Opening.TheVariants.{NotCipher, NoBar, NoStamp, Text}
use Rattle.dc09_message.specs.Contents.{content_in}
use Rattle.dc09_message.specs.Verdicts.{message_of, on_blocks, on_opening, on_sealed, on_plain, on_account, on_kind, IsSealedAsKeyed, IsKeyed, IsKnown}
use Rattle.dc09_message.specs.declared.kind.MessageKind.{MessageKind}
use Rattle.dc09_message.specs.declared.kind.MessageKind.TheVariants.{Heartbeat, Report}
use Rattle.dc09_message.specs.declared.outcome.Verdict.{Verdict}
use Rattle.dc09_message.specs.declared.outcome.Verdict.TheVariants.{Nak, Duh}
use Rattle.dc09_message.specs.declared.outcome.Why.{Why}
use Rattle.dc09_message.proofs.ContentSignals.{content_signals}
use Rattle.dc09_message.proofs.DigitLemmas.{capital_run, four_digits_spell}

pub good_message : (token : Token) (h : Header) (content : List ℕ) → IsHeader h → length content ≤ BODY_LIMIT → AreBytes content → IsMessage (message_of token h content)
good_message token h content w size bytes = record {
  account = capital_run 3 16 h.account w.account;
  receiver = w.receiver;
  line = w.line;
  sequence = four_digits_spell h.seq w.sequence;
  size = size;
  bytes = bytes;
}

-- what both clauses on what is taken say
record IsTaken (setup : Setup) (v : Verdict) : Type 0 where
  keyed : IsKeyed setup v
  known : IsKnown setup v

refused : (setup : Setup) (h : Header) (why : Why) → IsTaken setup (Duh h why)
refused setup h why = record { keyed = tt; known = tt }

taken_content : (setup : Setup) (h : Header) (kind : MessageKind) (bytes : List ℕ) (content : Option (List ℕ)) → content_in kind h bytes ≡ content
    → IsSealedAsKeyed setup h → has_account setup (capitals h.account) ≡ true → IsTaken setup (on_blocks h kind content)
taken_content setup h kind bytes None is as_keyed has = refused setup h _
taken_content setup h Heartbeat bytes (Some content) is as_keyed has = record { keyed = as_keyed; known = has }
taken_content setup h (Report token) bytes (Some content) is as_keyed has =
    record { keyed = as_keyed; known = record { account = has; content = content_signals token h bytes content is } }

taken_blocks : (setup : Setup) (h : Header) (kind : MessageKind) (bytes : List ℕ) → IsSealedAsKeyed setup h → has_account setup (capitals h.account) ≡ true
    → IsTaken setup (on_blocks h kind (content_in kind h bytes))
taken_blocks setup h kind bytes as_keyed has = taken_content setup h kind bytes (content_in kind h bytes) refl as_keyed has

taken_if : (setup : Setup) (v : Verdict) (fresh : Bool) → IsTaken setup v → IsTaken setup (cond fresh v Nak)
taken_if setup v true is = is
taken_if setup v false is = record { keyed = tt; known = tt }

taken_opening : (setup : Setup) (now : ℕ) (h : Header) (kind : MessageKind) (text : List ℕ) (opening : Opening) → IsSealedAsKeyed setup h
    → has_account setup (capitals h.account) ≡ true → IsTaken setup (on_opening now h kind text opening)
taken_opening setup now h kind text NotCipher as_keyed has = refused setup h _
taken_opening setup now h kind text NoBar as_keyed has = refused setup h _
taken_opening setup now h kind text NoStamp as_keyed has = refused setup h _
taken_opening setup now h kind text (Text from to t) as_keyed has =
    taken_if setup _ (is_fresh t now) (taken_blocks setup h kind (slice_range text from to) as_keyed has)

taken_key : (setup : Setup) (now : ℕ) (h : Header) (kind : MessageKind) (rest : List ℕ) (key : Option (List ℕ)) (sealed : Bool) → h.sealed ≡ sealed
    → key_of setup (capitals h.account) ≡ key → has_account setup (capitals h.account) ≡ true
    → IsTaken setup (cond sealed (on_sealed now h kind rest key) (on_plain h kind rest key))
taken_key setup now h kind rest None true is key_is has = refused setup h _
taken_key setup now h kind rest (Some key) true is key_is has =
    taken_opening setup now h kind (text_under key rest) (opening_of key rest) (is ∙ sym (ap is_some key_is)) has
taken_key setup now h kind rest None false is key_is has = taken_blocks setup h kind rest (is ∙ sym (ap is_some key_is)) has
taken_key setup now h kind rest (Some key) false is key_is has = refused setup h _

taken_account : (setup : Setup) (now : ℕ) (h : Header) (kind : MessageKind) (rest : List ℕ) (found : Option Account) → account_of setup (capitals h.account) ≡ found
    → IsTaken setup (on_account now h kind rest found)
taken_account setup now h kind rest None is = refused setup h _
taken_account setup now h kind rest (Some account) is =
    taken_key setup now h kind rest account.key h.sealed refl (ap (option_and_then (λ a. a.key)) is) (ap is_some is)

taken_kind : (setup : Setup) (now : ℕ) (h : Header) (rest : List ℕ) (kind : Option MessageKind) → IsTaken setup (on_kind setup now h rest kind)
taken_kind setup now h rest None = refused setup h _
taken_kind setup now h rest (Some kind) = taken_account setup now h kind rest (account_of setup (capitals h.account)) refl

-- what was worked out is the verdict, and so it is sealed as the account is keyed
pub keyed_result : (setup : Setup) (now : ℕ) (h : Header) (rest : List ℕ) (kind : Option MessageKind) (r : Result Verdict Memory)
    → IfOk r (λ v. v ≡ on_kind setup now h rest kind) → IfOk r (IsKeyed setup)
keyed_result setup now h rest kind (Err e) exact = tt
keyed_result setup now h rest kind (Ok v) exact = subst (IsKeyed setup) (sym exact) (taken_kind setup now h rest kind).keyed

-- and so what is taken is known
pub known_result : (setup : Setup) (now : ℕ) (h : Header) (rest : List ℕ) (kind : Option MessageKind) (r : Result Verdict Memory)
    → IfOk r (λ v. v ≡ on_kind setup now h rest kind) → IfOk r (IsKnown setup)
known_result setup now h rest kind (Err e) exact = tt
known_result setup now h rest kind (Ok v) exact = subst (IsKnown setup) (sym exact) (taken_kind setup now h rest kind).known
