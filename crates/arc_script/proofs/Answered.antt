-- What the turns of a line are: each reply is a frame or nothing, and each entry is of an event that a line submits.
use Rattle.std.proofs.Common.{◌≡◌, ◌≢◌, ◌⊎◌, ◌≤◌, ℕ, List, [], ◌∷◌, ◌++◌, Bool, true, false, cond, Option, Some, None, inl, inr, length, drop, replicate, reverse, refl, sym, ap, subst, ◌∙◌, arith}
use Rattle.std.specs.Prelude.{codes, nat_lt, IfSome, slice_index, ◌/◌, ◌%◌, ◌+◌}
use Rattle.std.specs.List.{list_all, slice_range}
use Rattle.std.specs.Option.{option_to_list}
use Rattle.std.proofs.lemmas.Bool.{and_from, ne_eqb}
use Rattle.std.proofs.lemmas.List.{reverse-append}
use Rattle.std.proofs.lemmas.List.Folds.{list_all-append}
use Rattle.alarm_rules.specs.Setups.{Setup, Account, account_of, key_of}
use Rattle.arc_data.specs.Digits.{capitals}
use Rattle.arc_data.specs.Moments.{IsMoment}
use Rattle.arc_data.specs.declared.event.Event.{Event}
use Rattle.arc_data.specs.declared.event.Event.TheVariants as E
use Rattle.arc_data.specs.declared.reply.Reply.TheVariants.{Unknown}
use Rattle.aes_chain.specs.Chain.{chain_encrypted}
use Rattle.centre_rules.specs.History.{Entry}
use Rattle.centre_rules.specs.Summary.{Summary}
use Rattle.civil_time.proofs.StampLemmas.{length-stamp}
use Rattle.civil_time.specs.Stamp.{stamp, is_fresh}
use Rattle.dc09_crypt.proofs.StampBytes.{stamp_clean}
use Rattle.dc09_crypt.specs.Sealed.{ack_text, opening_of, sealed_ack_body, text_under, upper_digits}
use Rattle.dc09_crypt.specs.declared.opening.Opening.{Opening}
use Rattle.dc09_crypt.specs.declared.opening.Opening.TheVariants.{NotCipher, NoBar, NoStamp, Text}
use Rattle.dc09_frame.proofs.FrameLaws.{echo_is_body, fields_short, nak_is_body}
use Rattle.dc09_frame.proofs.HeaderLaws.{is_read}
use Rattle.dc09_frame.specs.Check.{check_of}
use Rattle.dc09_frame.specs.Frames.{digit_of, four_digits, frame_of, is_clean, piece_of}
use Rattle.dc09_frame.specs.Headers.{echo_body, fields, header_at, nak_body, IsHeader}
use Rattle.dc09_frame.specs.declared.header.Echo.TheVariants.{Ack, Duh as DuhWord}
use Rattle.dc09_frame.specs.declared.header.Header.{Header}
use Rattle.dc09_message.specs.Contents.{kind_of, content_in}
use Rattle.dc09_message.specs.Verdicts.{on_account, on_blocks, on_header, on_kind, on_opening, on_plain, on_sealed, verdict_of}
use Rattle.dc09_message.specs.declared.kind.MessageKind.{MessageKind}
use Rattle.dc09_message.specs.declared.kind.MessageKind.TheVariants.{Heartbeat, Report}
use Rattle.dc09_message.specs.declared.outcome.Verdict.{Verdict}
use Rattle.dc09_message.specs.declared.outcome.Verdict.TheVariants.{Silence, Nak, Duh, Beat, Numbered}
use Rattle.line_session.specs.Turns.{Turn, line_turns, AreTurns, IsAckBy, IsAnswered}
use Rattle.session_rules.specs.Turns.{entries_of, readings_of}

-- The header of a verdict is one.

abbrev HasHeader : Verdict → Type 0
HasHeader Silence = Unit {0}
HasHeader Nak = Unit {0}
HasHeader (Duh h why) = IsHeader h
HasHeader (Beat h account) = IsHeader h
HasHeader (Numbered h m) = IsHeader h

header_if : (b : Bool) (v w : Verdict) → HasHeader v → HasHeader w → HasHeader (cond b v w)
header_if true v w first other = first
header_if false v w first other = other

blocks_header : (h : Header) (kind : MessageKind) (c : Option (List ℕ)) → IsHeader h → HasHeader (on_blocks h kind c)
blocks_header h Heartbeat None is = is
blocks_header h (Report token) None is = is
blocks_header h Heartbeat (Some content) is = is
blocks_header h (Report token) (Some content) is = is

opening_header : (now : ℕ) (h : Header) (kind : MessageKind) (text : List ℕ) (o : Opening) → IsHeader h → HasHeader (on_opening now h kind text o)
opening_header now h kind text NotCipher is = is
opening_header now h kind text NoBar is = is
opening_header now h kind text NoStamp is = is
opening_header now h kind text (Text from to t) is =
    let c = content_in kind h (slice_range text from to) in
    header_if (is_fresh t now) (on_blocks h kind c) Nak (blocks_header h kind c is) tt

sealed_header : (now : ℕ) (h : Header) (kind : MessageKind) (rest : List ℕ) (key : Option (List ℕ)) → IsHeader h → HasHeader (on_sealed now h kind rest key)
sealed_header now h kind rest None is = is
sealed_header now h kind rest (Some key) is = opening_header now h kind (text_under key rest) (opening_of key rest) is

plain_header : (h : Header) (kind : MessageKind) (rest : List ℕ) (key : Option (List ℕ)) → IsHeader h → HasHeader (on_plain h kind rest key)
plain_header h kind rest None is = blocks_header h kind (content_in kind h rest) is
plain_header h kind rest (Some key) is = is

account_header : (now : ℕ) (h : Header) (kind : MessageKind) (rest : List ℕ) (account : Option Account) → IsHeader h → HasHeader (on_account now h kind rest account)
account_header now h kind rest None is = is
account_header now h kind rest (Some account) is =
    header_if h.sealed (on_sealed now h kind rest account.key) (on_plain h kind rest account.key)
    (sealed_header now h kind rest account.key is) (plain_header h kind rest account.key is)

kind_header : (setup : Setup) (now : ℕ) (h : Header) (rest : List ℕ) (kind : Option MessageKind) → IsHeader h → HasHeader (on_kind setup now h rest kind)
kind_header setup now h rest None is = is
kind_header setup now h rest (Some kind) is = account_header now h kind rest (account_of setup (capitals h.account)) is

found_header : (setup : Setup) (now : ℕ) (body : List ℕ) (found : Option (Header × ℕ)) → IfSome found (λ r. IsHeader r.0) → HasHeader (on_header setup now body found)
found_header setup now body None is = tt
found_header setup now body (Some found) is = kind_header setup now found.0 (drop found.1 body) (kind_of found.0.token) is

read_header : (body : List ℕ) (found : Option (Header × ℕ)) → found ≡ header_at body → IfSome found (λ r. IsHeader r.0)
read_header body None same = tt
read_header body (Some found) same = (is_read body (Some found) same).header

verdict_header : (setup : Setup) (now : ℕ) (body : List ℕ) → HasHeader (verdict_of setup now body)
unfolding verdict_of
verdict_header setup now body = found_header setup now body (header_at body) (read_header body (header_at body) refl)

-- A reply is nothing, or a frame whose body has no line feed and no carriage return.

pub record Framed (body reply : List ℕ) : Type 0 where
  pub is : reply ≡ frame_of body
  pub clean : list_all is_clean body ≡ true

abbrev pub IsReply : List ℕ → Type 0
IsReply reply = (reply ≡ []) ⊎ ((body : List ℕ) × Framed body reply)

clean_high : (x : ℕ) → 14 ≤ x → is_clean x ≡ true
clean_high x high = rw (ne_eqb x 10 (λ is. omega (arith, is, high)), ne_eqb x 13 (λ is. omega (arith, is, high))) refl

clean_if : (b : Bool) (n : ℕ) → is_clean (cond b (n + 48) (n + 55)) ≡ true
clean_if true n = clean_high (n + 48) (omega arith)
clean_if false n = clean_high (n + 55) (omega arith)

digit_clean : (n : ℕ) → is_clean (digit_of n) ≡ true
digit_clean n = clean_if (nat_lt n 10) n

four_clean : (n : ℕ) → list_all is_clean (four_digits n) ≡ true
four_clean n =
    and_from _ _ (digit_clean (n / 4096 % 16)) (and_from _ _ (digit_clean (n / 256 % 16))
    (and_from _ _ (digit_clean (n / 16 % 16)) (and_from _ _ (digit_clean (n % 16)) refl)))

digits_clean : (bytes : List ℕ) → list_all is_clean (upper_digits bytes) ≡ true
digits_clean [] = refl
digits_clean (b ∷ bytes) = and_from _ _ (digit_clean (b / 16)) (and_from _ _ (digit_clean (b % 16)) (digits_clean bytes))

both_clean : (xs ys : List ℕ) → list_all is_clean xs ≡ true → list_all is_clean ys ≡ true → list_all is_clean (xs ++ ys) ≡ true
both_clean xs ys first next = list_all-append is_clean xs ys ∙ and_from _ _ first next

-- what stands in the frame of such a body
pub piece_clean : (body : List ℕ) → list_all is_clean body ≡ true → list_all is_clean (piece_of body) ≡ true
piece_clean body clean =
    both_clean (four_digits (check_of body) ++ four_digits (length body)) body
    (both_clean (four_digits (check_of body)) (four_digits (length body)) (four_clean (check_of body)) (four_clean (length body))) clean

sealed_clean : (key : List ℕ) (h : Header) (stamp noise : List ℕ) → IsHeader h → list_all is_clean (sealed_ack_body key h stamp noise) ≡ true
sealed_clean key h stamp noise is =
    let digits = upper_digits (chain_encrypted key (ack_text stamp noise)) in
    both_clean (codes "\"*ACK\"" ++ fields h) (91 ∷ digits) (both_clean (codes "\"*ACK\"") (fields h) refl (fields_short h is).clean)
    (digits_clean (chain_encrypted key (ack_text stamp noise)))

acked : (sealed : Bool) (key : Option (List ℕ)) (h : Header) (reading : ℕ) (noise reply : List ℕ) → IsHeader h → IsAckBy sealed key h reading noise reply → IsReply reply
acked false key h reading noise reply is by = inr (echo_body Ack h, record { is = by.1; clean = (echo_is_body Ack h is).clean })
acked true key h reading noise reply is by = inr (
  sealed_ack_body by.0 h (stamp reading) noise,
  record { is = by.3; clean = sealed_clean by.0 h (stamp reading) noise is },
)

answered_by : (name : List ℕ) (base : Summary) (v : Verdict) (setup : Setup) (h x : List Entry) (t : Turn) → HasHeader v → IsMoment t.reading → IsAnswered name base setup 0 h x t v → IsReply t.reply
answered_by name base Silence setup h x t is moment w = inl w.reply
answered_by name base Nak setup h x t is moment w = inr (
  nak_body (stamp t.reading),
  record { is = w.reply; clean = (nak_is_body (stamp t.reading) (length-stamp t.reading) (stamp_clean t.reading moment)).clean },
)
answered_by name base (Duh header why) setup h x t is moment w = inr (echo_body DuhWord header, record { is = w.reply; clean = (echo_is_body DuhWord header is).clean })
answered_by name base (Beat header account) setup h x t is moment w =
    acked header.sealed (key_of setup (capitals header.account)) header t.reading t.noise t.reply is w.reply
answered_by name base (Numbered header m) setup h x t is moment w =
    acked header.sealed (key_of setup (capitals header.account)) header t.reading t.noise t.reply is w.reply

abbrev pub AreReplies : List Turn → Type 0
AreReplies [] = Unit {0}
AreReplies (t ∷ ts) = IsReply t.reply × AreReplies ts

-- the turns took their readings at one moment
pub are_replies : (name : List ℕ) (base : Summary) (setup : Setup) (clock : ℕ) (h x : List Entry) (turns : List Turn) → IsMoment clock → AreTurns name base setup 0 h x turns
    → readings_of line_turns turns ≡ replicate (length turns) clock → AreReplies turns
are_replies name base setup clock h x [] moment are same = tt
are_replies name base setup clock h x (t ∷ ts) moment are same =
    let first : t.reading ≡ clock = ap (λ (l : List ℕ). slice_index l 0) same in
    let rest : readings_of line_turns ts ≡ replicate (length ts) clock = ap (λ (l : List ℕ). drop 1 l) same in (
      answered_by name base (verdict_of setup t.reading t.body) setup h are.0 t (verdict_header setup t.reading t.body) (subst IsMoment (sym first) moment) are.1,
      are_replies name base setup clock are.0 x ts moment are.2 rest,
    )

-- Each entry is of a message or a heartbeat, and was known.

abbrev pub is_lined : Event → Bool
is_lined (E.Adopt text) = false
is_lined E.Start = false
is_lined (E.Message m via) = true
is_lined (E.Beat account) = true
is_lined E.Tick = false
is_lined (E.Claim operator number) = false
is_lined (E.Next operator) = false
is_lined (E.Act operator number step outcome) = false
is_lined (E.Release operator number) = false
is_lined (E.Close operator number code) = false
is_lined (E.Show number) = false
is_lined E.List = false

pub record IsLined (e : Entry) : Type 0 where
  pub lined : is_lined e.event ≡ true
  pub known : e.reply ≢ Unknown

abbrev pub AreLined : List Entry → Type 0
AreLined [] = Unit {0}
AreLined (e ∷ es) = IsLined e × AreLined es

pub both_lined : (es ds : List Entry) → AreLined es → AreLined ds → AreLined (es ++ ds)
both_lined [] ds first next = next
both_lined (e ∷ es) ds first next = (first.0, both_lined es ds first.1 next)

none_lined : (o : Option Entry) → o ≡ None → AreLined (option_to_list o)
none_lined o is = subst (λ (k : Option Entry). AreLined (option_to_list k)) (sym is) tt

some_lined : (o : Option Entry) (e : Entry) → o ≡ Some e → IsLined e → AreLined (option_to_list o)
some_lined o e is lined = subst (λ (k : Option Entry). AreLined (option_to_list k)) (sym is) (lined, tt)

entry_lined : (name : List ℕ) (base : Summary) (v : Verdict) (setup : Setup) (h x : List Entry) (t : Turn) → IsAnswered name base setup 0 h x t v → AreLined (option_to_list t.entry)
entry_lined name base Silence setup h x t w = none_lined t.entry w.entry
entry_lined name base Nak setup h x t w = none_lined t.entry w.entry
entry_lined name base (Duh header why) setup h x t w = none_lined t.entry w.entry
entry_lined name base (Beat header account) setup h x t w = some_lined t.entry w.entry w.taken (record { lined = ap is_lined w.of; known = w.known })
entry_lined name base (Numbered header m) setup h x t w = some_lined t.entry w.entry w.taken (record { lined = ap is_lined w.of; known = w.known })

pub turns_lined : (name : List ℕ) (base : Summary) (setup : Setup) (h x : List Entry) (turns : List Turn) → AreTurns name base setup 0 h x turns → AreLined (entries_of line_turns turns)
turns_lined name base setup h x [] are = tt
turns_lined name base setup h x (t ∷ ts) are =
    both_lined (option_to_list t.entry) (entries_of line_turns ts)
    (entry_lined name base (verdict_of setup t.reading t.body) setup h are.0 t are.1) (turns_lined name base setup are.0 x ts are.2)

pub lined_reverse : (es : List Entry) → AreLined es → AreLined (reverse es)
lined_reverse [] lined = tt
lined_reverse (e ∷ es) lined =
    subst AreLined (sym (reverse-append (e ∷ []) es)) (both_lined (reverse es) (e ∷ []) (lined_reverse es lined.1) (lined.0, tt))
