-- The bodies of a history with one entry more, and how long a body is.
use Rattle.std.proofs.Common.{◌≡◌, ◌≤◌, ℕ, List, [], ◌∷◌, ◌++◌, Bool, true, false, length, Option, Some, None, refl, ap, ◌∙◌, arith, length-append}
use Rattle.std.specs.Prelude.{map, reverse, ◌&&◌, nat_le, if◌then◌else◌}
use Rattle.std.specs.Int.{to_be_bytes, w16, w64}
use Rattle.std.specs.Option.{option_map_or}
use Rattle.arc_data.specs.declared.reply.Reply.TheVariants.{NotOpen, Shown}
use Rattle.std.proofs.lemmas.Bool.{leb-true, false≢true}
use Rattle.std.proofs.lemmas.List.{reverse-append}
use Rattle.arc_data.specs.Digits.{is_between, is_run, is_name}
use Rattle.arc_data.specs.WellFormed.{IsWellFormed, IsMessage, IsSent, is_receiver}
use Rattle.arc_data.specs.declared.event.Event.{Event}
use Rattle.arc_data.specs.declared.event.Event.TheVariants.{Adopt, Start, Message as Sent, Beat, Tick}
use Rattle.arc_data.specs.declared.event.Event.TheVariants.{Claim, Next, Act, Release, Close, Show, List as Rows}
use Rattle.arc_data.specs.declared.event.Message.{Message}
use Rattle.arc_data.specs.declared.incident.Incident.{Incident}
use Rattle.centre_rules.specs.Summary.{Summary}
use Rattle.centre_rules.specs.Standing.{standing}
use Rattle.centre_rules.specs.Desks.{numbered, view_of}
use Rattle.centre_rules.specs.History.{Entry, recorded, is_recorded, marks}
use Rattle.centre_rules.specs.Answers.{answer}
use Rattle.disk_journal.specs.Records.{MayHave}
use Rattle.event_codec.specs.Spelling.{spelling, fields_in, via_text, short_text, receiver_text, message_fields, order_fields, token_byte, step_byte, outcome_byte, code_byte, IsKept}
use Rattle.centre_store.specs.Bodies.{body_in, bodies_in}

-- a recorded entry brings one body more
pub bodies_more : (version : ℕ) (e : Entry) (h : List Entry) → is_recorded e.reply ≡ true
    → bodies_in version (e ∷ h) ≡ bodies_in version h ++ body_in version e ∷ []
unfolding bodies_in
bodies_more version e h is =
    ap (λ (b : Bool). reverse (map (body_in version) (if b then e ∷ recorded h else recorded h))) is
    ∙ reverse-append (body_in version e ∷ []) (map (body_in version) (recorded h))

-- a quiet one none
pub bodies_same : (version : ℕ) (e : Entry) (h : List Entry) → is_recorded e.reply ≡ false → bodies_in version (e ∷ h) ≡ bodies_in version h
unfolding bodies_in
bodies_same version e h is = ap (λ (b : Bool). reverse (map (body_in version) (if b then e ∷ recorded h else recorded h))) is

-- Lengths.

first_true : (a b : Bool) → (a && b) ≡ true → a ≡ true
first_true true b e = refl
first_true false b e = e

second_true : (a b : Bool) → (a && b) ≡ true → b ≡ true
second_true true b e = e
second_true false b e = absurd cc

-- what passes has no more bytes than the higher limit
run_short : (test : ℕ → Bool) (low high : ℕ) (text : List ℕ) → is_run test low high text ≡ true → length text ≤ high
run_short test low high text is = leb-true _ _ (second_true (nat_le low (length text)) _ (first_true (is_between low high (length text)) _ is))

receiver_short : (r : Option (List ℕ)) → is_receiver r ≡ true → length (receiver_text r) ≤ 7
receiver_short None is = omega arith
receiver_short (Some digits) is = omega (arith, run_short _ 1 6 digits is)

message_short : (m : Message) → IsMessage m → length (message_fields m) ≤ 4200
message_short m is =
    let tail : List ℕ = to_be_bytes w16 m.seq ++ (token_byte m.token ∷ (to_be_bytes w16 (length m.content) ++ m.content)) in
    omega (
      arith,
      run_short _ 3 16 m.account is.account,
      receiver_short m.receiver is.receiver,
      run_short _ 1 6 m.line is.line,
      is.size,
      length-append (short_text m.account) (receiver_text m.receiver ++ (short_text m.line ++ tail)),
      length-append (receiver_text m.receiver) (short_text m.line ++ tail),
      length-append (short_text m.line) tail,
    )

sent_short : (m : Message) (via : List ℕ) → IsSent m via → length (message_fields m ++ via_text 2 via) ≤ 4217
sent_short m via is = omega (arith, message_short m is.message, run_short _ 1 16 via is.line_name, length-append (message_fields m) (via_text 2 via))

order_short : (operator : List ℕ) (number : ℕ) → is_name operator ≡ true → length (order_fields operator number) ≤ 25
order_short operator number is = omega (arith, run_short _ 1 16 operator is, length-append (short_text operator) (to_be_bytes w64 number))

pub fields_short : (event : Event) → IsWellFormed event → length (fields_in 2 event) ≤ 4_194_308
fields_short (Adopt text) is = omega (arith, is.size)
fields_short Start is = omega arith
fields_short (Sent m via) is = omega (arith, sent_short m via is)
fields_short (Beat account) is = omega (arith, run_short _ 3 16 account is)
fields_short Tick is = omega arith
fields_short (Claim operator number) is = omega (arith, order_short operator number is.operator_name)
fields_short (Next operator) is = omega (arith, run_short _ 1 16 operator is)
fields_short (Act operator number step outcome) is =
    omega (arith, order_short operator number is.order.operator_name, length-append (order_fields operator number) (step_byte step ∷ outcome_byte outcome ∷ []))
fields_short (Release operator number) is = omega (arith, order_short operator number is.operator_name)
fields_short (Close operator number code) is =
    omega (arith, order_short operator number is.operator_name, length-append (order_fields operator number) (code_byte code ∷ []))
fields_short (Show number) is = omega arith
fields_short Rows is = omega arith

-- the spelling of a well-formed event is a body that a journal takes
pub body_size : (event : Event) (at : ℕ) → IsWellFormed event → MayHave (length (spelling event at))
body_size event at is = let short : length (fields_in 2 event) ≤ 4_194_308 = fields_short event is in (omega arith, omega arith)

-- Questions are not recorded.

shown_quiet : (number : ℕ) (i : Option Incident) → is_recorded (option_map_or (λ x. Shown (view_of x)) i (NotOpen number)) ≡ true → ⊥
shown_quiet number None is = false≢true is
shown_quiet number (Some i) is = false≢true is

pub kept_event : (b : Summary) (h : List Entry) (event : Event) (at : ℕ) → is_recorded (answer b h event at) ≡ true → IsKept event
kept_event b h (Show number) at is = shown_quiet number (numbered number (standing b (marks b h) at)) is
kept_event b h Rows at is = false≢true is
kept_event b h event at is = tt
