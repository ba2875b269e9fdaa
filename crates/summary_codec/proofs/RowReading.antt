-- Rows: each is read exactly where it is spelled.
use Rattle.std.proofs.Common.{◌≡◌, ℕ, ◌^◌, ◌≤◌, Bool, true, List, [], ◌∷◌, ◌++◌, length, refl, sym, ap, ◌∙◌, arith}
use Rattle.std.specs.Prelude.{reverse}
use Rattle.std.specs.Int.{w16, w32, to_be_bytes}
use Rattle.std.proofs.lemmas.List.{reverse-append, reverse-reverse, length-reverse}
use Rattle.arc_data.specs.Digits.{is_run, is_hex, is_capital_hex, AreBytes}
use Rattle.arc_data.specs.WellFormed.{is_receiver, IsText}
use Rattle.arc_data.specs.declared.incident.Opened.{Opened}
use Rattle.event_codec.specs.Spelling.{short_text, receiver_text, token_byte}
use Rattle.event_codec.specs.Reading.{number_up_to, short_at, receiver_at, long_at, token_of, coded_at, account_at}
use Rattle.event_codec.proofs.Readers.{IsReader, reworded, wide16, wide32}
use Rattle.event_codec.proofs.Fields.{a_number_up_to, a_short, a_receiver, a_long}
use Rattle.event_codec.proofs.Codes.{token_of-byte, token_byte-of}
use Rattle.centre_rules.specs.Summary.{Past}
use Rattle.summary_rules.specs.Lists.{Every}
use Rattle.summary_rules.specs.Fields.{IsLongNumber, IsAccount, IsPastOf, IsRow}
use Rattle.summary_rules.specs.Spelling.{truth_byte, option_text, long_number, long_text, few_texts, opening_text, past_text, row_text}
use Rattle.summary_rules.proofs.Everies.{every_weaker, every_append}
use Rattle.summary_codec.specs.Reading.{MessageParts, opening_of, opening_at, message_parts_at, past_of, past_at, row_of_parts, row_at}
use Rattle.summary_codec.proofs.Combining.{Spelled, Anything, paired, made, a_long_number, a_few, a_coded, a_truth, an_option}

-- Lists.

pub every_reverse : {A : Type 0} (P : A → Type 0) (xs : List A) → Every P xs → Every P (reverse xs)
every_reverse P [] w = tt
every_reverse P (x ∷ xs) w = rw (reverse-append (x ∷ []) xs) (every_append P (reverse xs) (x ∷ []) (every_reverse P xs w.1) (w.0, tt))

-- Fields that events have, too.

pub a_short_text : (test : List ℕ → Bool) → IsReader (short_at test) (Spelled (λ x. test x ≡ true) short_text)
a_short_text test = reworded (Spelled (λ x. test x ≡ true) short_text) (a_short test)
    (λ x t h. record { ok = h.passed; is = h.is })
    (λ x t h. record { passed = h.ok; is = h.is })

pub an_account : IsReader account_at (Spelled IsAccount short_text)
an_account = a_short_text (is_run is_capital_hex 3 16)

a_receiver_text : IsReader receiver_at (Spelled (λ r. is_receiver r ≡ true) receiver_text)
a_receiver_text = reworded (Spelled (λ r. is_receiver r ≡ true) receiver_text) a_receiver
    (λ x t h. record { ok = h.passed; is = h.is })
    (λ x t h. record { passed = h.ok; is = h.is })

a_sequence : IsReader (number_up_to w16 9999) (Spelled (λ n. n ≤ 9999) (to_be_bytes w16))
a_sequence = reworded (Spelled (λ n. n ≤ 9999) (to_be_bytes w16)) (a_number_up_to w16 (2 ^ 16) 9999 wide16 (omega arith))
    (λ x t h. record { ok = h.below; is = h.is })
    (λ x t h. record { below = h.ok; is = h.is })

a_token : IsReader (coded_at token_of) (Spelled Anything (λ x. token_byte x ∷ []))
a_token = a_coded token_of token_byte Anything (λ b x e. (token_byte-of b x e, tt)) (λ x ok. token_of-byte x)

-- the content of a message
record IsContent (content : List ℕ) : Type 0 where
  size : length content ≤ 4095
  bytes : AreBytes content

content_text : List ℕ → List ℕ
content_text content = to_be_bytes w16 (length content) ++ content

a_content : IsReader (long_at w16 4095) (Spelled IsContent content_text)
unfolding content_text
a_content = reworded (Spelled IsContent content_text) (a_long w16 (2 ^ 16) 4095 wide16 (omega arith))
    (λ x t h. record { ok = record { size = h.size; bytes = h.bytes }; is = h.is })
    (λ x t h. record { size = h.ok.size; bytes = h.ok.bytes; is = h.is })

pub a_setup_text : IsReader (long_at w32 4194304) (Spelled IsText long_text)
unfolding long_text
a_setup_text = reworded (Spelled IsText long_text) (a_long w32 (2 ^ 32) 4194304 wide32 (omega arith))
    (λ x t h. record { ok = record { size = h.size; bytes = h.bytes }; is = h.is })
    (λ x t h. record { size = h.ok.size; bytes = h.ok.bytes; is = h.is })

-- Openings.

an_opening : IsReader opening_at (Spelled (λ (o : Opened). IsLongNumber o.at) opening_text)
an_opening = made opening_of (λ (o : Opened). IsLongNumber o.at) opening_text (paired a_long_number (λ at. a_truth))
    (λ p w. record { ok = w.0; text = refl })
    (λ o w. record { part = (o.at, o.late); ok = (w, tt); made = refl; text = refl })

-- Messages.

-- the parts of a message
record AreParts (p : MessageParts) : Type 0 where
  receiver : is_receiver p.0 ≡ true
  line : is_run is_hex 1 6 p.1.0 ≡ true
  sequence : p.1.1.0 ≤ 9999
  content : IsContent p.1.1.1.1

parts_text : MessageParts → List ℕ
parts_text p = receiver_text p.0 ++ (short_text p.1.0 ++ (to_be_bytes w16 p.1.1.0 ++ (token_byte p.1.1.1.0 ∷ content_text p.1.1.1.1)))

message_parts : IsReader message_parts_at (Spelled AreParts parts_text)
unfolding message_parts_at parts_text
message_parts = reworded (Spelled AreParts parts_text)
    (paired a_receiver_text (λ r. paired (a_short_text (is_run is_hex 1 6)) (λ l. paired a_sequence (λ n. paired a_token (λ t. a_content)))))
    (λ p t h. record { ok = record { receiver = h.ok.0; line = h.ok.1.0; sequence = h.ok.1.1.0; content = h.ok.1.1.1.1 }; is = h.is })
    (λ p t h. record { ok = (h.ok.receiver, (h.ok.line, (h.ok.sequence, (tt, h.ok.content)))); is = h.is })

-- a message of an account, whose account is not looked at
record IsPastPart (account : List ℕ) (p : Past) : Type 0 where
  at : IsLongNumber p.at
  of : p.message.account ≡ account
  receiver : is_receiver p.message.receiver ≡ true
  line : is_run is_hex 1 6 p.message.line ≡ true
  sequence : p.message.seq ≤ 9999
  size : length p.message.content ≤ 4095
  bytes : AreBytes p.message.content

a_past : (account : List ℕ) → IsReader (past_at account) (Spelled (IsPastPart account) past_text)
unfolding parts_text content_text
a_past account = made (past_of account) (IsPastPart account) past_text (paired a_long_number (λ at. message_parts))
    (λ p w. record {
      ok = record { at = w.0; of = refl; receiver = w.1.receiver; line = w.1.line; sequence = w.1.sequence; size = w.1.content.size; bytes = w.1.content.bytes };
      text = refl;
    })
    (λ p w. record {
      part = (p.at, (p.message.receiver, (p.message.line, (p.message.seq, (p.message.token, p.message.content)))));
      ok = (w.at, record { receiver = w.receiver; line = w.line; sequence = w.sequence; content = record { size = w.size; bytes = w.bytes } });
      made = λ i. record p { message = record p.message { account = sym w.of i } };
      text = refl;
    })

past_of_part : (account : List ℕ) → IsAccount account → (p : Past) → IsPastPart account p → IsPastOf account p
past_of_part account ok p w = record {
  at = w.at;
  message = record { account = ap (is_run is_capital_hex 3 16) w.of ∙ ok; receiver = w.receiver; line = w.line; sequence = w.sequence; size = w.size; bytes = w.bytes };
  of = w.of;
}

part_of_past : (account : List ℕ) (p : Past) → IsPastOf account p → IsPastPart account p
part_of_past account p w = record { at = w.at; of = w.of; receiver = w.message.receiver; line = w.message.line; sequence = w.message.sequence; size = w.message.size; bytes = w.message.bytes }

-- Rows.

pub a_row : IsReader row_at (Spelled IsRow row_text)
unfolding row_at row_text
a_row = made row_of_parts IsRow row_text
    (paired an_account (λ account. paired (an_option IsLongNumber long_number a_long_number) (λ h. paired a_truth (λ f.
    paired (an_option (λ (o : Opened). IsLongNumber o.at) opening_text an_opening) (λ o. a_few 32 (IsPastPart account) past_text (a_past account))))))
    (λ p w. record {
      ok = record {
        account = w.0;
        heard = w.1.0;
        opening = w.1.1.1.0;
        few = omega (arith, w.1.1.1.1.0, length-reverse p.1.1.1.1);
        messages = every_reverse (IsPastOf p.0) p.1.1.1.1 (every_weaker (IsPastPart p.0) (IsPastOf p.0) (past_of_part p.0 w.0) p.1.1.1.1 w.1.1.1.1.1);
      };
      text = ap (λ (l : List Past). short_text p.0 ++ (option_text long_number p.1.0 ++ (truth_byte p.1.1.0 ∷ (option_text opening_text p.1.1.1.0 ++ few_texts past_text l)))) (sym (reverse-reverse p.1.1.1.1));
    })
    (λ r w. record {
      part = (r.account, (r.heard, (r.failed, (r.opening, reverse r.messages))));
      ok = (w.account, (w.heard, (tt, (w.opening, (omega (arith, w.few, length-reverse r.messages), every_reverse (IsPastPart r.account) r.messages (every_weaker (IsPastOf r.account) (IsPastPart r.account) (part_of_past r.account) r.messages w.messages))))));
      made = ap (λ (l : List Past). record r { messages = l }) (reverse-reverse r.messages);
      text = refl;
    })
