-- Messages, orders and acts: each is read exactly where its spelling stands.
use Rattle.std.proofs.Common.{◌≡◌, ℕ, ◌^◌, true, List, [], ◌∷◌, ◌++◌, length, Option, Some, refl, sym, ap, subst, ◌∙◌, append-nil, arith}
use Rattle.std.specs.Int.{w16, w64, to_be_bytes}
use Rattle.arc_data.specs.Digits.{is_run, is_hex, is_capital_hex, is_name}
use Rattle.arc_data.specs.Steps.{is_step, fits}
use Rattle.arc_data.specs.WellFormed.{IsMessage, IsOrder}
use Rattle.arc_data.specs.declared.event.Message.{Message}
use Rattle.arc_data.specs.declared.step.Outcome.{Outcome}
use Rattle.arc_data.specs.declared.step.Step.{Step}
use Rattle.event_codec.specs.Spelling.{short_text, receiver_text, token_byte, step_byte, outcome_byte, order_fields, message_fields}
use Rattle.event_codec.specs.Reading.{token_of, step_of, outcome_of, message_at, order_at, outcome_at}
use Rattle.event_codec.proofs.Readers.{IsReader, reworded, seq, giving, passing, wide16, wide64, a_number}
use Rattle.event_codec.proofs.Fields.{step, last, a_number_up_to, a_short, a_receiver, a_long, a_code}
use Rattle.event_codec.proofs.Codes.{token_of-byte, token_byte-of, step_of-byte, step_byte-of, outcome_of-byte, outcome_byte-of}

some : {A : Type 0} → A → Option A
some x = Some x

some_is : {A : Type 0} (x y : A) → Some x ≡ some y → x ≡ y
unfolding some
some_is x y e = cc

pub record IsMessageText (m : Message) (text : List ℕ) : Type 0 where
  pub message : IsMessage m
  pub is : text ≡ message_fields m

pub a_message : IsReader message_at IsMessageText
unfolding message_at some
a_message = reworded IsMessageText
    (seq (a_short (is_run is_capital_hex 3 16)) (λ account.
    seq a_receiver (λ receiver.
    seq (a_short (is_run is_hex 1 6)) (λ line.
    seq (a_number_up_to w16 (2 ^ 16) 9999 wide16 (omega arith)) (λ number.
    seq (a_code token_of) (λ token.
    seq (a_long w16 (2 ^ 16) 4095 wide16 (omega arith)) (λ content.
    giving (Some (record { account = account; receiver = receiver; line = line; seq = number; token = token; content = content })))))))))
    (λ m t a.
    let b = a.is_second in
    let c = b.is_second in
    let d = c.is_second in
    let e = d.is_second in
    let g = e.is_second in
    let end = g.is_second in
    let made : Message = record { account = a.first; receiver = b.first; line = c.first; seq = d.first; token = e.first; content = g.first } in
    let token_is : e.is_first.byte ∷ [] ≡ token_byte e.first ∷ [] = ap (λ (k : ℕ). k ∷ []) (sym (token_byte-of e.is_first.byte e.first e.is_first.stands)) in
    let text : t ≡ message_fields made =
    step a.joined a.is_first.is
    (step b.joined b.is_first.is
    (step c.joined c.is_first.is
    (step d.joined d.is_first.is
    (step e.joined (e.is_first.is ∙ token_is)
    (last g.joined g.is_first.is end.none))))) in
    subst (λ (y : Message). IsMessageText y t) (some_is made m end.is) (record {
      message = record { account = a.is_first.passed; receiver = b.is_first.passed; line = c.is_first.passed; sequence = d.is_first.below; size = g.is_first.size; bytes = g.is_first.bytes };
      is = text;
    }))
    (λ m t h.
    let ok = h.message in
    record {
      first = m.account;
      front = short_text m.account;
      back = _;
      is_first = record { passed = ok.account; is = refl };
      is_second = record {
        first = m.receiver;
        front = receiver_text m.receiver;
        back = _;
        is_first = record { passed = ok.receiver; is = refl };
        is_second = record {
          first = m.line;
          front = short_text m.line;
          back = _;
          is_first = record { passed = ok.line; is = refl };
          is_second = record {
            first = m.seq;
            front = to_be_bytes w16 m.seq;
            back = _;
            is_first = record { below = ok.sequence; is = refl };
            is_second = record {
              first = m.token;
              front = token_byte m.token ∷ [];
              back = to_be_bytes w16 (length m.content) ++ m.content;
              is_first = record { byte = token_byte m.token; stands = token_of-byte m.token; is = refl };
              is_second = record {
                first = m.content;
                front = to_be_bytes w16 (length m.content) ++ m.content;
                back = [];
                is_first = record { size = ok.size; bytes = ok.bytes; is = refl };
                is_second = record { is = refl; none = refl };
                joined = sym (append-nil (to_be_bytes w16 (length m.content) ++ m.content));
              };
              joined = refl;
            };
            joined = refl;
          };
          joined = refl;
        };
        joined = refl;
      };
      joined = h.is;
    })

pub record IsOrderText (o : List ℕ × ℕ) (text : List ℕ) : Type 0 where
  pub order : IsOrder o.0 o.1
  pub is : text ≡ order_fields o.0 o.1

pub an_order : IsReader order_at IsOrderText
unfolding order_at some
an_order = reworded IsOrderText (seq (a_short is_name) (λ operator. seq (a_number w64 (2 ^ 64) wide64) (λ number. giving (Some (operator, number)))))
    (λ o t a.
    let b = a.is_second in
    let made : List ℕ × ℕ = (a.first, b.first) in
    let text : t ≡ order_fields a.first b.first = step a.joined a.is_first.is (last b.joined b.is_first.is b.is_second.none) in
    subst (λ (y : List ℕ × ℕ). IsOrderText y t) (some_is made o b.is_second.is) (record { order = record { operator_name = a.is_first.passed; number_fits = b.is_first.below }; is = text }))
    (λ o t h. record {
      first = o.0;
      front = short_text o.0;
      back = to_be_bytes w64 o.1;
      is_first = record { passed = h.order.operator_name; is = refl };
      is_second = record {
        first = o.1;
        front = to_be_bytes w64 o.1;
        back = [];
        is_first = record { below = h.order.number_fits; is = refl };
        is_second = record { is = refl; none = refl };
        joined = sym (append-nil (to_be_bytes w64 o.1));
      };
      joined = h.is;
    })

pub record IsOutcomeText (a : Step × Outcome) (text : List ℕ) : Type 0 where
  pub known : is_step a.0 ≡ true
  pub outcome_fits : fits a.0 a.1 ≡ true
  pub is : text ≡ step_byte a.0 ∷ outcome_byte a.1 ∷ []

pub an_outcome : IsReader outcome_at IsOutcomeText
unfolding outcome_at
an_outcome = reworded IsOutcomeText (seq (a_code step_of) (λ s. seq (a_code outcome_of) (λ o. passing (fits s o) (s, o))))
    (λ x t a.
    let b = a.is_second in
    let end = b.is_second in
    let s = step_byte-of a.is_first.byte a.first a.is_first.stands in
    let front : a.is_first.byte ∷ [] ≡ step_byte a.first ∷ [] = ap (λ (k : ℕ). k ∷ []) (sym s.byte) in
    let back : b.is_first.byte ∷ [] ≡ outcome_byte b.first ∷ [] = ap (λ (k : ℕ). k ∷ []) (sym (outcome_byte-of b.is_first.byte b.first b.is_first.stands)) in
    let text : t ≡ step_byte a.first ∷ outcome_byte b.first ∷ [] = step a.joined (a.is_first.is ∙ front) (last b.joined (b.is_first.is ∙ back) end.none) in
    subst (λ (y : Step × Outcome). IsOutcomeText y t) end.is (record { known = s.known; outcome_fits = end.passed; is = text }))
    (λ x t h. record {
      first = x.0;
      front = step_byte x.0 ∷ [];
      back = outcome_byte x.1 ∷ [];
      is_first = record { byte = step_byte x.0; stands = step_of-byte x.0 h.known; is = refl };
      is_second = record {
        first = x.1;
        front = outcome_byte x.1 ∷ [];
        back = [];
        is_first = record { byte = outcome_byte x.1; stands = outcome_of-byte x.1; is = refl };
        is_second = record { passed = h.outcome_fits; is = refl; none = refl };
        joined = refl;
      };
      joined = h.is;
    })
