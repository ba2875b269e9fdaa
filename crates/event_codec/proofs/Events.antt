-- Events and moments: each is read exactly where its spelling stands, in either version.
use Rattle.std.proofs.Common.{◌≡◌, ℕ, ◌^◌, Bool, true, false, eqb, List, [], ◌∷◌, ◌++◌, Option, Some, None, Result, Ok, Err, refl, sym, ap, subst, ◌∙◌, append-nil, arith}
use Rattle.std.specs.Prelude.{◌==◌, if◌then◌else◌, IfOk, IfSome, IsSome, MatchOption}
use Rattle.std.specs.Int.{w32, w64, to_be_bytes}
use Rattle.std.proofs.lemmas.Bool.{eqb-true, false≢true}
use Rattle.arc_data.specs.Digits.{is_run, is_capital_hex, is_name}
use Rattle.arc_data.specs.WellFormed.{IsWellFormed}
use Rattle.arc_data.specs.declared.event.Event.{Event}
use Rattle.arc_data.specs.declared.event.Event.TheVariants.{Adopt, Start, Message as Sent, Beat, Tick}
use Rattle.arc_data.specs.declared.event.Event.TheVariants.{Claim, Next, Act, Release, Close, Show, List as Rows}
use Rattle.event_codec.specs.Spelling.{short_text, order_fields, message_fields, via_of_one, via_text, step_byte, outcome_byte, code_byte}
use Rattle.event_codec.specs.Spelling.{tag, fields_in, spelling_in, IsKept, IsNamedIn, HasSpellingIn}
use Rattle.event_codec.specs.Reading.{◌>>=◌, short_at, long_at, code_of, coded_at, account_at, via_at, sent_at, order_at, outcome_at, other_fields_at, fields_at, event_at, alone, decoded}
use Rattle.event_codec.proofs.Readers.{IsBytes, IsReader, reworded, Then, seq, Given, giving, Either, either, nothing, a_byte, wide32, wide64}
use Rattle.event_codec.proofs.Fields.{step, last, a_number_up_to, IsShort, a_short, IsLong, a_long, IsCode, a_code}
use Rattle.event_codec.proofs.Codes.{code_of-byte, code_byte-of}
use Rattle.event_codec.proofs.Parts.{IsMessageText, a_message, IsOrderText, an_order, IsOutcomeText, an_outcome}

abbrev some : {A : Type 0} → A → Option A
some x = Some x

some_is : {A : Type 0} (x y : A) → some x ≡ some y → x ≡ y
some_is x y e = cc

-- the fields of an event with this tag
pub record IsOfTag (version n : ℕ) (e : Event) (text : List ℕ) : Type 0 where
  pub tagged : tag e ≡ n
  pub kept : IsKept e
  pub well_formed : IsWellFormed e
  pub named : IsNamedIn version e
  pub is : text ≡ fields_in version e

-- an event that was made of what one reading gave
made : {A : Type 0} {read : List ℕ → Option (A × List ℕ)} {S : A → List ℕ → Type 0} (version n : ℕ) (make : A → Event) → IsReader read S
    → ((x : A) (t : List ℕ) → S x t → IsOfTag version n (make x) t) → ((e : Event) (t : List ℕ) → IsOfTag version n e t → (x : A) × (make x ≡ e) × S x t)
    → IsReader (λ bytes. read bytes >>= λ p. Some (make p.0, p.1)) (IsOfTag version n)
made version n make r there back = reworded (IsOfTag version n) (seq r (λ x. giving (Some (make x))))
    (λ e t h.
    let text : t ≡ h.front = last h.joined refl h.is_second.none in
    subst (λ (y : Event). IsOfTag version n y t) (some_is (make h.first) e h.is_second.is)
    (subst (λ (u : List ℕ). IsOfTag version n (make h.first) u) (sym text) (there h.first h.front h.is_first)))
    (λ e t h.
    let x = back e t h in
    record { first = x.0; front = t; back = []; is_first = x.2; is_second = record { is = ap some x.1; none = refl }; joined = sym (append-nil t) })

-- one that has no fields
bare : (version n : ℕ) (e : Event) → tag e ≡ n → IsKept e → IsWellFormed e → IsNamedIn version e → fields_in version e ≡ [] → ((other : Event) → tag other ≡ n → IsKept other → e ≡ other)
    → IsReader (λ bytes. Some (e, bytes)) (IsOfTag version n)
bare version n e tagged kept well named empty alone = reworded (IsOfTag version n) (giving (Some e))
    (λ other t h. subst (λ (y : Event). IsOfTag version n y t) (some_is e other h.is) (record { tagged = tagged; kept = kept; well_formed = well; named = named; is = h.none ∙ sym empty }))
    (λ other t h. let same = alone other h.tagged h.kept in record { is = ap some same; none = h.is ∙ ap (fields_in version) (sym same) ∙ empty })

an_adopt : (version : ℕ) → IsReader (λ bytes. long_at w32 4194304 bytes >>= λ p. Some (Adopt p.0, p.1)) (IsOfTag version 1)
an_adopt version = made version 1 (λ text. Adopt text) (a_long w32 (2 ^ 32) 4194304 wide32 (omega arith))
    (λ x t s. record { tagged = refl; kept = tt; well_formed = record { size = s.size; bytes = s.bytes }; named = tt; is = s.is }) back
  where
    back : (e : Event) (t : List ℕ) → IsOfTag version 1 e t → (x : List ℕ) × (Adopt x ≡ e) × IsLong w32 4194304 x t
    back (Adopt text) t h = (text, refl, record { size = h.well_formed.size; bytes = h.well_formed.bytes; is = h.is })
    back other t h = absurd (omega (arith, h.tagged))

a_start : (version : ℕ) → IsReader (λ bytes. Some (Start, bytes)) (IsOfTag version 2)
a_start version = bare version 2 Start refl tt tt tt refl same
  where
    same : (other : Event) → tag other ≡ 2 → IsKept other → Start ≡ other
    same Start tagged kept = refl
    same other tagged kept = absurd (omega (arith, tagged))

-- the name of a line
pub record IsViaText (version : ℕ) (via text : List ℕ) : Type 0 where
  pub line_name : is_name via ≡ true
  pub named : version ≡ 1 → via ≡ via_of_one
  pub is : text ≡ via_text version via

a_via : (version : ℕ) → IsReader (via_at version) (IsViaText version)
unfolding via_at
a_via version = reworded (IsViaText version)
    (either (eqb version 1) (λ bytes. Some (via_of_one, bytes)) (short_at is_name) (Given (Some via_of_one)) (IsShort is_name) (giving (Some via_of_one)) (a_short is_name))
    (λ via text h. there via text (eqb version 1) refl h)
    (λ via text h. back via text (eqb version 1) refl h)
  where
    text_by : (via : List ℕ) (test : Bool) → eqb version 1 ≡ test → via_text version via ≡ (if test then [] else short_text via)
    text_by via test e = ap (λ (b : Bool). if b then [] else short_text via) e

    there : (via text : List ℕ) (test : Bool) → eqb version 1 ≡ test → Either test (Given (Some via_of_one)) (IsShort is_name) via text → IsViaText version via text
    there via text true same h =
        let one : via_of_one ≡ via = some_is via_of_one via h.is in
        record { line_name = ap is_name (sym one); named = λ e. sym one; is = h.none ∙ sym (text_by via true same) }
    there via text false differs h =
        record { line_name = h.passed; named = λ e. absurd (false≢true (sym differs ∙ ap (λ (k : ℕ). eqb k 1) e)); is = h.is ∙ sym (text_by via false differs) }

    back : (via text : List ℕ) (test : Bool) → eqb version 1 ≡ test → IsViaText version via text → Either test (Given (Some via_of_one)) (IsShort is_name) via text
    back via text true same h = record { is = ap some (sym (h.named (eqb-true version 1 same))); none = h.is ∙ text_by via true same }
    back via text false differs h = record { passed = h.line_name; is = h.is ∙ text_by via false differs }

a_sent : (version : ℕ) → IsReader (sent_at version) (IsOfTag version 3)
unfolding sent_at
a_sent version = reworded (IsOfTag version 3) (seq a_message (λ m. seq (a_via version) (λ via. giving (Some (Sent m via)))))
    (λ e t h.
    let m = h.is_first in
    let v = h.is_second.is_first in
    let text : t ≡ message_fields h.first ++ via_text version h.is_second.first = step h.joined m.is (last h.is_second.joined v.is h.is_second.is_second.none) in
    subst (λ (y : Event). IsOfTag version 3 y t) (some_is (Sent h.first h.is_second.first) e h.is_second.is_second.is)
    (record { tagged = refl; kept = tt; well_formed = record { message = m.message; line_name = v.line_name }; named = v.named; is = text }))
    back
  where
    back : (e : Event) (t : List ℕ) → IsOfTag version 3 e t → Then IsMessageText (λ m. Then (IsViaText version) (λ via. Given (Some (Sent m via)))) e t
    back (Sent m via) t h = record {
      first = m;
      front = message_fields m;
      back = via_text version via;
      is_first = record { message = h.well_formed.message; is = refl };
      is_second = record {
        first = via;
        front = via_text version via;
        back = [];
        is_first = record { line_name = h.well_formed.line_name; named = h.named; is = refl };
        is_second = record { is = refl; none = refl };
        joined = sym (append-nil (via_text version via));
      };
      joined = h.is;
    }
    back other t h = absurd (omega (arith, h.tagged))

a_beat : (version : ℕ) → IsReader (λ bytes. account_at bytes >>= λ p. Some (Beat p.0, p.1)) (IsOfTag version 4)
a_beat version = made version 4 (λ account. Beat account) (a_short (is_run is_capital_hex 3 16)) (λ x t s. record { tagged = refl; kept = tt; well_formed = s.passed; named = tt; is = s.is }) back
  where
    back : (e : Event) (t : List ℕ) → IsOfTag version 4 e t → (x : List ℕ) × (Beat x ≡ e) × IsShort (is_run is_capital_hex 3 16) x t
    back (Beat account) t h = (account, refl, record { passed = h.well_formed; is = h.is })
    back other t h = absurd (omega (arith, h.tagged))

a_tick : (version : ℕ) → IsReader (λ bytes. Some (Tick, bytes)) (IsOfTag version 5)
a_tick version = bare version 5 Tick refl tt tt tt refl same
  where
    same : (other : Event) → tag other ≡ 5 → IsKept other → Tick ≡ other
    same Tick tagged kept = refl
    same other tagged kept = absurd (omega (arith, tagged))

a_claim : (version : ℕ) → IsReader (λ bytes. order_at bytes >>= λ p. Some (Claim p.0.0 p.0.1, p.1)) (IsOfTag version 6)
a_claim version = made version 6 (λ o. Claim o.0 o.1) an_order (λ x t s. record { tagged = refl; kept = tt; well_formed = s.order; named = tt; is = s.is }) back
  where
    back : (e : Event) (t : List ℕ) → IsOfTag version 6 e t → (x : List ℕ × ℕ) × (Claim x.0 x.1 ≡ e) × IsOrderText x t
    back (Claim operator number) t h = ((operator, number), refl, record { order = h.well_formed; is = h.is })
    back other t h = absurd (omega (arith, h.tagged))

a_next : (version : ℕ) → IsReader (λ bytes. short_at is_name bytes >>= λ p. Some (Next p.0, p.1)) (IsOfTag version 7)
a_next version = made version 7 (λ operator. Next operator) (a_short is_name) (λ x t s. record { tagged = refl; kept = tt; well_formed = s.passed; named = tt; is = s.is }) back
  where
    back : (e : Event) (t : List ℕ) → IsOfTag version 7 e t → (x : List ℕ) × (Next x ≡ e) × IsShort is_name x t
    back (Next operator) t h = (operator, refl, record { passed = h.well_formed; is = h.is })
    back other t h = absurd (omega (arith, h.tagged))

an_act : (version : ℕ) → IsReader (λ bytes. order_at bytes >>= λ p. outcome_at p.1 >>= λ q. Some (Act p.0.0 p.0.1 q.0.0 q.0.1, q.1)) (IsOfTag version 8)
an_act version = reworded (IsOfTag version 8) (seq an_order (λ o. seq an_outcome (λ a. giving (Some (Act o.0 o.1 a.0 a.1)))))
    (λ e t h.
    let o = h.is_first in
    let a = h.is_second.is_first in
    let text : t ≡ order_fields h.first.0 h.first.1 ++ step_byte h.is_second.first.0 ∷ outcome_byte h.is_second.first.1 ∷ [] = step h.joined o.is (last h.is_second.joined a.is h.is_second.is_second.none) in
    subst (λ (y : Event). IsOfTag version 8 y t) (some_is (Act h.first.0 h.first.1 h.is_second.first.0 h.is_second.first.1) e h.is_second.is_second.is)
    (record { tagged = refl; kept = tt; well_formed = record { order = o.order; known_step = a.known; outcome_fits = a.outcome_fits }; named = tt; is = text }))
    back
  where
    back : (e : Event) (t : List ℕ) → IsOfTag version 8 e t → Then IsOrderText (λ o. Then IsOutcomeText (λ a. Given (Some (Act o.0 o.1 a.0 a.1)))) e t
    back (Act operator number s outcome) t h = record {
      first = (operator, number);
      front = order_fields operator number;
      back = step_byte s ∷ outcome_byte outcome ∷ [];
      is_first = record { order = h.well_formed.order; is = refl };
      is_second = record {
        first = (s, outcome);
        front = step_byte s ∷ outcome_byte outcome ∷ [];
        back = [];
        is_first = record { known = h.well_formed.known_step; outcome_fits = h.well_formed.outcome_fits; is = refl };
        is_second = record { is = refl; none = refl };
        joined = refl;
      };
      joined = h.is;
    }
    back other t h = absurd (omega (arith, h.tagged))

a_release : (version : ℕ) → IsReader (λ bytes. order_at bytes >>= λ p. Some (Release p.0.0 p.0.1, p.1)) (IsOfTag version 9)
a_release version = made version 9 (λ o. Release o.0 o.1) an_order (λ x t s. record { tagged = refl; kept = tt; well_formed = s.order; named = tt; is = s.is }) back
  where
    back : (e : Event) (t : List ℕ) → IsOfTag version 9 e t → (x : List ℕ × ℕ) × (Release x.0 x.1 ≡ e) × IsOrderText x t
    back (Release operator number) t h = ((operator, number), refl, record { order = h.well_formed; is = h.is })
    back other t h = absurd (omega (arith, h.tagged))

a_close : (version : ℕ) → IsReader (λ bytes. order_at bytes >>= λ p. coded_at code_of p.1 >>= λ q. Some (Close p.0.0 p.0.1 q.0, q.1)) (IsOfTag version 10)
a_close version = reworded (IsOfTag version 10) (seq an_order (λ o. seq (a_code code_of) (λ code. giving (Some (Close o.0 o.1 code)))))
    (λ e t h.
    let o = h.is_first in
    let a = h.is_second.is_first in
    let byte : a.byte ∷ [] ≡ code_byte h.is_second.first ∷ [] = ap (λ (k : ℕ). k ∷ []) (sym (code_byte-of a.byte h.is_second.first a.stands)) in
    let text : t ≡ order_fields h.first.0 h.first.1 ++ code_byte h.is_second.first ∷ [] = step h.joined o.is (last h.is_second.joined (a.is ∙ byte) h.is_second.is_second.none) in
    subst (λ (y : Event). IsOfTag version 10 y t) (some_is (Close h.first.0 h.first.1 h.is_second.first) e h.is_second.is_second.is)
    (record { tagged = refl; kept = tt; well_formed = o.order; named = tt; is = text }))
    back
  where
    back : (e : Event) (t : List ℕ) → IsOfTag version 10 e t → Then IsOrderText (λ o. Then (IsCode code_of) (λ code. Given (Some (Close o.0 o.1 code)))) e t
    back (Close operator number code) t h = record {
      first = (operator, number);
      front = order_fields operator number;
      back = code_byte code ∷ [];
      is_first = record { order = h.well_formed; is = refl };
      is_second = record {
        first = code;
        front = code_byte code ∷ [];
        back = [];
        is_first = record { byte = code_byte code; stands = code_of-byte code; is = refl };
        is_second = record { is = refl; none = refl };
        joined = refl;
      };
      joined = h.is;
    }
    back other t h = absurd (omega (arith, h.tagged))

-- the reading of a tag, or what the tags behind it read
chosen : (version t n : ℕ) (f g : List ℕ → Option (Event × List ℕ)) → IsReader f (IsOfTag version n) → (eqb t n ≡ false → IsReader g (IsOfTag version t))
    → IsReader (λ bytes. if t == n then f bytes else g bytes) (IsOfTag version t)
chosen version t n f g first others = by (eqb t n) refl
  where
    by : (test : Bool) → eqb t n ≡ test → IsReader (λ bytes. if test then f bytes else g bytes) (IsOfTag version t)
    by true same =
        let r = subst (λ (k : ℕ). IsReader f (IsOfTag version k)) (sym (eqb-true t n same)) first in
        record { takes = r.takes; again = r.again }
    by false differs = let r = others differs in record { takes = r.takes; again = r.again }

-- no event that is kept has another tag
no_other : (e : Event) → IsKept e → eqb (tag e) 1 ≡ false → eqb (tag e) 2 ≡ false → eqb (tag e) 3 ≡ false → eqb (tag e) 4 ≡ false → eqb (tag e) 5 ≡ false
    → eqb (tag e) 6 ≡ false → eqb (tag e) 7 ≡ false → eqb (tag e) 8 ≡ false → eqb (tag e) 9 ≡ false → eqb (tag e) 10 ≡ false → ⊥
no_other (Show number) kept a b c d e f g h i j = kept
no_other Rows kept a b c d e f g h i j = kept
no_other (Adopt text) kept a b c d e f g h i j = absurd (cc a)
no_other Start kept a b c d e f g h i j = absurd (cc b)
no_other (Sent m via) kept a b c d e f g h i j = absurd (cc c)
no_other (Beat account) kept a b c d e f g h i j = absurd (cc d)
no_other Tick kept a b c d e f g h i j = absurd (cc e)
no_other (Claim o n) kept a b c d e f g h i j = absurd (cc f)
no_other (Next o) kept a b c d e f g h i j = absurd (cc g)
no_other (Act o n s r) kept a b c d e f g h i j = absurd (cc h)
no_other (Release o n) kept a b c d e f g h i j = absurd (cc i)
no_other (Close o n k) kept a b c d e f g h i j = absurd (cc j)

without : {A : Type 0} (T : A → List ℕ → Type 0) → ((x : A) (t : List ℕ) → T x t → ⊥) → IsReader {A = A} (λ bytes. None) T
without T none = reworded T nothing (λ x t h. absurd h) (λ x t h. none x t h)

other_fields : (version t : ℕ) → eqb t 3 ≡ false → IsReader (other_fields_at t) (IsOfTag version t)
unfolding other_fields_at
other_fields version t c =
    chosen version t 1 _ _ (an_adopt version) (λ a. chosen version t 2 _ _ (a_start version) (λ b. chosen version t 4 _ _ (a_beat version) (λ d.
    chosen version t 5 _ _ (a_tick version) (λ e. chosen version t 6 _ _ (a_claim version) (λ f. chosen version t 7 _ _ (a_next version) (λ g.
    chosen version t 8 _ _ (an_act version) (λ h. chosen version t 9 _ _ (a_release version) (λ i. chosen version t 10 _ _ (a_close version) (λ j.
    without (IsOfTag version t) (λ x text is.
    let at : (n : ℕ) → eqb t n ≡ false → eqb (tag x) n ≡ false = λ n h. ap (λ (k : ℕ). eqb k n) is.tagged ∙ h in
    no_other x is.kept (at 1 a) (at 2 b) (at 3 c) (at 4 d) (at 5 e) (at 6 f) (at 7 g) (at 8 h) (at 9 i) (at 10 j)))))))))))

pub some_fields : (version t : ℕ) → IsReader (fields_at version t) (IsOfTag version t)
some_fields version t = chosen version t 3 (sent_at version) (other_fields_at t) (a_sent version) (other_fields version t)

pub record IsEventText (version : ℕ) (x : Event × ℕ) (text : List ℕ) : Type 0 where
  pub spelled : HasSpellingIn version x.0 x.1
  pub is : text ≡ spelling_in version x.0 x.1

pub an_event : (version : ℕ) → IsReader (event_at version) (IsEventText version)
unfolding event_at
an_event version = reworded (IsEventText version) (seq a_byte (λ t. seq (a_number_up_to w64 (2 ^ 64) 253_402_300_799 wide64 (omega arith)) (λ at. seq (some_fields version t) (λ e. giving (Some (e, at))))))
    (λ x t a.
    let b = a.is_second in
    let c = b.is_second in
    let made : Event × ℕ = (c.first, b.first) in
    let front : a.first ∷ [] ≡ tag c.first ∷ [] = ap (λ (k : ℕ). k ∷ []) (sym c.is_first.tagged) in
    let text : t ≡ spelling_in version c.first b.first = step a.joined (a.is_first ∙ front) (step b.joined b.is_first.is (last c.joined c.is_first.is c.is_second.none)) in
    subst (λ (y : Event × ℕ). IsEventText version y t) (some_is made x c.is_second.is)
    (record {
      spelled = record { spelled = record { kept = c.is_first.kept; well_formed = c.is_first.well_formed; moment = omega (arith, b.is_first.below) }; named = c.is_first.named };
      is = text;
    }))
    (λ x t h. record {
      first = tag x.0;
      front = tag x.0 ∷ [];
      back = to_be_bytes w64 x.1 ++ fields_in version x.0;
      is_first = refl;
      is_second = record {
        first = x.1;
        front = to_be_bytes w64 x.1;
        back = fields_in version x.0;
        is_first = record { below = omega (arith, h.spelled.spelled.moment); is = refl };
        is_second = record {
          first = x.0;
          front = fields_in version x.0;
          back = [];
          is_first = record { tagged = refl; kept = h.spelled.spelled.kept; well_formed = h.spelled.spelled.well_formed; named = h.spelled.named; is = refl };
          is_second = record { is = refl; none = refl };
          joined = sym (append-nil (fields_in version x.0));
        };
        joined = refl;
      };
      joined = h.is;
    })

-- ---- whole texts

alone_is : {A : Type 0} (o : Option (A × List ℕ)) (x : A) → alone o ≡ Some x → o ≡ Some (x, [])
alone_is None x e = absurd cc
alone_is {A = A} (Some (y, [])) x e = ap (λ (z : A). Some (z, [])) (some_is y x e)
alone_is (Some (y, b ∷ rest)) x e = absurd cc

-- what is read is spelled so
pub is_spelled : (version : ℕ) (bytes : List ℕ) (x : Event × ℕ) → IsBytes bytes → decoded version bytes ≡ Some x → IsEventText version x bytes
is_spelled version bytes x fits e =
    let t = (an_event version).takes bytes x [] fits (alone_is (event_at version bytes) x e) in
    record { spelled = t.is.spelled; is = t.parts ∙ append-nil t.text ∙ t.is.is }

-- what is spelled so is read
pub is_decoded : (version : ℕ) (bytes : List ℕ) (event : Event) (at : ℕ) → HasSpellingIn version event at → bytes ≡ spelling_in version event at
    → decoded version bytes ≡ Some (event, at)
is_decoded version bytes event at spelled is =
    let read = (an_event version).again (event, at) bytes [] (record { spelled = spelled; is = is }) in
    ap (λ (t : List ℕ). alone (event_at version t)) (sym (append-nil bytes)) ∙ ap alone read

-- what a call answered that gives what the bytes are decoded to
abbrev pub Answers : {E : Type 0} → ℕ → Result (Option (Event × ℕ)) E → List ℕ → Type 0
Answers version r bytes = IfOk r (λ found. MatchOption found (decoded version bytes ≡ None) (λ x. decoded version bytes ≡ Some (x.0, x.1)))

pub found_is_spelled : {E : Type 0} (version : ℕ) (r : Result (Option (Event × ℕ)) E) (bytes : List ℕ) → IsBytes bytes → Answers version r bytes
    → IfOk r (λ found. IfSome found (λ x. HasSpellingIn version x.0 x.1 × (bytes ≡ spelling_in version x.0 x.1)))
found_is_spelled version (Err e) bytes fits h = tt
found_is_spelled version (Ok None) bytes fits h = tt
found_is_spelled version (Ok (Some x)) bytes fits h = let t = is_spelled version bytes x fits h in (t.spelled, t.is)

pub spelled_is_found : {E : Type 0} (version : ℕ) (r : Result (Option (Event × ℕ)) E) (bytes : List ℕ) (event : Event) (at : ℕ) → Answers version r bytes
    → HasSpellingIn version event at → bytes ≡ spelling_in version event at → IfOk r (λ found. IfSome found (λ x. (x.0 ≡ event) × (x.1 ≡ at)) × IsSome found)
spelled_is_found version (Err e) bytes event at h spelled is = tt
spelled_is_found version (Ok None) bytes event at h spelled is = absurd (cc (sym h ∙ is_decoded version bytes event at spelled is))
spelled_is_found version (Ok (Some x)) bytes event at h spelled is =
    let same : x ≡ (event, at) = some_is x (event, at) (sym h ∙ is_decoded version bytes event at spelled is) in
    ((ap (λ (y : Event × ℕ). y.0) same, ap (λ (y : Event × ℕ). y.1) same), refl)
