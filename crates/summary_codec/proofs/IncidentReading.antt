-- Incidents: each is read exactly where it is spelled, in either version.
use Rattle.std.proofs.Common.{◌≡◌, ℕ, zero, suc, ◌<◌, ◌≤◌, Bool, true, false, eqb, leb, List, [], ◌∷◌, ◌++◌, length, Option, Some, None, refl, sym, ap, subst, ◌∙◌, arith}
use Rattle.std.specs.Prelude.{if◌then◌else◌, codes}
use Rattle.std.specs.Str.{bytes_eq}
use Rattle.std.specs.Int.{w64}
use Rattle.std.proofs.lemmas.Bool.{leb-true, le-leb, eqb-true, false≢true}
use Rattle.arc_data.specs.Classes.{priority_of}
use Rattle.arc_data.specs.Digits.{is_name, AreBytes}
use Rattle.arc_data.specs.Steps.{is_step, fits}
use Rattle.arc_data.specs.declared.incident.Incident.{Incident}
use Rattle.arc_data.specs.declared.signal.Class.{Class}
use Rattle.arc_data.specs.declared.signal.Class.TheVariants.{Fire, Medical, Panic, Gas, Burglary, Tamper, Environment, CommFail}
use Rattle.arc_data.specs.declared.signal.Class.TheVariants.{Trouble, Irregular, LateClose, Unlisted, Test, OpenClose, Bypass, Cancel, Program}
use Rattle.arc_data.specs.declared.step.Outcome.{Outcome}
use Rattle.arc_data.specs.declared.step.Step.{Step}
use Rattle.arc_data.proofs.ByteLemmas.{are_bytes}
use Rattle.event_codec.specs.Spelling.{short_text, via_of_one, via_text, step_byte, outcome_byte}
use Rattle.event_codec.specs.Reading.{number_at, piece_at, step_of, coded_at, outcome_at}
use Rattle.event_codec.proofs.Readers.{IsReader, IsBytes, reworded, Then, seq, Given as Gives, giving, either, Either, Nothing, nothing, a_byte, IsFullPiece, a_full_piece}
use Rattle.event_codec.proofs.Fields.{step, last}
use Rattle.event_codec.proofs.Codes.{step_of-byte, step_byte-of}
use Rattle.event_codec.proofs.Parts.{an_outcome}
use Rattle.summary_rules.specs.Conditions.{name_of_one, HasNameOfOne}
use Rattle.summary_rules.specs.Fields.{IsLongNumber, IsTextUpTo, IsHolding, IsActed, IsIncident}
use Rattle.summary_rules.specs.Spelling.{long_number, class_byte, holder_text, act_text, incident_text}
use Rattle.summary_codec.specs.Reading.{class_of, text_up_to, code_text_at, line_text_at, is_empty, is_holder_name, holding_of, holding_at, acted_of, acted_at, incident_of_parts, incident_at, made_at}
use Rattle.summary_codec.proofs.Combining.{Spelled, paired, made, chosen, some, some_is, a_long_number, a_few, a_coded, a_truth}
use Rattle.summary_codec.proofs.RowReading.{a_short_text, an_account}

-- Classes.

Urgent : Class → Type 0
Urgent class = 0 < priority_of class

class_there : (b : ℕ) (x : Class) → class_of b ≡ Some x → (class_byte x ≡ b) × Urgent x
unfolding Urgent
class_there b x e =
    chosen b 1 Fire x _ class_byte Urgent refl (omega arith)
    (chosen b 2 Medical x _ class_byte Urgent refl (omega arith)
    (chosen b 3 Panic x _ class_byte Urgent refl (omega arith)
    (chosen b 4 Gas x _ class_byte Urgent refl (omega arith)
    (chosen b 5 Burglary x _ class_byte Urgent refl (omega arith)
    (chosen b 6 Tamper x _ class_byte Urgent refl (omega arith)
    (chosen b 7 Environment x _ class_byte Urgent refl (omega arith)
    (chosen b 8 CommFail x _ class_byte Urgent refl (omega arith)
    (chosen b 9 Trouble x _ class_byte Urgent refl (omega arith)
    (chosen b 10 Irregular x _ class_byte Urgent refl (omega arith)
    (chosen b 11 LateClose x _ class_byte Urgent refl (omega arith)
    (chosen b 12 Unlisted x None class_byte Urgent refl (omega arith) (λ none. absurd cc)))))))))))) e

class_back : (x : Class) → Urgent x → class_of (class_byte x) ≡ Some x
unfolding Urgent
class_back Fire w = refl
class_back Medical w = refl
class_back Panic w = refl
class_back Gas w = refl
class_back Burglary w = refl
class_back Tamper w = refl
class_back Environment w = refl
class_back CommFail w = refl
class_back Trouble w = refl
class_back Irregular w = refl
class_back LateClose w = refl
class_back Unlisted w = refl
class_back Test w = absurd (omega (arith, w))
class_back OpenClose w = absurd (omega (arith, w))
class_back Bypass w = absurd (omega (arith, w))
class_back Cancel w = absurd (omega (arith, w))
class_back Program w = absurd (omega (arith, w))

a_class : IsReader (coded_at class_of) (Spelled Urgent (λ x. class_byte x ∷ []))
a_class = a_coded class_of class_byte Urgent class_there class_back

-- Codes and lines.

a_text_up_to : (most : ℕ) → IsReader (text_up_to most) (Spelled (IsTextUpTo most) short_text)
unfolding text_up_to
a_text_up_to most = reworded (Spelled (IsTextUpTo most) short_text)
    (seq a_byte (λ n. either (leb n most) (piece_at n) (λ bytes. None) (IsFullPiece n) Nothing (a_full_piece n) nothing))
    (λ x bytes h. there h.first (leb h.first most) refl x bytes h.front h.back h.joined h.is_first h.is_second)
    (λ x bytes h. record {
      first = length x;
      front = length x ∷ [];
      back = x;
      is_first = refl;
      is_second = rw (le-leb _ _ h.ok.size) (record { long = refl; is = refl; bytes = each_byte x h.ok.bytes });
      joined = h.is;
    })
  where
    each_byte : (xs : List ℕ) → AreBytes xs → IsBytes xs
    each_byte [] h i = omega arith
    each_byte (x ∷ xs) h zero = h.0
    each_byte (x ∷ xs) h (suc i) = each_byte xs h.1 i

    there : (n : ℕ) (b : Bool) → leb n most ≡ b → (x bytes front back : List ℕ) → bytes ≡ front ++ back → front ≡ n ∷ []
        → Either b (IsFullPiece n) Nothing x back → Spelled (IsTextUpTo most) short_text x bytes
    there n true le x bytes front back j is h =
        let small : n ≤ most = leb-true _ _ le in
        record { ok = record { size = omega (arith, h.long, small); bytes = are_bytes x h.bytes }; is = step j (is ∙ ap (λ (k : ℕ). k ∷ []) (sym h.long)) h.is }
    there n false le x bytes front back j is h = absurd h

a_code_text : IsReader code_text_at (Spelled (IsTextUpTo 32) short_text)
a_code_text = reworded (Spelled (IsTextUpTo 32) short_text) (a_text_up_to 32)
    (λ x bytes h. record { ok = record { size = h.ok.size; bytes = h.ok.bytes }; is = h.is })
    (λ x bytes h. record { ok = record { size = h.ok.size; bytes = h.ok.bytes }; is = h.is })

-- the line of an incident of this code
record IsLineOf (version : ℕ) (code via : List ℕ) : Type 0 where
  text : IsTextUpTo 16 via
  name : version ≡ 1 → via ≡ name_of_one code

name_short : (code : List ℕ) → IsTextUpTo 16 (name_of_one code)
name_short code = by (bytes_eq code (codes "-"))
  where
    by : (b : Bool) → IsTextUpTo 16 (if b then [] else via_of_one)
    by true = record { size = omega arith; bytes = tt }
    by false = record { size = omega arith; bytes = (omega arith, (omega arith, tt)) }

a_line : (version : ℕ) (code : List ℕ) → IsReader (line_text_at version code) (Spelled (IsLineOf version code) (via_text version))
unfolding line_text_at
a_line version code = reworded (Spelled (IsLineOf version code) (via_text version))
    (either (eqb version 1) (λ bytes. Some (name_of_one code, bytes)) (text_up_to 16) (Gives (Some (name_of_one code))) (Spelled (IsTextUpTo 16) short_text)
    (giving (Some (name_of_one code))) (a_text_up_to 16))
    (λ via text h. there via text (eqb version 1) refl h)
    (λ via text h. back via text (eqb version 1) refl h)
  where
    text_by : (via : List ℕ) (test : Bool) → eqb version 1 ≡ test → via_text version via ≡ (if test then [] else short_text via)
    text_by via test e = ap (λ (b : Bool). if b then [] else short_text via) e

    there : (via text : List ℕ) (test : Bool) → eqb version 1 ≡ test → Either test (Gives (Some (name_of_one code))) (Spelled (IsTextUpTo 16) short_text) via text
        → Spelled (IsLineOf version code) (via_text version) via text
    there via text true same h =
        let one : name_of_one code ≡ via = some_is (name_of_one code) via h.is in
        record { ok = record { text = subst (IsTextUpTo 16) one (name_short code); name = λ e. sym one }; is = h.none ∙ sym (text_by via true same) }
    there via text false differs h = record {
      ok = record { text = record { size = h.ok.size; bytes = h.ok.bytes }; name = λ e. absurd (false≢true (sym differs ∙ ap (λ (k : ℕ). eqb k 1) e)) };
      is = h.is ∙ sym (text_by via false differs);
    }

    back : (via text : List ℕ) (test : Bool) → eqb version 1 ≡ test → Spelled (IsLineOf version code) (via_text version) via text
        → Either test (Gives (Some (name_of_one code))) (Spelled (IsTextUpTo 16) short_text) via text
    back via text true same h = record { is = ap some (sym (h.ok.name (eqb-true version 1 same))); none = h.is ∙ text_by via true same }
    back via text false differs h = record { ok = record { size = h.ok.text.size; bytes = h.ok.text.bytes }; is = h.is ∙ text_by via false differs }

-- Holders.

Holding : Option (List ℕ) × ℕ → Type 0
Holding h = IsHolding h.0 h.1

holding_text : Option (List ℕ) × ℕ → List ℕ
holding_text h = holder_text h.0 h.1

-- the operator of this name is its claimer
record IsHeldBy (operator : List ℕ) (h : Option (List ℕ) × ℕ) : Type 0 where
  touched : ℕ
  fits : IsLongNumber touched
  is : holding_of operator touched ≡ h

held_text : Option (List ℕ) × ℕ → List ℕ
held_text h = long_number h.1

held : (operator : List ℕ) → IsReader (made_at (holding_of operator) (number_at w64)) (Spelled (IsHeldBy operator) held_text)
unfolding held_text
held operator = made (holding_of operator) (IsHeldBy operator) held_text a_long_number
    (λ n w. record { ok = record { touched = n; fits = w; is = refl }; text = refl })
    (λ h w. record { part = w.touched; ok = w.fits; made = w.is; text = ap (λ (x : Option (List ℕ) × ℕ). long_number x.1) (sym w.is) })

a_holding : IsReader holding_at (Spelled Holding holding_text)
unfolding holding_at Holding holding_text held_text
a_holding = reworded (Spelled Holding holding_text)
    (seq (a_short_text is_holder_name) (λ name. either (is_empty name) (λ bytes. Some ((None, 0), bytes)) (made_at (holding_of name) (number_at w64))
    (Gives (Some (None, 0))) (Spelled (IsHeldBy name) held_text) (giving (Some (None, 0))) (held name)))
    (λ x bytes h. there h.first x bytes h.front h.back h.joined h.is_first.ok h.is_first.is h.is_second)
    back
  where
    there : (name : List ℕ) (x : Option (List ℕ) × ℕ) (bytes front back : List ℕ) → bytes ≡ front ++ back → is_holder_name name ≡ true → front ≡ short_text name
        → Either (is_empty name) (Gives (Some (None, 0))) (Spelled (IsHeldBy name) held_text) x back → Spelled Holding holding_text x bytes
    there [] x bytes front back j ok is h =
        subst (λ (y : Option (List ℕ) × ℕ). Spelled Holding holding_text y bytes) (some_is (None, 0) x h.is) (record { ok = refl; is = last j is h.none })
    there (b ∷ bs) x bytes front back j ok is h =
        subst (λ (y : Option (List ℕ) × ℕ). Spelled Holding holding_text y bytes) h.ok.is
        (record { ok = (ok, h.ok.fits); is = step j is (h.is ∙ ap (λ (y : Option (List ℕ) × ℕ). long_number y.1) (sym h.ok.is)) })

    named : (name : List ℕ) (touched : ℕ) (bytes : List ℕ) → is_name name ≡ true → IsLongNumber touched → bytes ≡ short_text name ++ long_number touched
        → Then (Spelled (λ x. is_holder_name x ≡ true) short_text) (λ n. Either (is_empty n) (Gives (Some (None, 0))) (Spelled (IsHeldBy n) held_text)) (Some name, touched) bytes
    named [] touched bytes ok fits is = absurd (cc)
    named (b ∷ bs) touched bytes ok fits is = record {
      first = b ∷ bs;
      front = short_text (b ∷ bs);
      back = long_number touched;
      is_first = record { ok = ok; is = refl };
      is_second = record { ok = record { touched = touched; fits = fits; is = refl }; is = refl };
      joined = is;
    }

    back : (x : Option (List ℕ) × ℕ) (bytes : List ℕ) → Spelled Holding holding_text x bytes
        → Then (Spelled (λ x. is_holder_name x ≡ true) short_text) (λ n. Either (is_empty n) (Gives (Some (None, 0))) (Spelled (IsHeldBy n) held_text)) x bytes
    back (None, touched) bytes h = record {
      first = [];
      front = 0 ∷ [];
      back = [];
      is_first = record { ok = refl; is = refl };
      is_second = record { is = ap (λ (k : ℕ). Some (None, k)) (sym h.ok); none = refl };
      joined = h.is;
    }
    back (Some name, touched) bytes h = named name touched bytes h.ok.0 h.ok.1 h.is

-- Steps and acts.

IsStep : Step → Type 0
IsStep s = is_step s ≡ true

a_step : IsReader (coded_at step_of) (Spelled IsStep (λ x. step_byte x ∷ []))
unfolding IsStep
a_step = a_coded step_of step_byte IsStep (λ b x e. let w = step_byte-of b x e in (w.byte, w.known)) step_of-byte

-- a step and an outcome that fits it
record IsOutcome (a : Step × Outcome) : Type 0 where
  known : is_step a.0 ≡ true
  outcome : fits a.0 a.1 ≡ true

outcome_text : Step × Outcome → List ℕ
outcome_text a = step_byte a.0 ∷ outcome_byte a.1 ∷ []

an_outcome_text : IsReader outcome_at (Spelled IsOutcome outcome_text)
unfolding outcome_text
an_outcome_text = reworded (Spelled IsOutcome outcome_text) an_outcome
    (λ x t h. record { ok = record { known = h.known; outcome = h.outcome_fits }; is = h.is })
    (λ x t h. record { known = h.ok.known; outcome_fits = h.ok.outcome; is = h.is })

an_act : IsReader acted_at (Spelled IsActed act_text)
unfolding acted_at outcome_text
an_act = made acted_of IsActed act_text (paired an_outcome_text (λ s. paired a_long_number (λ at. a_short_text is_name)))
    (λ p w. record { ok = record { step = w.0.known; outcome = w.0.outcome; at = w.1.0; operator = w.1.1 }; text = refl })
    (λ a w. record { part = ((a.step, a.outcome), (a.at, a.operator)); ok = (record { known = w.step; outcome = w.outcome }, (w.at, w.operator)); made = refl; text = refl })

-- Incidents.

-- its fields are in their ranges, and in version 1 it has the line that this version gives it
pub record IsIncidentIn (version : ℕ) (i : Incident) : Type 0 where
  pub fields : IsIncident i
  pub name : version ≡ 1 → HasNameOfOne i

pub an_incident : (version : ℕ) → IsReader (incident_at version) (Spelled (IsIncidentIn version) (incident_text version))
unfolding incident_at incident_text Urgent Holding holding_text IsStep
an_incident version = made incident_of_parts (IsIncidentIn version) (incident_text version)
    (paired a_long_number (λ n. paired an_account (λ account. paired a_class (λ class. paired a_code_text (λ code. paired (a_line version code) (λ via.
    paired a_long_number (λ at. paired a_long_number (λ signals. paired a_truth (λ restored. paired a_holding (λ holding.
    paired (a_few 10 IsStep (λ s. step_byte s ∷ []) a_step) (λ steps. a_few 10 IsActed act_text an_act)))))))))))
    (λ p w. record {
      ok = record {
        fields = record {
          number = w.0;
          account = w.1.0;
          class = w.1.1.0;
          code = w.1.1.1.0;
          via = w.1.1.1.1.0.text;
          at = w.1.1.1.1.1.0;
          signals = w.1.1.1.1.1.1.0;
          holder = w.1.1.1.1.1.1.1.1.0;
          few_steps = w.1.1.1.1.1.1.1.1.1.0.0;
          steps = w.1.1.1.1.1.1.1.1.1.0.1;
          few_acts = w.1.1.1.1.1.1.1.1.1.1.0;
          acts = w.1.1.1.1.1.1.1.1.1.1.1;
        };
        name = w.1.1.1.1.0.name;
      };
      text = refl;
    })
    (λ i v. let w = v.fields in record {
      part = (i.number, (i.account, (i.class, (i.code, (i.via, (i.at, (i.signals, (i.restored, ((i.holder, i.touched), (i.steps, i.acts))))))))));
      ok = (w.number, (w.account, (w.class, (w.code, (record { text = w.via; name = v.name }, (w.at, (w.signals, (tt, (w.holder, ((w.few_steps, w.steps), (w.few_acts, w.acts)))))))))));
      made = refl;
      text = refl;
    })
