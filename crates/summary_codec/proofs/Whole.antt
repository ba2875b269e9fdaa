-- A summary is read exactly where it is spelled in its version, so no bytes spell two in one.
use Rattle.std.proofs.Common.{◌≡◌, ℕ, eqb, List, [], ◌∷◌, ◌++◌, Option, Some, refl, sym, ap, subst, ◌∙◌, append-nil}
use Rattle.std.proofs.lemmas.Bool.{eqb-true}
use Rattle.arc_data.specs.WellFormed.{IsText}
use Rattle.event_codec.proofs.Readers.{IsReader, reworded, seq, passing, a_byte}
use Rattle.event_codec.proofs.Fields.{last}
use Rattle.arc_data.specs.declared.incident.Incident.{Incident}
use Rattle.centre_rules.specs.Summary.{Summary}
use Rattle.summary_rules.specs.Lists.{Every}
use Rattle.summary_rules.specs.Conditions.{HasNameOfOne, AreNamedIn}
use Rattle.summary_rules.specs.Fields.{IsLongNumber, IsRow, IsIncident, HasFields}
use Rattle.summary_rules.proofs.Everies.{every_weaker}
use Rattle.summary_rules.specs.Spelling.{option_text, long_number, long_text, many_texts, row_text, incident_text, summary_text}
use Rattle.summary_codec.specs.Reading.{SummaryParts, tag_at, summary_of_parts, summary_at}
use Rattle.summary_codec.specs.OneSpelling.{AreOne, SpellsOne}
use Rattle.summary_codec.proofs.Combining.{Spelled, paired, made, a_long_number, a_many, an_option}
use Rattle.summary_codec.proofs.RowReading.{a_setup_text, a_row}
use Rattle.summary_codec.proofs.IncidentReading.{IsIncidentIn, an_incident}

IsTag : ℕ → Type 0
IsTag b = b ≡ 11

tag_text : ℕ → List ℕ
tag_text b = b ∷ []

a_tag : IsReader tag_at (Spelled IsTag tag_text)
unfolding tag_at IsTag tag_text
a_tag = reworded (Spelled IsTag tag_text) (seq a_byte (λ b. passing (eqb b 11) b))
    (λ b t h.
    subst (λ (x : ℕ). Spelled IsTag tag_text x t) h.is_second.is
    (record { ok = eqb-true h.first 11 h.is_second.passed; is = last h.joined h.is_first h.is_second.none }))
    (λ b t h. record {
      first = b;
      front = b ∷ [];
      back = [];
      is_first = refl;
      is_second = record { passed = rw h.ok refl; is = refl; none = refl };
      joined = h.is;
    })

-- a generation and a summary with their fields in their ranges, and in version 1 with the lines that this version gives its incidents
pub record IsFielded (version : ℕ) (p : ℕ × Summary) : Type 0 where
  pub fields : HasFields p.0 p.1
  pub names : AreNamedIn version p.1.incidents

abbrev text_of : ℕ → ℕ × Summary → List ℕ
text_of version p = summary_text version p.0 p.1

-- what follows the tag
abbrev rest_text : ℕ → SummaryParts → List ℕ
rest_text version p = long_number p.1.0 ++ (long_number p.1.1.0 ++ (long_number p.1.1.1.0 ++ (long_number p.1.1.1.1.0
    ++ (option_text long_number p.1.1.1.1.1.0 ++ (option_text long_text p.1.1.1.1.1.1.0
    ++ (many_texts row_text p.1.1.1.1.1.1.1.0 ++ many_texts (incident_text version) p.1.1.1.1.1.1.1.1))))))

both_parts : (version : ℕ) (is : List Incident) → Every IsIncident is → AreNamedIn version is → Every (IsIncidentIn version) is
both_parts version [] w n = tt
both_parts version (i ∷ is) w n = (record { fields = w.0; name = λ one. (n one).0 }, both_parts version is w.1 (λ one. (n one).1))

pub a_summary : (version : ℕ) → IsReader (summary_at version) (Spelled (IsFielded version) (text_of version))
unfolding summary_at summary_text IsTag tag_text
a_summary version = made summary_of_parts (IsFielded version) (text_of version)
    (paired a_tag (λ tag. paired a_long_number (λ generation. paired a_long_number (λ at. paired a_long_number (λ recorded. paired a_long_number (λ opened.
    paired (an_option IsLongNumber long_number a_long_number) (λ start. paired (an_option IsText long_text a_setup_text) (λ text.
    paired (a_many IsRow row_text a_row) (λ rows. a_many (IsIncidentIn version) (incident_text version) (an_incident version))))))))))
    (λ p w. record {
      ok = record {
        fields = record {
          numbered = w.1.0;
          last = w.1.1.0;
          recorded = w.1.1.1.0;
          opened = w.1.1.1.1.0;
          start = w.1.1.1.1.1.0;
          text = w.1.1.1.1.1.1.0;
          few_rows = w.1.1.1.1.1.1.1.0.0;
          rows = w.1.1.1.1.1.1.1.0.1;
          few_incidents = w.1.1.1.1.1.1.1.1.0;
          incidents = every_weaker (IsIncidentIn version) IsIncident (λ i v. v.fields) p.1.1.1.1.1.1.1.1 w.1.1.1.1.1.1.1.1.1;
        };
        names = λ one. every_weaker (IsIncidentIn version) HasNameOfOne (λ i v. v.name one) p.1.1.1.1.1.1.1.1 w.1.1.1.1.1.1.1.1.1;
      };
      text = ap (λ (k : ℕ). k ∷ rest_text version p) w.0;
    })
    (λ q v. let s = q.1 in let w = v.fields in record {
      part = (11, (q.0, (s.last, (s.recorded, (s.opened, (s.start, (s.text, (s.rows, s.incidents))))))));
      ok = (refl, (w.numbered, (w.last, (w.recorded, (w.opened, (w.start, (w.text, ((w.few_rows, w.rows), (w.few_incidents, both_parts version s.incidents w.incidents v.names)))))))));
      made = refl;
      text = refl;
    })

pub read_text : (version generation : ℕ) (s : Summary) (bytes : List ℕ) → HasFields generation s → AreNamedIn version s.incidents → bytes ≡ summary_text version generation s
    → summary_at version bytes ≡ Some ((generation, s), [])
read_text version generation s bytes fields names is =
    ap (summary_at version) (sym (append-nil bytes))
    ∙ (a_summary version).again (generation, s) bytes [] (record { ok = record { fields = fields; names = names }; is = is })

abbrev some : {A : Type 0} → A → Option A
some x = Some x

some_is : {A : Type 0} (x y : A) → some x ≡ some y → x ≡ y
some_is x y e = cc

-- bytes are of one generation and one summary with their fields in their ranges
pub one_text : (version : ℕ) (bytes : List ℕ) (generation other : ℕ) (s t : Summary) → HasFields generation s → AreNamedIn version s.incidents
    → bytes ≡ summary_text version generation s → HasFields other t → AreNamedIn version t.incidents → bytes ≡ summary_text version other t → AreOne generation s other t
one_text version bytes generation other s t v n is w m also =
    let same : ((generation, s), []) ≡ ((other, t), []) =
    some_is ((generation, s), []) ((other, t), []) (sym (read_text version generation s bytes v n is) ∙ read_text version other t bytes w m also) in
    record { generations = ap (λ (p : (ℕ × Summary) × List ℕ). p.0.0) same; summaries = ap (λ (p : (ℕ × Summary) × List ℕ). p.0.1) same }

pub spells_one : SpellsOne
spells_one version bytes generation other s t v w = one_text version bytes generation other s t v.fields v.besides.names v.is w.fields w.besides.names w.is
