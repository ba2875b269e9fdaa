-- The parts that were read make up what the bytes spell.
use Rattle.std.proofs.Common.{◌≡◌, ℕ, List, [], ◌∷◌, ◌++◌, map, Option, Some, None, refl, sym, ap, ◌∙◌, append-nil}
use Rattle.arc_data.specs.declared.incident.Incident.{Incident}
use Rattle.std.specs.Option.{option_map}
use Rattle.event_codec.proofs.Readers.{IsBytes}
use Rattle.centre_rules.specs.Summary.{Summary, AccountRow}
use Rattle.summary_codec.specs.declared.head.Head.{Head}
use Rattle.summary_codec.specs.declared.summary.ReadSummary.{ReadSummary}
use Rattle.summary_codec.specs.Heads.{IsHead}
use Rattle.summary_codec.specs.Parts.{row_of_read, summary_of_read, IsTextOf, IsNoText}
use Rattle.summary_codec.specs.Reading.{Reading, pair_at, many_at, row_at, incident_at, summary_of_parts, summary_at}
use Rattle.summary_codec.proofs.Combining.{some_is}
use Rattle.summary_codec.proofs.Whole.{a_summary, read_text}

-- the rows and the incidents behind a head
abbrev pub tables_at : ℕ → Reading (List AccountRow × List Incident)
tables_at version = pair_at (many_at row_at) (λ rows. many_at (incident_at version))

abbrev whole_of : Head → List AccountRow → List Incident → Summary
whole_of h rows incidents = (summary_of_parts (11, (h.generation, (h.last, (h.recorded, (h.opened, (h.start, (option_map (λ t. t.now) h.text, (rows, incidents))))))))).1

head_none : (version : ℕ) (bytes : List ℕ) (h : Head) → IsHead bytes h → tables_at version h.rest.now ≡ None → summary_at version bytes ≡ None
unfolding summary_at
head_none version bytes h w none = rw (w.tag, w.generation, w.last, w.recorded, w.opened, w.start, w.text, none) refl

head_some : (version : ℕ) (bytes : List ℕ) (h : Head) (rows : List AccountRow) (is : List Incident) (end : List ℕ) → IsHead bytes h
    → tables_at version h.rest.now ≡ Some ((rows, is), end) → summary_at version bytes ≡ Some ((h.generation, whole_of h rows is), end)
unfolding summary_at
head_some version bytes h rows is end w some = rw (w.tag, w.generation, w.last, w.recorded, w.opened, w.start, w.text, some) refl

no_some : {A : Type 0} (o : Option A) (x : A) → o ≡ None → o ≡ Some x → ⊥
no_some None x none some = absurd cc
no_some (Some y) x none some = absurd cc

-- no summary is read
pub none_is : (version : ℕ) (bytes : List ℕ) → summary_at version bytes ≡ None → IsNoText version bytes
none_is version bytes none generation s fields names is =
    no_some (summary_at version bytes) ((generation, s), []) none (read_text version generation s bytes fields names is)

-- a summary is read, and bytes stand behind it
pub longer_is : (version : ℕ) (bytes : List ℕ) (p : ℕ × Summary) (b : ℕ) (end : List ℕ) → summary_at version bytes ≡ Some (p, b ∷ end) → IsNoText version bytes
longer_is version bytes p b end read generation s fields names is =
    let same : (p, b ∷ end) ≡ ((generation, s), []) =
    some_is (p, b ∷ end) ((generation, s), []) (sym read ∙ read_text version generation s bytes fields names is) in
    let longer : b ∷ end ≡ [] = ap (λ (q : (ℕ × Summary) × List ℕ). q.1) same in
    absurd cc

-- no rows, or no incidents, are read behind the head
pub no_rows : (version : ℕ) (bytes : List ℕ) (h : Head) → IsHead bytes h → many_at row_at h.rest.now ≡ None → IsNoText version bytes
no_rows version bytes h w none = none_is version bytes (head_none version bytes h w (rw none refl))

pub no_incidents : (version : ℕ) (bytes : List ℕ) (h : Head) (rows : List AccountRow) (rest : List ℕ) → IsHead bytes h → many_at row_at h.rest.now ≡ Some (rows, rest)
    → many_at (incident_at version) rest ≡ None → IsNoText version bytes
no_incidents version bytes h rows rest w some none = none_is version bytes (head_none version bytes h w (rw (some, none) refl))

-- something stands behind the incidents
not_empty : (version : ℕ) (bytes : List ℕ) (p : ℕ × Summary) (end : List ℕ) → (end ≡ [] → ⊥) → summary_at version bytes ≡ Some (p, end) → IsNoText version bytes
not_empty version bytes p [] more read = absurd (more refl)
not_empty version bytes p (b ∷ end) more read = longer_is version bytes p b end read

pub no_end : (version : ℕ) (bytes : List ℕ) (h : Head) (rows : List AccountRow) (rest : List ℕ) (is : List Incident) (end : List ℕ) → IsHead bytes h
    → many_at row_at h.rest.now ≡ Some (rows, rest) → many_at (incident_at version) rest ≡ Some (is, end) → (end ≡ [] → ⊥) → IsNoText version bytes
no_end version bytes h rows rest is end w some found more =
    not_empty version bytes (h.generation, whole_of h rows is) end more (head_some version bytes h rows is end w (rw (some, found) refl))

-- all is read
pub all_is : (version : ℕ) (bytes : List ℕ) (r : ReadSummary) (rest end : List ℕ) → IsBytes bytes → IsHead bytes r.head
    → many_at row_at r.head.rest.now ≡ Some (map row_of_read r.rows.items, rest) → many_at (incident_at version) rest ≡ Some (r.incidents.items, end) → end ≡ []
    → IsTextOf version bytes r
all_is version bytes r rest end fits w some found none =
    let read = head_some version bytes r.head (map row_of_read r.rows.items) r.incidents.items end w (rw (some, found) refl) in
    let t = (a_summary version).takes bytes (r.head.generation, summary_of_read r) end fits read in
    record { fields = t.is.ok.fields; names = t.is.ok.names; is = t.parts ∙ ap (λ (l : List ℕ). t.text ++ l) none ∙ append-nil t.text ∙ t.is.is }
