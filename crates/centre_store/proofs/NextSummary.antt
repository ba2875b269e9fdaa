-- The next summary of a journal, of all that was recorded: it is a spelling, and goes on from the one that the journal has.
use Rattle.std.proofs.Common.{◌≡◌, ◌≤◌, ◌<◌, ◌+◌, ◌^◌, ℕ, zero, suc, List, [], ◌∷◌, ◌++◌, Bool, true, false, cond, map, length, take, Option, Some, None, refl, sym, ap, subst, ◌∙◌, arith, length-append}
use Rattle.std.specs.Int.{to_be_bytes, w64}
use Rattle.std.proofs.lemmas.List.{length-map, length-reverse}
use Rattle.std.proofs.lemmas.Nat.{from_be_bytes-to_be_bytes_8}
use Rattle.arc_io.specs.Disks.{DiskSeen}
use Rattle.centre_core.specs.Summing.{IsSpelled}
use Rattle.centre_rules.specs.History.{Entry, IsMoment, is_recorded, recorded}
use Rattle.centre_rules.specs.State.{State, StandsFor}
use Rattle.centre_rules.specs.Summary.{Summary}
use Rattle.centre_rules.specs.Sums.{summary_of}
use Rattle.disk_journal.specs.Faults.{IsOver}
use Rattle.disk_journal.specs.Standing.{generation_in, size_of}
use Rattle.disk_journal.specs.Turning.{IsNextTo}
use Rattle.disk_journal.specs.declared.journal.Journal.{Journal}
use Rattle.summary_rules.proofs.Short.{short_few}
use Rattle.summary_rules.proofs.Spelled.{summaries_spelled}
use Rattle.summary_rules.specs.Conditions.{IsSpelling}
use Rattle.summary_rules.specs.Laws.{MaySpell}
use Rattle.summary_rules.specs.Spelling.{summary_text, long_number}
use Rattle.centre_store.specs.Bodies.{bodies_in, body_in}
use Rattle.centre_store.specs.Given.{IsFirst, HoldsRecordedIn, HoldsRecorded, summed_size}
use Rattle.centre_store.specs.Writes.{IsSummedUp, IsOverAt, IsOverThen}
use Rattle.centre_store.proofs.Summed.{summary_none, text_long}

-- Counts.

step_few : (e : Entry) (h : List Entry) (t : Bool) → length (recorded h) ≤ length h → length (cond t (e ∷ recorded h) (recorded h)) ≤ length (e ∷ h)
step_few e h true le = omega (arith, le)
step_few e h false le = omega (arith, le)

recorded_few : (h : List Entry) → length (recorded h) ≤ length h
recorded_few [] = omega arith
recorded_few (e ∷ h) = step_few e h (is_recorded e.reply) (recorded_few h)

append_step : (e : Entry) (k h : List Entry) (t : Bool) → recorded (k ++ h) ≡ recorded k ++ recorded h
    → cond t (e ∷ recorded (k ++ h)) (recorded (k ++ h)) ≡ cond t (e ∷ recorded k) (recorded k) ++ recorded h
append_step e k h true is = ap (λ (l : List Entry). e ∷ l) is
append_step e k h false is = is

recorded_append : (k h : List Entry) → recorded (k ++ h) ≡ recorded k ++ recorded h
recorded_append [] h = refl
recorded_append (e ∷ k) h = append_step e k h (is_recorded e.reply) (recorded_append k h)

count_after : (s : Summary) (h k : List Entry) → (summary_of s h).recorded + length (recorded k) ≡ s.recorded + length (recorded (k ++ h))
count_after s h k = omega (arith, ap length (recorded_append k h), length-append (recorded k) (recorded h))

pub bodies_count : (version : ℕ) (h : List Entry) → length (bodies_in version h) ≡ length (recorded h)
unfolding bodies_in
bodies_count version h = length-reverse (map (body_in version) (recorded h)) ∙ length-map (recorded h) (body_in version)

pub no_items : {A : Type 0} (xs : List A) → length xs ≡ 0 → xs ≡ []
no_items [] none = refl
no_items (x ∷ xs) none = absurd (omega (arith, none))

-- What a summary's text begins with.

text_begins : (version generation : ℕ) (s : Summary) → take 9 (summary_text version generation s) ≡ 11 ∷ to_be_bytes w64 generation
unfolding summary_text long_number
text_begins version generation s = refl

text_generation : (version generation : ℕ) (s : Summary) → generation < 2 ^ 64 → generation_in (Some (summary_text version generation s)) ≡ generation
unfolding summary_text long_number
text_generation version generation s short = from_be_bytes-to_be_bytes_8 generation short

generation_is : (version generation : ℕ) (s : Summary) (body : List ℕ) → IsSpelling version generation s body → generation_in (Some body) ≡ generation
generation_is version generation s body is = ap (λ (l : List ℕ). generation_in (Some l)) is.is ∙ text_generation version generation s is.fields.numbered

-- the generation of what stands first is at most the number of entries that are recorded and one, where some are behind it
goes_on : (s : Summary) (first : Option (List ℕ)) (generation records all : ℕ) → IsFirst 2 s first → generation ≡ generation_in first
    → s.recorded + records ≡ all → ((generation ≡ 0 → ⊥) → records ≡ 0 → ⊥) → generation ≤ all + 1
goes_on s None generation records all first is sum more = omega (arith, is)
goes_on s (Some body) generation zero all (g, spelling) is sum more =
    let same : generation ≡ g = is ∙ generation_is 2 g s body spelling in
    absurd (more (λ none. omega (arith, same, none, spelling.besides.first)) refl)
goes_on s (Some body) generation (suc records) all (g, spelling) is sum more =
    let same : generation ≡ g = is ∙ generation_is 2 g s body spelling in
    omega (arith, same, sum, spelling.besides.followed)

not_far : (version : ℕ) (s : Summary) (first : Option (List ℕ)) (generation : ℕ) → IsFirst version s first → generation ≡ generation_in first → generation ≤ s.recorded + version
not_far version s None generation first is = omega (arith, is)
not_far version s (Some body) generation (g, spelling) is =
    let same : generation ≡ g = is ∙ generation_is version g s body spelling in
    omega (arith, same, spelling.besides.followed)

-- what stands first, and no record, is as long as the summary of all that was recorded
alone : (b : Summary) (h later summed : List Entry) (first : Option (List ℕ)) (bodies : List (List ℕ)) (generation used : ℕ)
    → h ≡ later ++ summed → IsFirst 2 (summary_of b summed) first → recorded later ≡ [] → bodies ≡ [] → generation ≡ generation_in first
    → (generation ≡ 0 → ⊥) → used ≡ size_of first bodies → used ≡ summed_size b h
alone b h later summed None bodies generation used split first quiet none is some size = absurd (some is)
alone b h later summed (Some body) bodies generation used split (g, spelling) quiet none is some size =
    let whole : used ≡ size_of (Some body) [] = size ∙ ap (λ (l : List (List ℕ)). size_of (Some body) l) none in
    let same : summary_of b h ≡ summary_of b summed = ap (summary_of b) split ∙ summary_none b later summed quiet in
    let long : length body ≡ length (summary_text 2 1 (summary_of b h)) =
    ap length spelling.is ∙ text_long 2 g (summary_of b summed) ∙ ap (λ (s : Summary). length (summary_text 2 1 s)) (sym same) in
    omega (arith, whole, long)

-- A journal that has in a version what was recorded.
module _ {D : Type 0} (seen : D → DiskSeen) (version : ℕ) (j : Journal D) (b : Summary) (h : List Entry) (holds : HoldsRecordedIn seen version j b h) where
  count : j.records ≡ length (recorded holds.2.later)
  count = holds.3.count ∙ ap length holds.2.bodies_are ∙ bodies_count version holds.2.later

  -- all that was recorded is summed up, or has a record
  pub all_counted : (summary_of b holds.2.summed).recorded + j.records ≡ b.recorded + length (recorded h)
  all_counted = ap (λ (n : ℕ). (summary_of b holds.2.summed).recorded + n) count ∙ count_after b holds.2.summed holds.2.later
      ∙ ap (λ (l : List Entry). b.recorded + length (recorded l)) (sym holds.2.split)

  pub far : j.generation ≤ b.recorded + length (recorded h) + version
  far =
      let first = not_far version (summary_of b holds.2.summed) holds.0 j.generation holds.2.first_is holds.3.generation in
      omega (arith, first, all_counted)

  -- there is a next generation
  pub fits_next : version ≤ 2 → (s : State) → StandsFor b s h → s.entries ≤ 2 ^ 48 → j.generation + 1 < 2 ^ 64
  fits_next small s stands few = omega (arith, small, far, few, stands.entries, recorded_few h)

  module _ (s : State) (stands : StandsFor b s h) (few : s.entries ≤ 2 ^ 48) (followed : j.generation ≤ b.recorded + length (recorded h) + 1) where
    within : b.recorded + length (recorded h) ≤ 2 ^ 48
    within = omega (arith, few, stands.entries, recorded_few h)

    pub next_to : IsNextTo j.generation (summary_text 2 (j.generation + 1) (summary_of b h))
    next_to = record { fits = omega (arith, within, followed); is = text_begins 2 (j.generation + 1) (summary_of b h) }

    may_spell : IsMoment s.sum.last → length (summary_text 2 (j.generation + 1) (summary_of b h)) < 2 ^ 32
        → MaySpell (j.generation + 1) (summary_of b h)
    may_spell moment short =
        let few = short_few 2 (j.generation + 1) (summary_of b h) short in
        record {
          last = subst IsMoment stands.last moment;
          recorded = within;
          first = omega arith;
          followed = omega (arith, followed);
          few_rows = few.rows;
          few_incidents = few.incidents;
        }

    pub next_spelled : IsSpelled b → IsMoment s.sum.last → length (summary_text 2 (j.generation + 1) (summary_of b h)) < 2 ^ 32
        → IsSpelling 2 (j.generation + 1) (summary_of b h) (summary_text 2 (j.generation + 1) (summary_of b h))
    next_spelled given moment short =
        summaries_spelled given.version given.generation (j.generation + 1) b h given.fields given.besides stands.legal (may_spell moment short)

-- One that has it in the second version.
module _ {D : Type 0} (seen : D → DiskSeen) (j : Journal D) (b : Summary) (h : List Entry) (holds : HoldsRecorded seen j b h) where
  -- the next generation may come where there is a record behind the summary
  pub followed : (IsSummedUp j → ⊥) → j.generation ≤ b.recorded + length (recorded h) + 1
  followed further =
      goes_on (summary_of b holds.2.summed) holds.0 j.generation j.records (b.recorded + length (recorded h)) holds.2.first_is holds.3.generation
      (all_counted seen 2 j b h holds) (λ some none. further (record { summary = some; none_behind = none }))

  -- where the journal has it already, a summary would use as many bytes as are used
  pub same_size : IsSummedUp j → j.used ≡ summed_size b h
  same_size up =
      let none : recorded holds.2.later ≡ [] = no_items (recorded holds.2.later) (sym (count seen 2 j b h holds) ∙ up.none_behind) in
      alone b h holds.2.later holds.2.summed holds.0 holds.1 j.generation j.used holds.2.split holds.2.first_is none
      (no_items holds.1 (sym holds.3.count ∙ up.none_behind)) holds.3.generation up.summary holds.3.used

  -- so where a record has no room, and would have room behind a summary, it has it not
  pub not_summed : (need : ℕ) → IsOverAt j need → (IsOverThen j (summed_size b h) need → ⊥) → IsSummedUp j → ⊥
  not_summed need over then up =
      let size : j.used ≡ summed_size b h = same_size up in
      then (subst (λ (n : ℕ). IsOverThen j n need) size
      (subst (λ (n : ℕ). IsOver j.used need n j.limits.bytes j.limits.records) up.none_behind over))
