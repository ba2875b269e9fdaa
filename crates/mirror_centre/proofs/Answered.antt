-- What a store answers an ask is an answer, and true of what the store stands for.
use Rattle.std.proofs.Common.{◌≡◌, ◌≤◌, ◌<◌, ◌+◌, ◌-◌, ◌^◌, ℕ, List, [], ◌∷◌, ◌++◌, Bool, true, false, length, Option, Some, None, Result, Ok, Err, inl, inr, refl, sym, ap, subst, ◌∙◌, arith, length-append}
use Rattle.std.specs.Prelude.{IfSome, nat_le, if◌then◌else◌, slice_index_or}
use Rattle.std.specs.Int.{to_be_bytes, w64}
use Rattle.std.proofs.lemmas.Bool.{leb-true, leb-false, cases_lt}
use Rattle.std.proofs.lemmas.List.{get_or_append_left, get_or-append-add}
use Rattle.arc_data.specs.WellFormed.{IsWellFormed}
use Rattle.arc_data.specs.declared.event.Event.{Event}
use Rattle.arc_io.specs.Areas.{Areas}
use Rattle.arc_io.specs.Crashes.{IsQuiet}
use Rattle.arc_io.specs.Disks.{DiskSeen}
use Rattle.centre_core.specs.declared.hall.Stop.{Stop}
use Rattle.centre_core.specs.declared.hall.Stop.TheVariants.{Down}
use Rattle.centre_rules.specs.Answers.{IsLegal}
use Rattle.centre_rules.specs.History.{Entry, is_recorded, recorded}
use Rattle.centre_rules.specs.State.{State}
use Rattle.centre_rules.specs.Summary.{Summary}
use Rattle.centre_store.proofs.Bodies.{bodies_more, bodies_same, fields_short}
use Rattle.centre_store.proofs.Entered.{held}
use Rattle.centre_store.proofs.Recorded.{recorded_both}
use Rattle.centre_store.specs.Bodies.{body_in, bodies_in}
use Rattle.centre_store.specs.Followings.{since_of, place_of, body_of_number}
use Rattle.centre_store.specs.Orders.{IsDownWhereFailed}
use Rattle.centre_store.specs.Stores.{Stored, HasFailed, StoreStands, StandsOn}
use Rattle.centre_store.specs.declared.following.Found.{Found}
use Rattle.centre_store.specs.declared.following.Found.TheVariants.{Body, InSummary, Ahead}
use Rattle.disk_journal.specs.Journal.{IsReadOf}
use Rattle.disk_journal.specs.declared.journal.Journal.{Journal}
use Rattle.event_codec.specs.Spelling.{fields_in, spelling}
use Rattle.mirror_centre.specs.Answers.{answer_at, answer_to, place_behind, Answers, IsAnsweredWith}
use Rattle.mirror_centre.specs.Messages.{answer_text, Fits, IsAnswer}
use Rattle.mirror_centre.specs.Mirroring.{IsTrueOf}
use Rattle.mirror_centre.proofs.Parts.{bodies_count}

-- Where an entry is found.

by_tests : (since recorded number : ℕ) (u v : Bool) → nat_le number since ≡ u → nat_le number recorded ≡ v → (if u then InSummary else (if v then Body else Ahead)) ≡ Body
    → (since < number) × (number ≤ recorded)
by_tests since recorded number true v e f is = absurd cc
by_tests since recorded number false true e f is = (leb-false number since e, leb-true number recorded f)
by_tests since recorded number false false e f is = absurd cc

pub found_body : (since recorded number : ℕ) → place_of since recorded number ≡ Body → (since < number) × (number ≤ recorded)
found_body since recorded number is = by_tests since recorded number (nat_le number since) (nat_le number recorded) refl refl is

-- How long a body is.

abbrev IsLong : List ℕ → Type 0
IsLong body = (1 ≤ length body) × (length body ≤ 4_194_400)

spelling_long : (event : Event) (at : ℕ) → IsWellFormed event → IsLong (spelling event at)
spelling_long event at formed =
    let short : length (fields_in 2 event) ≤ 4_194_308 = fields_short event formed in
    (omega arith, omega (arith, short, length-append (to_be_bytes w64 at) (fields_in 2 event)))

-- of a list with one body more
last_long : (bodies : List (List ℕ)) (body : List ℕ) (i : ℕ) → IsLong body → ((j : ℕ) → j < length bodies → IsLong (slice_index_or bodies j []))
    → i < length (bodies ++ body ∷ []) → IsLong (slice_index_or (bodies ++ body ∷ []) i [])
last_long bodies body i long before less =
    elim (cases_lt i (length bodies)) as (λ _. IsLong (slice_index_or (bodies ++ body ∷ []) i [])) [
      | inl lt ↦ subst IsLong (sym (get_or_append_left bodies (body ∷ []) [] i lt)) (before i lt)
      | inr le ↦
          let is : length bodies + 0 ≡ i = omega (arith, le, less, length-append bodies (body ∷ [])) in
          subst (λ (n : ℕ). IsLong (slice_index_or (bodies ++ body ∷ []) n [])) is (subst IsLong (sym (get_or-append-add bodies (body ∷ []) 0 [])) long)
    ]

-- each body of a history
abbrev AreLong : List Entry → Type 0
AreLong h = (i : ℕ) → i < length (bodies_in 2 h) → IsLong (slice_index_or (bodies_in 2 h) i [])

long_step : (e : Entry) (h : List Entry) (t : Bool) → is_recorded e.reply ≡ t → IsWellFormed e.event → AreLong h → AreLong (e ∷ h)
long_step e h true is formed before i less =
    subst (λ (l : List (List ℕ)). IsLong (slice_index_or l i [])) (sym (bodies_more 2 e h is))
    (last_long (bodies_in 2 h) (body_in 2 e) i (spelling_long e.event e.at formed) before
    (subst (λ (l : List (List ℕ)). i < length l) (bodies_more 2 e h is) less))
long_step e h false is formed before i less =
    subst (λ (l : List (List ℕ)). IsLong (slice_index_or l i [])) (sym (bodies_same 2 e h is))
    (before i (subst (λ (l : List (List ℕ)). i < length l) (bodies_same 2 e h is) less))

bodies_long : (b : Summary) (h : List Entry) → IsLegal b h → AreLong h
bodies_long b [] legal i less = absurd (omega (arith, less, bodies_count 2 []))
bodies_long b (e ∷ h) legal i less = long_step e h (is_recorded e.reply) refl legal.0.event (bodies_long b h legal.1) i less

-- A store that stands for a history, and whose disk has not failed.
module _ {D : Type 0} (seen : D → DiskSeen) (b : Summary) (s : Stored D) (h : List Entry) (stands : StoreStands seen b s h) (up : HasFailed seen s → ⊥) where
  -- what is summed up has what the summary before it has
  since_above : b.recorded ≤ since_of s
  since_above =
      let all = held seen b s h up stands in
      let kept = all.2 in
      omega (
        arith,
        stands.centre.recorded,
        all.3.count,
        ap length kept.bodies_are,
        bodies_count 2 kept.later,
        ap length (ap recorded kept.split ∙ recorded_both kept.later kept.summed),
        length-append (recorded kept.later) (recorded kept.summed),
      )

  pub answer_true : (have : ℕ) (f : Found) → place_behind s have ≡ f → IsTrueOf b h (answer_at f (since_of s) have (body_of_number b h (have + 1)))
  answer_true have Body is =
      let between = found_body (since_of s) s.state.sum.recorded (have + 1) is in
      (omega (arith, between.0, since_above), omega (arith, between.1, stands.centre.recorded), refl)
  answer_true have InSummary is = omega (arith, stands.centre.recorded)
  answer_true have Ahead is = tt

  -- it has room in its bytes
  answer_fits : (have : ℕ) (f : Found) → have < 2 ^ 48 → since_of s < 2 ^ 64 → place_behind s have ≡ f
      → Fits (answer_at f (since_of s) have (body_of_number b h (have + 1)))
  answer_fits have Body small few is =
      let between = found_body (since_of s) s.state.sum.recorded (have + 1) is in
      let long = bodies_long b h stands.centre.legal (have + 1 - b.recorded - 1)
      (omega (arith, between.0, between.1, since_above, stands.centre.recorded, bodies_count 2 h)) in
      (omega (arith, small), long.0, long.1)
  answer_fits have InSummary small few is = few
  answer_fits have Ahead small few is = tt

  -- so it is an answer, where the disk tells what it holds
  pub is_answer : (have : ℕ) (out : List ℕ) → have < 2 ^ 48 → since_of s < 2 ^ 64 → IsAnsweredWith seen b h s have out
      → IfSome (seen s.journal.disk).told (λ _. IsAnswer out (answer_to b h s have))
  is_answer have out small few with_body = if_told (seen s.journal.disk).told with_body.body_is
    where
      if_told : (o : Option Areas) → IfSome o (λ _. with_body.body ≡ body_of_number b h (have + 1)) → IfSome o (λ _. IsAnswer out (answer_to b h s have))
      if_told None is = tt
      if_told (Some areas) is = record {
        fits = answer_fits have (place_behind s have) small few refl;
        text = with_body.text ∙ ap (λ (l : List ℕ). answer_text (answer_at (place_behind s have) (since_of s) have l)) is;
      }

if_always : {X : Type 0} (o : Option Areas) → X → IfSome o (λ _. X)
if_always None x = tt
if_always (Some areas) x = x

-- the bytes that were put are those of the answer
pub answered_with : {D : Type 0} (seen : D → DiskSeen) (b : Summary) (h : List Entry) (s : Stored D) (have : ℕ) (out body : List ℕ) (f : Found) → place_behind s have ≡ f
    → (since_of s < have + 1 → have + 1 ≤ s.state.sum.recorded → IfSome (seen s.journal.disk).told (λ _. body ≡ body_of_number b h (have + 1)))
    → out ≡ answer_text (answer_at f (since_of s) have body) → IsAnsweredWith seen b h s have out
answered_with seen b h s have out body Body is given text =
    let between = found_body (since_of s) s.state.sum.recorded (have + 1) is in
    record {
      body = body;
      body_is = given between.0 between.1;
      text = text ∙ ap (λ (f : Found). answer_text (answer_at f (since_of s) have body)) (sym is);
    }
answered_with seen b h s have out body InSummary is given text = record {
  body = body_of_number b h (have + 1);
  body_is = if_always (seen s.journal.disk).told refl;
  text = text ∙ ap (λ (f : Found). answer_text (answer_at f (since_of s) have (body_of_number b h (have + 1)))) (sym is);
}
answered_with seen b h s have out body Ahead is given text = record {
  body = body_of_number b h (have + 1);
  body_is = if_always (seen s.journal.disk).told refl;
  text = text ∙ ap (λ (f : Found). answer_text (answer_at f (since_of s) have (body_of_number b h (have + 1)))) (sym is);
}

-- so it is an answer, where the disk has not failed then
pub answers_with : {D : Type 0} (seen : D → DiskSeen) (old new : Stored D) (have : ℕ) (out : List ℕ) → have < 2 ^ 48 → since_of old < 2 ^ 64
    → StandsOn seen old new → IsQuiet (seen old.journal.disk) (seen new.journal.disk) → (HasFailed seen new → ⊥) → (HasFailed seen old → new ≡ old)
    → ((b : Summary) (h : List Entry) → StoreStands seen b old h → IsAnsweredWith seen b h old have out) → Answers seen old new have out
answers_with seen old new have out small few stands quiet up already given = record {
  reads = record { stands = stands; quiet = quiet };
  says = λ b h before.
      is_answer seen b old h before (λ failed. up (subst (HasFailed seen) (sym (already failed)) failed)) have out small few (given b h before);
  up = up;
}

ok_no_err : {A : Type 0} (a : A) (stop : Stop) → Ok a ≡ Err stop → ⊥
ok_no_err a stop is = cc

-- the disk of a store that answered has not failed
pub never_down : {A D : Type 0} (seen : D → DiskSeen) (s : Stored D) (r : Result A Stop) (a : A) → r ≡ Ok a → IsDownWhereFailed seen s r → HasFailed seen s → ⊥
never_down seen s r a was down failed = ok_no_err a (Down s.at_open (seen s.journal.disk).faults) (sym was ∙ down.0 failed)

-- a store that was read has as many summed up
pub same_since : {D : Type 0} (old new : Stored D) → new.state ≡ old.state → IsReadOf old.journal new.journal → since_of new ≡ since_of old
same_since {D} old new state same =
    let more : new.state.sum.recorded ≡ old.state.sum.recorded = ap (λ (t : State). t.sum.recorded) state in
    let kept : new.journal.records ≡ old.journal.records = ap (λ (j : Journal D). j.records) same in
    λ i. more i - kept i

-- the answer of what was found
pub answers_found : {D : Type 0} (seen : D → DiskSeen) (b : Summary) (h : List Entry) (old new : Stored D) (have since : ℕ) (out body : List ℕ) (f : Found)
    → f ≡ place_behind old have → since ≡ since_of new → new.state ≡ old.state → IsReadOf old.journal new.journal
    → (since_of old < have + 1 → have + 1 ≤ old.state.sum.recorded → IfSome (seen old.journal.disk).told (λ _. body ≡ body_of_number b h (have + 1)))
    → out ≡ answer_text (answer_at f since have body) → IsAnsweredWith seen b h old have out
answers_found seen b h old new have since out body f found is state same given text =
    answered_with seen b h old have out body f (sym found) given
    (text ∙ ap (λ (n : ℕ). answer_text (answer_at f n have body)) (is ∙ same_since old new state same))
