-- What the areas have of a run whose beginning was stopped: what was recorded before, or that and the event that met the stop.
use Rattle.std.proofs.Common.{◌≡◌, ◌⊎◌, ◌≤◌, ◌+◌, ℕ, List, [], ◌∷◌, ◌++◌, Bool, true, false, cond, length, Option, inl, inr, refl, sym, ap, subst, ◌∙◌, arith, length-append}
use Rattle.std.proofs.lemmas.Bool.{cases_lt}
use Rattle.std.proofs.lemmas.List.{length_push}
use Rattle.std.proofs.lemmas.Slice.Eq.{bytes_eq-Decides}
use Rattle.arc_data.specs.declared.event.Event.{Event}
use Rattle.arc_data.specs.declared.event.Event.TheVariants.{Adopt, Start}
use Rattle.arc_io.specs.Areas.{Areas}
use Rattle.arc_io.specs.Causes.{next_count}
use Rattle.arc_io.specs.Disks.{DiskSeen}
use Rattle.centre_rules.specs.History.{Entry, Extends, is_recorded, marks, recorded}
use Rattle.centre_rules.specs.Marks.{text}
use Rattle.centre_rules.specs.Summary.{Summary}
use Rattle.centre_rules.specs.Sums.{summary_of}
use Rattle.centre_store.proofs.Begun.{adopt_next, adopted_entry, one_adopt, started_entry}
use Rattle.centre_store.proofs.Bodies.{bodies_more}
use Rattle.centre_store.proofs.Entered.{held}
use Rattle.centre_store.proofs.Holding.{recorded_or, recorded_there}
use Rattle.centre_store.proofs.NextSummary.{bodies_count}
use Rattle.centre_store.proofs.PastOnce.{same_ends}
use Rattle.centre_store.proofs.PastSteps.{no_bodies}
use Rattle.centre_store.proofs.Recorded.{recorded_both}
use Rattle.centre_store.proofs.Summed.{first_once}
use Rattle.centre_store.specs.Begins.{adopted_after, begun_after, event_of_begin, is_in_force, LeavesWithin, StandsWithin, TellsWithin}
use Rattle.centre_store.specs.Bodies.{bodies_in, body_in}
use Rattle.centre_store.specs.Given.{HasEither, HasRecorded, HoldsRecorded, IsKeptAs, StandForEither}
use Rattle.centre_store.specs.StoreHalls.{store_seen}
use Rattle.centre_store.specs.Stores.{HasFailed, Stored, StoreStands}
use Rattle.disk_journal.proofs.Once.{one_standing}
use Rattle.disk_journal.proofs.Steps.{if_both}
use Rattle.disk_journal.specs.Standing.{AreasStand}

-- The disk has failed since the opening, or it has not.

pub fails_or_not : {D : Type 0} (seen : D → DiskSeen) (s : Stored D) → HasFailed seen s ⊎ (HasFailed seen s → ⊥)
fails_or_not seen s =
    elim (cases_lt (seen s.journal.disk).faults (next_count s.at_open)) as (λ _. HasFailed seen s ⊎ (HasFailed seen s → ⊥)) [
      | inl less ↦ inr (λ more. omega (arith, less, more))
      | inr more ↦ inl more
    ]

-- while it has not, the areas have what was recorded
pub there_up : {D : Type 0} (seen : D → DiskSeen) (base : Summary) (s : Stored D) (h : List Entry) → StoreStands seen base s h → (HasFailed seen s → ⊥)
    → HasRecorded (seen s.journal.disk) base h
there_up seen base s h stands up = recorded_there seen s.journal base h (held seen base s h up stands)

-- How many entries are recorded, by the first body and the number of those behind it.

recorded_by : (b : Summary) (h : List Entry) (first : Option (List ℕ)) (bodies : List (List ℕ)) (k : IsKeptAs 2 b h first bodies)
    → (summary_of b k.summed).recorded + length bodies ≡ b.recorded + length (recorded h)
recorded_by b h first bodies k =
    let parts = ap length (ap recorded k.split ∙ recorded_both k.later k.summed) ∙ length-append (recorded k.later) (recorded k.summed) in
    let behind = ap length k.bodies_are ∙ bodies_count 2 k.later in
    let before : (summary_of b k.summed).recorded ≡ b.recorded + length (recorded k.summed) = refl in
    omega (arith, parts, behind, before)

-- with one body more, one entry more
one_longer : (b : Summary) (x so : List Entry) (first : Option (List ℕ)) (bodies : List (List ℕ)) (t : List ℕ) → IsKeptAs 2 b x first bodies
    → IsKeptAs 2 b so first (bodies ++ t ∷ []) → length (recorded so) ≡ length (recorded x) + 1
one_longer b x so first bodies t k more =
    let one = recorded_by b x first bodies k in
    let two = recorded_by b so first (bodies ++ t ∷ []) more in
    let same = ap (λ (s : Summary). s.recorded) (first_once 2 (summary_of b k.summed) (summary_of b more.summed) first k.first_is more.first_is) in
    omega (arith, one, two, same, length_push bodies t)

first_entry : (e f : Entry) (h k : List Entry) → e ∷ h ≡ f ∷ k → e ≡ f
first_entry e f h k is = cc

rest_entries : (e f : Entry) (h k : List Entry) → e ∷ h ≡ f ∷ k → h ≡ k
rest_entries e f h k is = cc

-- the last body is that of the last entry
last_body : (x later summed : List Entry) (e : Entry) (bodies : List (List ℕ)) (t : List ℕ) → is_recorded e.reply ≡ true → e ∷ x ≡ later ++ summed
    → bodies ++ t ∷ [] ≡ bodies_in 2 later → t ≡ body_in 2 e
last_body x [] summed e bodies t is split are =
    let none = ap length (are ∙ no_bodies 2) in
    absurd (omega (arith, none, length_push bodies t))
last_body x (f ∷ later) summed e bodies t is split are =
    let same : e ≡ f = first_entry e f x (later ++ summed) split in
    let more = bodies_more 2 f later (ap (λ (g : Entry). is_recorded g.reply) (sym same) ∙ is) in
    (same_ends bodies (bodies_in 2 later) t (body_in 2 f) (are ∙ more)).bodies ∙ ap (body_in 2) (sym same)

-- Of lists with one entry more, or two, in front.

one_more : (h so front last begun : List Entry) (e : Entry) → so ≡ front ++ h → begun ≡ last ++ so → begun ≡ e ∷ h → (so ≡ h) ⊎ (so ≡ e ∷ h)
one_more h so front [] begun e to back is = inr (sym back ∙ is)
one_more h so [] (x ∷ last) begun e to back is = inl to
one_more h so (y ∷ front) (x ∷ last) begun e to back is =
    absurd (omega (arith, ap length to, ap length back, ap length is, length-append front h, length-append last so))

two_more : (h so front last begun : List Entry) (e f : Entry) → so ≡ front ++ h → begun ≡ last ++ so → begun ≡ f ∷ e ∷ h
    → (so ≡ h) ⊎ ((so ≡ e ∷ h) ⊎ (so ≡ f ∷ e ∷ h))
two_more h so front [] begun e f to back is = inr (inr (sym back ∙ is))
two_more h so front (x ∷ last) begun e f to back is =
    let rest : last ++ so ≡ e ∷ h = rest_entries x f (last ++ so) (e ∷ h) (sym back ∙ is) in
    elim (one_more h so front last (e ∷ h) e to (sym rest) refl) as (λ _. (so ≡ h) ⊎ ((so ≡ e ∷ h) ⊎ (so ≡ f ∷ e ∷ h))) [
      | inl none ↦ inl none
      | inr one ↦ inr (inl one)
    ]

module _ (b : Summary) (h : List Entry) (setup : List ℕ) (clock : ℕ) where
  abbrev first : Entry
  first = adopted_entry b h setup clock

  abbrev last : Entry
  last = started_entry b (adopted_after b h setup clock) clock

  -- what can stand behind a history within the beginning, with one recorded entry more
  abbrev IsNextTo : List Entry → Entry → Type 0
  IsNextTo x e =
      (so : List Entry) → Extends h so → Extends so (begun_after b h setup clock) → length (recorded so) ≡ length (recorded x) + 1 → so ≡ e ∷ x

  next_adopt : is_in_force (text b (marks b h)) setup ≡ false → IsNextTo h first
  next_adopt other so from to longer =
      let begun : begun_after b h setup clock ≡ last ∷ first ∷ h = ap (λ (l : List Entry). last ∷ l) (one_adopt b h setup clock other) in
      elim (two_more h so from.0 to.0 (begun_after b h setup clock) first last from.1 to.1 begun) as (λ _. so ≡ first ∷ h) [
        | inl none ↦ absurd (let same = ap (λ (l : List Entry). length (recorded l)) none in omega (arith, same, longer))
        | inr more ↦ elim more as (λ _. so ≡ first ∷ h) [
          | inl one ↦ one
          | inr two ↦ absurd (let same = ap (λ (l : List Entry). length (recorded l)) two in omega (arith, same, longer))
        ]
      ]

  next_start_if : (v : Bool) → is_in_force (text b (marks b h)) setup ≡ v → IsNextTo (adopted_after b h setup clock) last
  next_start_if true force so from to longer =
      let none_adopted : adopted_after b h setup clock ≡ h = ap (λ (w : Bool). cond w h (first ∷ h)) force in
      let begun : begun_after b h setup clock ≡ last ∷ h = ap (λ (l : List Entry). last ∷ l) none_adopted in
      let few = ap (λ (l : List Entry). length (recorded l)) none_adopted in
      elim (one_more h so from.0 to.0 (begun_after b h setup clock) last from.1 to.1 begun) as (λ _. so ≡ last ∷ adopted_after b h setup clock) [
        | inl none ↦ absurd (let same = ap (λ (l : List Entry). length (recorded l)) none in omega (arith, same, few, longer))
        | inr one ↦ one ∙ ap (λ (l : List Entry). last ∷ l) (sym none_adopted)
      ]
  next_start_if false other so from to longer =
      let adopted : adopted_after b h setup clock ≡ first ∷ h = one_adopt b h setup clock other in
      let begun : begun_after b h setup clock ≡ last ∷ first ∷ h = ap (λ (l : List Entry). last ∷ l) adopted in
      let few = ap (λ (l : List Entry). length (recorded l)) adopted in
      elim (two_more h so from.0 to.0 (begun_after b h setup clock) first last from.1 to.1 begun) as (λ _. so ≡ last ∷ adopted_after b h setup clock) [
        | inl none ↦ absurd (let same = ap (λ (l : List Entry). length (recorded l)) none in omega (arith, same, few, longer))
        | inr more ↦ elim more as (λ _. so ≡ last ∷ adopted_after b h setup clock) [
          | inl one ↦ absurd (let same = ap (λ (l : List Entry). length (recorded l)) one in omega (arith, same, few, longer))
          | inr two ↦ two ∙ ap (λ (l : List Entry). last ∷ l) (sym adopted)
        ]
      ]

  -- areas within the beginning that stand for a history, or for it with some body more: that body is the next event's
  torn_by : (x : List Entry) (e : Entry) (t : List ℕ) (c : Areas) → is_recorded e.reply ≡ true → IsNextTo x e → StandForEither b x t c
      → StandsWithin b h setup clock c → StandForEither b x (body_in 2 e) c
  torn_by x e t c is next (summary, bodies, kept, inl old) within = (summary, bodies, kept, inl old)
  torn_by x e t c is next (summary, bodies, kept, inr new) within =
      let other = within.stands in
      let same = (one_standing c).lists 2 2 summary other.0 (bodies ++ t ∷ []) other.1 new other.3 in
      let k = subst (λ (o : Option (List ℕ)). IsKeptAs 2 b within.so_far o (bodies ++ t ∷ [])) (sym same.0)
      (subst (λ (l : List (List ℕ)). IsKeptAs 2 b within.so_far other.0 l) (sym same.1) other.2) in
      let so = next within.so_far within.from_h within.to_begun (one_longer b x within.so_far summary bodies t kept k) in
      let body = last_body x k.later k.summed e bodies t is (sym so ∙ k.split) k.bodies_are in
      (summary, bodies, kept, inr (subst (λ (l : List ℕ). AreasStand c 2 summary (bodies ++ l ∷ [])) body new))

  -- the text in force behind the Adopt, or where there is none, is the setup's
  adopted_force : (v : Bool) → is_in_force (text b (marks b h)) setup ≡ v → is_in_force (text b (marks b (adopted_after b h setup clock))) setup ≡ true
  adopted_force true force =
      ap (λ (l : List Entry). is_in_force (text b (marks b l)) setup) (ap (λ (w : Bool). cond w h (first ∷ h)) force) ∙ force
  adopted_force false other =
      ap (λ (l : List Entry). is_in_force (text b (marks b l)) setup) (one_adopt b h setup clock other) ∙ (bytes_eq-Decides setup setup).1 refl

  again : adopted_after b (adopted_after b h setup clock) setup clock ≡ adopted_after b h setup clock
  again =
      let a = adopted_after b h setup clock in
      ap (λ (v : Bool). cond v a (adopted_entry b a setup clock ∷ a)) (adopted_force (is_in_force (text b (marks b h)) setup) refl)

  -- so behind it, too, the beginning ends as it would have
  pub begun_same : (x : List Entry) → (x ≡ h) ⊎ (x ≡ adopted_after b h setup clock) → begun_after b h setup clock ≡ begun_after b x setup clock
  begun_same x (inl before) = ap (λ (l : List Entry). begun_after b l setup clock) (sym before)
  begun_same x (inr adopted) =
      ap (λ (l : List Entry). started_entry b l clock ∷ l) (sym again) ∙ ap (λ (l : List Entry). begun_after b l setup clock) (sym adopted)

  same_length : (v : Bool) → is_in_force (text b (marks b h)) setup ≡ v → length (adopted_after b h setup clock) ≡ length h
      → adopted_after b h setup clock ≡ h
  same_length true force few = ap (λ (w : Bool). cond w h (first ∷ h)) force
  same_length false other few = absurd (let more = ap length (one_adopt b h setup clock other) in omega (arith, more, few))

  module _ {D : Type 0} (seen : D → DiskSeen) (old new : Stored D)
      (counts_now : (d : D) (t : ℕ) (c : Areas) → t ≤ (seen d).moment → (seen d).may_leave c → (seen d).left_since t c) where
    -- by what the store stands for behind the stop
    torn_with : (x : List Entry) (e : Entry) → is_recorded e.reply ≡ true → IsNextTo x e → StoreStands seen b new x → LeavesWithin seen old new setup clock
        → TellsWithin seen old new setup clock → StoreStands seen b old h → (HasFailed seen old → ⊥) → HasEither (seen new.journal.disk) b x (body_in 2 e)
    torn_with x e is next w any_moment met stands up =
        let run = any_moment b h stands up in
        elim w.journal as (λ _. HasEither (seen new.journal.disk) b x (body_in 2 e)) [
          | inl holds ↦ recorded_or (seen new.journal.disk) b x (body_in 2 e) (recorded_there seen new.journal b x holds)
          | inr failed ↦ elim failed.1 as (λ _. HasEither (seen new.journal.disk) b x (body_in 2 e)) [
            | inl has ↦ recorded_or (seen new.journal.disk) b x (body_in 2 e) has
            | inr torn ↦ record {
              area = if_both (StandForEither b x (body_in 2 torn.entry)) (StandsWithin b h setup clock) (StandForEither b x (body_in 2 e))
                  (seen new.journal.disk).told torn.leaves.area (met b h stands up)
                  (λ c either within. torn_by x e (body_in 2 torn.entry) c is next either within);
              images = λ c left. torn_by x e (body_in 2 torn.entry) c is next (torn.leaves.images c left)
                  (run.each c (counts_now new.journal.disk (seen old.journal.disk).moment c run.later left));
            }
          ]
        ]

    at_adopt : is_in_force (text b (marks b h)) setup ≡ false → StoreStands seen b new h → LeavesWithin seen old new setup clock
        → TellsWithin seen old new setup clock → StoreStands seen b old h → (HasFailed seen old → ⊥)
        → (store_seen seen new).torn b h (event_of_begin new.state.sum.text setup) clock
    at_adopt other w any_moment met stands up =
        let force : is_in_force new.state.sum.text setup ≡ false = ap (λ (o : Option (List ℕ)). is_in_force o setup) w.centre.same.text ∙ other in
        subst (λ (event : Event). (store_seen seen new).torn b h event clock) (sym (adopt_next new.state.sum.text setup force))
        (torn_with h first refl (next_adopt other) w any_moment met stands up)

    at_start : (v : Bool) → is_in_force (text b (marks b h)) setup ≡ v → StoreStands seen b new (adopted_after b h setup clock)
        → LeavesWithin seen old new setup clock → TellsWithin seen old new setup clock → StoreStands seen b old h → (HasFailed seen old → ⊥)
        → (store_seen seen new).torn b (adopted_after b h setup clock) (event_of_begin new.state.sum.text setup) clock
    at_start v is w any_moment met stands up =
        let force : is_in_force new.state.sum.text setup ≡ true =
        ap (λ (o : Option (List ℕ)). is_in_force o setup) w.centre.same.text ∙ adopted_force v is in
        let start : event_of_begin new.state.sum.text setup ≡ Start = ap (λ (t : Bool). cond t Start (Adopt setup)) force in
        subst (λ (event : Event). (store_seen seen new).torn b (adopted_after b h setup clock) event clock) (sym start)
        (torn_with (adopted_after b h setup clock) last refl (next_start_if v is) w any_moment met stands up)

    -- the disk had not failed before
    at_either : (v : Bool) → is_in_force (text b (marks b h)) setup ≡ v → (x : List Entry) → (x ≡ h) ⊎ (x ≡ adopted_after b h setup clock)
        → StoreStands seen b new x → LeavesWithin seen old new setup clock → TellsWithin seen old new setup clock → StoreStands seen b old h
        → (HasFailed seen old → ⊥) → (store_seen seen new).torn b x (event_of_begin new.state.sum.text setup) clock
    at_either v is x (inr adopted) w any_moment met stands up =
        subst (λ (k : List Entry). (store_seen seen new).torn b k (event_of_begin new.state.sum.text setup) clock) (sym adopted)
        (at_start v is (subst (StoreStands seen b new) adopted w) any_moment met stands up)
    at_either false is x (inl before) w any_moment met stands up =
        subst (λ (k : List Entry). (store_seen seen new).torn b k (event_of_begin new.state.sum.text setup) clock) (sym before)
        (at_adopt is (subst (StoreStands seen b new) before w) any_moment met stands up)
    at_either true is x (inl before) w any_moment met stands up =
        let adopted : x ≡ adopted_after b h setup clock = before ∙ sym (ap (λ (t : Bool). cond t h (first ∷ h)) is) in
        subst (λ (k : List Entry). (store_seen seen new).torn b k (event_of_begin new.state.sum.text setup) clock) (sym adopted)
        (at_start true is (subst (StoreStands seen b new) adopted w) any_moment met stands up)

    -- it had: nothing was added
    pub none_added : (x : List Entry) → (x ≡ h) ⊎ (x ≡ adopted_after b h setup clock) → StoreStands seen b new x → new ≡ old → StoreStands seen b old h → x ≡ h
    none_added x came w same stands = elim came as (λ _. x ≡ h) [
      | inl before ↦ before
      | inr adopted ↦
          let entries = ap (λ (s : Stored D). s.state.entries) same in
          let few : length (adopted_after b h setup clock) ≡ length h =
          omega (arith, entries, w.centre.entries, stands.centre.entries, ap length adopted) in
          adopted ∙ same_length (is_in_force (text b (marks b h)) setup) refl few
    ]

    -- and nothing was written
    at_none : (x : List Entry) → (x ≡ h) ⊎ (x ≡ adopted_after b h setup clock) → StoreStands seen b new x → new ≡ old → StoreStands seen b old h
        → HoldsRecorded seen old.journal b h → HasRecorded (seen new.journal.disk) b x
    at_none x came w same stands holds =
        let there = subst (λ (s : Stored D). HasRecorded (seen s.journal.disk) b h) (sym same) (recorded_there seen old.journal b h holds) in
        subst (λ (k : List Entry). HasRecorded (seen new.journal.disk) b k) (sym (none_added x came w same stands)) there

    pub unbegun : (x : List Entry) → (x ≡ h) ⊎ (x ≡ adopted_after b h setup clock) → StoreStands seen b new x → LeavesWithin seen old new setup clock
        → TellsWithin seen old new setup clock → (HasFailed seen old → new ≡ old) → StoreStands seen b old h → HoldsRecorded seen old.journal b h
        → (store_seen seen new).torn b x (event_of_begin new.state.sum.text setup) clock
    unbegun x came w any_moment met already stands holds =
        elim (fails_or_not seen old) as (λ _. (store_seen seen new).torn b x (event_of_begin new.state.sum.text setup) clock) [
          | inl failed ↦ recorded_or (seen new.journal.disk) b x _ (at_none x came w (already failed) stands holds)
          | inr up ↦ at_either (is_in_force (text b (marks b h)) setup) refl x came w any_moment met stands up
        ]
