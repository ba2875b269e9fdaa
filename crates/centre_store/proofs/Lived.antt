-- A store that lives through a schedule stands for its history, and the areas that a crash leaves for the oldest of its ideal list. By
-- induction on the steps.
use Rattle.std.proofs.Common.{◌≡◌, ◌≤◌, ◌⊎◌, ◌-◌, ℕ, List, [], ◌∷◌, ◌++◌, length, Bool, true, false, Option, Some, None, inl, inr, refl, sym, ap, subst, ◌∙◌, arith, length-append}
use Rattle.std.specs.Prelude.{is_ok, if◌then◌else◌}
use Rattle.std.proofs.lemmas.List.{length-map, length-drop}
use Rattle.std.proofs.lemmas.Slice.Eq.{bytes_eq-Decides}
use Rattle.arc_data.specs.declared.event.Event.{Event}
use Rattle.arc_data.specs.declared.event.Event.TheVariants.{Adopt, Start, Message as Sent}
use Rattle.arc_data.specs.declared.reply.Reply.TheVariants.{Adopted}
use Rattle.alarm_rules.specs.Setups.{setup_of}
use Rattle.arc_io.specs.Areas.{Areas}
use Rattle.arc_io.specs.Disks.{DiskSeen}
use Rattle.centre_laws.specs.Repeats.{QuietChangesNothing}
use Rattle.centre_laws.specs.Schedules.{Step, Deliver, Other, Lose, Crash, Schedule, Item, IsStep, Each, entries, next, oldest, item_of, start_entry, beginning, ideal_after, history_after}
use Rattle.centre_laws.specs.Spacing.{IsSpacedStep}
use Rattle.centre_laws.proofs.Lists.{oldest_entries, oldest_recorded}
use Rattle.centre_laws.proofs.Once.{ideal_to}
use Rattle.centre_laws.proofs.Shape.{over, over_oldest}
use Rattle.centre_laws.proofs.Upon.{IsOver, text_stays}
use Rattle.centre_rules.specs.Answers.{if_known}
use Rattle.centre_rules.specs.History.{Entry, marks, moment_after, recorded}
use Rattle.centre_rules.specs.Marks.{text}
use Rattle.centre_rules.specs.Summary.{nothing}
use Rattle.centre_store.specs.Begins.{is_in_force, begun_after, StandsWithin}
use Rattle.centre_store.specs.Given.{StandForIn}
use Rattle.centre_store.specs.Calls.{Submits}
use Rattle.centre_store.specs.Lives.{World, Open, Left, IsBehind, IsBehindNone, Reopens, Begins, IsBehindBegin, IsFirstRun, IsBehindFirst, Lives, IsStepButKept}
use Rattle.centre_store.specs.Stores.{Stored, HasFailed, StoreStands}
use Rattle.centre_store.proofs.Begun.{adopted_entry, started_entry}
use Rattle.centre_store.proofs.Holding.{kept_over}
use Rattle.centre_store.proofs.PastSteps.{no_bodies}
use Rattle.centre_store.proofs.Readable.{last_moment, readable_more}
use Rattle.centre_store.proofs.Summed.{nothing_is, summary_begins}
use Rattle.centre_store.proofs.Remains.{IsFit, IsKeptIn, IsMore, fit_more, fit_oldest, more_delivered, more_added, kept_all, kept_either, stand_recorded, left_is, left_still, enters, cut, reopens}

-- of a list with one entry more in front, what ends it so begins so
one_more : (h so first last begun : List Entry) (e : Entry) → so ≡ first ++ h → begun ≡ last ++ so → begun ≡ e ∷ h → (so ≡ h) ⊎ (so ≡ e ∷ h)
one_more h so first [] begun e front back is = inr (sym back ∙ is)
one_more h so [] (x ∷ last) begun e front back is = inl front
one_more h so (y ∷ first) (x ∷ last) begun e front back is =
    absurd (omega (arith, ap length front, ap length back, ap length is, length-append first h, length-append last so))

-- what there is behind steps, over their history and their ideal list
abbrev pub IsSo : {D : Type 0} → (D → DiskSeen) → List Entry → List Item → World D → Type 0
IsSo seen h w (Open s) = StoreStands seen nothing s h × (HasFailed seen s → ⊥)
IsSo seen h w (Left c) = IsKeptIn w c

-- the invariant
pub record IsGood {D : Type 0} (seen : D → DiskSeen) (x : Schedule) (ss : List Step) (w : World D) : Type 0 where
  pub steps : Each (IsStep x) ss
  pub fit : IsFit (history_after x ss)
  pub so : IsSo seen (history_after x ss) (ideal_after x ss) w

none_before : nothing.recorded ≡ 0
none_before = refl

two_of : (x : Schedule) (ss : List Step) → Each (IsStep x) ss → 2 ≤ length (ideal_after x ss)
two_of x ss steps =
    let o : IsOver x (ideal_after x ss) = over x ss steps in
    let two : length (beginning x) ≡ 2 = refl in
    omega (arith, ap length o.is, length-append o.later (beginning x), two)

module _ {D : Type 0} (seen : D → DiskSeen) (only_now : (d : D) (c : Areas) → (seen d).left_since (seen d).moment c → (seen d).may_leave c)
    (quiet : QuietChangesNothing) (x : Schedule) (setup : is_ok (setup_of x.text) ≡ true) where
  -- what is recorded is the ideal list
  pub ideal : (ss : List Step) → Each (IsStep x) ss → Each (IsSpacedStep x) ss → recorded (history_after x ss) ≡ entries (ideal_after x ss)
  ideal ss steps spaced = (ideal_to quiet x ss setup steps spaced).same

  -- The first run.

  abbrev first_begun : List Entry
  first_begun = begun_after nothing [] x.text x.first

  first_is : first_begun ≡ history_after x []
  first_is =
      ap (λ (t : Bool). let a : Entry = record { caller = 0; event = Adopt x.text; at = moment_after nothing [] x.first; reply = if_known t Adopted } in
      started_entry nothing (a ∷ []) x.first ∷ a ∷ []) (sym setup)

  fresh : IsFit []
  fresh = record { legal = tt; readable = (omega arith, tt); few = omega arith }

  first_stands : (s : Stored D) → IsFirstRun seen x s → StoreStands seen nothing s first_begun
  first_stands s (version, areas, opened, stands, r, has) =
      has.begun nothing [] (reopens seen only_now nothing [] areas opened nothing_is tt (omega arith) refl
      (version, (None, [], kept_over version nothing [] None [] (summary_begins nothing nothing_is) refl tt (sym (no_bodies version)), stands)) r)

  first_fit : (s : Stored D) → IsFirstRun seen x s → IsFit first_begun
  first_fit s run =
      let w : StoreStands seen nothing s first_begun = first_stands s run in
      let moment = run.5.begins.moment in
      let adopt : Entry = adopted_entry nothing [] x.text x.first in
      let two : length (recorded first_begun) ≡ 2 = refl in
      record {
        legal = w.centre.legal;
        readable = readable_more nothing (adopt ∷ []) (started_entry nothing (adopt ∷ []) x.first) x.first refl w.centre.legal.0.event moment refl
            w.centre.legal.0.reply
            (readable_more nothing [] adopt x.first refl w.centre.legal.1.0.event moment refl w.centre.legal.1.0.reply fresh.readable);
        few = omega (arith, two);
      }

  first_so : (w : World D) → IsBehindFirst seen x w → IsFit (history_after x []) × IsSo seen (history_after x []) (beginning x) w
  first_so (Open s) run = (
    subst IsFit first_is (first_fit s run),
    (subst (λ (h : List Entry). StoreStands seen nothing s h) first_is (first_stands s run), run.5.up),
  )
  first_so (Left c) (s, run, left) =
      let h : List Entry = history_after x [] in
      let stands : StoreStands seen nothing s h = subst (λ (l : List Entry). StoreStands seen nothing s l) first_is (first_stands s run) in
      let kept : StandForIn 2 nothing (recorded h) c = stand_recorded 2 nothing h c (left_still seen only_now nothing s h run.5.up stands c left) in (
        subst IsFit first_is (first_fit s run),
        kept_all (beginning x) c (two_of x [] tt) (subst (λ (l : List Entry). StandForIn 2 nothing l c) (ideal [] tt tt) kept),
      )

  -- An event.

  submits_of : (old : Stored D) (e : Event) (clock : ℕ) (a : Bool) (w : World D) → IsBehind seen old e clock a w → (s : Stored D) × Submits seen old s e clock
  submits_of old e clock a (Open s) is = (s, is.submits)
  submits_of old e clock true (Left c) is = (is.0, is.1.submits)
  submits_of old e clock false (Left c) is = (is.0, is.1)

  event_so : (h : List Entry) (w v : List Item) (old : Stored D) (e : Event) (clock : ℕ) (a : Bool) (world : World D) → recorded h ≡ entries w
      → recorded (next h e clock ∷ h) ≡ entries v → 2 ≤ length w → 2 ≤ length v → (a ≡ false → IsMore w v)
      → StoreStands seen nothing old h → (HasFailed seen old → ⊥) → IsBehind seen old e clock a world → IsSo seen (next h e clock ∷ h) v world
  event_so h w v old e clock a (Open s) same after two more_two more stands up made = (enters seen only_now nothing old s h e clock stands made, made.up)
  event_so h w v old e clock true (Left c) same after two more_two more stands up (s, made, left) =
      let k : List Entry = next h e clock ∷ h in
      kept_either k k v v c after after more_two more_two (inl refl)
      (inl (left_still seen only_now nothing s k made.up (enters seen only_now nothing old s h e clock stands made) c left))
  event_so h w v old e clock false (Left c) same after two more_two more stands up (s, call, left) =
      kept_either h (next h e clock ∷ h) w v c same after two more_two (more refl) (cut seen only_now nothing old s h e clock up stands call c left)

  event_good : (s : Step) (ss : List Step) (old : Stored D) (e : Event) (clock : ℕ) (a : Bool) (world : World D)
      → history_after x (s ∷ ss) ≡ next (history_after x ss) e clock ∷ history_after x ss → (a ≡ false → IsMore (ideal_after x ss) (ideal_after x (s ∷ ss)))
      → IsStep x s ss → Each (IsSpacedStep x) (s ∷ ss) → IsGood seen x ss (Open old) → IsBehind seen old e clock a world → IsGood seen x (s ∷ ss) world
  event_good s ss old e clock a world is more step spaced good behind =
      let h : List Entry = history_after x ss in
      let k : List Entry = next h e clock ∷ h in
      let call : (t : Stored D) × Submits seen old t e clock = submits_of old e clock a world behind in
      let steps : Each (IsStep x) (s ∷ ss) = (step, good.steps) in
      let after : recorded k ≡ entries (ideal_after x (s ∷ ss)) = ap recorded (sym is) ∙ ideal (s ∷ ss) steps spaced in
      let stands : StoreStands seen nothing old h = good.so.0 in
      record {
        steps = steps;
        fit = subst IsFit (sym is)
            (fit_more h e clock call.1.formed call.1.moment (omega (arith, stands.centre.entries, call.1.few, none_before)) good.fit);
        so = subst (λ (l : List Entry). IsSo seen l (ideal_after x (s ∷ ss)) world) (sym is)
            (event_so h (ideal_after x ss) (ideal_after x (s ∷ ss)) old e clock a world (ideal ss good.steps spaced.1) after (two_of x ss good.steps)
            (two_of x (s ∷ ss) steps) more stands good.so.1 behind);
      }

  -- Nothing is entered.

  none_so : (h : List Entry) (w : List Item) (old : Stored D) (world : World D) → recorded h ≡ entries w → 2 ≤ length w → StoreStands seen nothing old h
      → IsBehindNone seen old world → IsSo seen h w world
  none_so h w old (Open s) same two stands (all, up) = (all.stands nothing h stands, up)
  none_so h w old (Left c) same two stands (s, all, left) =
      kept_either h h w w c same same two two (inl refl)
      (inl (left_is seen only_now nothing old s c (StandForIn 2 nothing h) (all.any_moment nothing h stands) (all.met nothing h stands).area left))

  -- A crash, an opening and a beginning.

  module _ (ss : List Step) (areas : Areas) (spaced : Each (IsSpacedStep x) ss) (good : IsGood seen x ss (Left areas)) where
    abbrev so : IsKeptIn (ideal_after x ss) areas
    so = good.so

    -- the entries that the crash has kept
    abbrev pub rest : List Entry
    rest = oldest so.kept (recorded (history_after x ss))

    same : recorded (history_after x ss) ≡ entries (ideal_after x ss)
    same = ideal ss good.steps spaced

    pub rest_ideal : rest ≡ oldest so.kept (entries (ideal_after x ss))
    rest_ideal = ap (oldest so.kept) same

    rest_items : rest ≡ entries (oldest so.kept (ideal_after x ss))
    rest_items = rest_ideal ∙ oldest_entries so.kept (ideal_after x ss)

    pub rest_fit : IsFit rest
    rest_fit = fit_oldest so.kept (history_after x ss) good.fit

    rest_whole : recorded rest ≡ rest
    rest_whole = oldest_recorded so.kept (history_after x ss)

    pub rest_stands : StandForIn 2 nothing rest areas
    rest_stands = subst (λ (l : List Entry). StandForIn 2 nothing l areas) (sym rest_ideal) so.stands

    pub rest_opens : (s : Stored D) → Reopens seen areas s → StoreStands seen nothing s rest
    rest_opens s r =
        reopens seen only_now nothing rest areas s nothing_is rest_fit.legal (last_moment nothing rest rest_fit.readable) rest_whole (2, rest_stands) r

    -- the setup in force is the schedule's
    in_force : is_in_force (text nothing (marks nothing rest)) x.text ≡ true
    in_force =
        let stays : text nothing (marks nothing (entries (oldest so.kept (ideal_after x ss)))) ≡ Some x.text =
        text_stays x (oldest so.kept (ideal_after x ss)) (over_oldest x so.kept (ideal_after x ss) so.keeps.beginning (over x ss good.steps)) in
        ap (λ (t : Option (List ℕ)). is_in_force t x.text) (ap (λ (l : List Entry). text nothing (marks nothing l)) rest_items ∙ stays)
        ∙ (bytes_eq-Decides x.text x.text).1 refl

    begun_is : (clock : ℕ) → begun_after nothing rest x.text clock ≡ next rest Start clock ∷ rest
    begun_is clock =
        ap (λ (v : Bool). let a : List Entry = if v then rest else adopted_entry nothing rest x.text clock ∷ rest in started_entry nothing a clock ∷ a) in_force

    -- so many as the opening finds
    kept_count : (s : Stored D) → StoreStands seen nothing s rest → s.state.sum.recorded ≡ so.kept
    kept_count s w = omega (
      arith,
      none_before,
      w.centre.recorded,
      ap length rest_whole,
      ap length rest_items,
      length-map (oldest so.kept (ideal_after x ss)) (λ (i : Item). i.entry),
      length-drop (length (ideal_after x ss) - so.kept) (ideal_after x ss),
      so.short,
    )

    either_of : (clock : ℕ) (c : Areas) → StandsWithin nothing rest x.text clock c → StandForIn 2 nothing rest c ⊎ StandForIn 2 nothing (next rest Start clock ∷ rest) c
    either_of clock c within =
        elim (one_more rest within.so_far within.from_h.0 within.to_begun.0 (begun_after nothing rest x.text clock) (next rest Start clock) within.from_h.1
        within.to_begun.1 (begun_is clock)) as (λ _. StandForIn 2 nothing rest c ⊎ StandForIn 2 nothing (next rest Start clock ∷ rest) c) [
          | inl old ↦ inl (subst (λ (l : List Entry). StandForIn 2 nothing l c) old within.stands)
          | inr new ↦ inr (subst (λ (l : List Entry). StandForIn 2 nothing l c) new within.stands)
        ]

    begins_of : (old : Stored D) (clock : ℕ) (w : World D) → IsBehindBegin seen old x.text clock w → (s : Stored D) × Begins seen old s x.text clock
    begins_of old clock (Open s) is = (s, is.begins)
    begins_of old clock (Left c) is = (is.0, is.1)

    crash_so : (opened : Stored D) (clock : ℕ) (w : World D) → Reopens seen areas opened → IsBehindBegin seen opened x.text clock w
        → Each (IsStep x) (Crash so.kept clock ∷ ss) → IsSo seen (history_after x (Crash so.kept clock ∷ ss)) (ideal_after x (Crash so.kept clock ∷ ss)) w
    crash_so opened clock (Open s) r has steps = (
      subst (λ (l : List Entry). StoreStands seen nothing s l) (begun_is clock) (has.begun nothing rest (rest_opens opened r)),
      has.up,
    )
    crash_so opened clock (Left c) r (s, call, left) steps =
        let w : List Item = oldest so.kept (ideal_after x ss) in
        let i : Item = item_of false (start_entry w clock) in
        let stands : StoreStands seen nothing opened rest = rest_opens opened r in
        let count : length w ≡ length (ideal_after x ss) - (length (ideal_after x ss) - so.kept) =
        length-drop (length (ideal_after x ss) - so.kept) (ideal_after x ss) in
        kept_either rest (next rest Start clock ∷ rest) w (i ∷ w) c (rest_whole ∙ rest_items) (ideal (Crash so.kept clock ∷ ss) steps (tt, spaced))
        (omega (arith, count, so.short, so.keeps.beginning)) (two_of x (Crash so.kept clock ∷ ss) steps) (inr (i, refl, refl))
        (either_of clock c (left_is seen only_now nothing opened s c (StandsWithin nothing rest x.text clock) (call.any_moment nothing rest stands r.up)
        (call.met nothing rest stands r.up) left))

    crash_good : (opened : Stored D) (clock : ℕ) (w : World D) → Reopens seen areas opened → IsBehindBegin seen opened x.text clock w
        → IsGood seen x (Crash so.kept clock ∷ ss) w
    crash_good opened clock w r behind =
        let call : (s : Stored D) × Begins seen opened s x.text clock = begins_of opened clock w behind in
        let stands : StoreStands seen nothing opened rest = rest_opens opened r in
        record {
          steps = (so.keeps, good.steps);
          fit = fit_more rest Start clock tt call.1.moment (omega (arith, stands.centre.entries, call.1.few, none_before)) rest_fit;
          so = crash_so opened clock w r behind (so.keeps, good.steps);
        }

    pub crash_kept : (kept : ℕ) (opened : Stored D) (clock : ℕ) (w : World D) → Reopens seen areas opened → kept ≡ opened.state.sum.recorded
        → IsBehindBegin seen opened x.text clock w → IsGood seen x (Crash kept clock ∷ ss) w
    crash_kept kept opened clock w r is behind =
        subst (λ (k : ℕ). IsGood seen x (Crash k clock ∷ ss) w) (sym (is ∙ kept_count opened (rest_opens opened r))) (crash_good opened clock w r behind)

  -- The induction.
  pub lived : (ss : List Step) (w : World D) → Each (IsStepButKept x) ss → Each (IsSpacedStep x) ss → Lives seen x ss w → IsGood seen x ss w
  lived [] w asked spaced life = let first = first_so w life in record { steps = tt; fit = first.0; so = first.1 }
  lived (Deliver n m via clock a ∷ ss) w asked spaced (old, before, behind) =
      event_good (Deliver n m via clock a) ss old (Sent m via) clock a w refl
      (λ free. subst (λ (b : Bool). IsMore (ideal_after x ss) (ideal_after x (Deliver n m via clock b ∷ ss))) (sym free) (more_delivered n m via clock (ideal_after x ss)))
      asked.0 spaced (lived ss (Open old) asked.1 spaced.1 before) behind
  lived (Other e clock a ∷ ss) w asked spaced (old, before, behind) =
      event_good (Other e clock a) ss old e clock a w refl
      (λ free. subst (λ (b : Bool). IsMore (ideal_after x ss) (ideal_after x (Other e clock b ∷ ss))) (sym free)
      (more_added (next (entries (ideal_after x ss)) e clock) (ideal_after x ss)))
      asked.0 spaced (lived ss (Open old) asked.1 spaced.1 before) behind
  lived (Lose ∷ ss) w asked spaced (old, before, behind) =
      let good : IsGood seen x ss (Open old) = lived ss (Open old) asked.1 spaced.1 before in
      record {
        steps = (tt, good.steps);
        fit = good.fit;
        so = none_so (history_after x ss) (ideal_after x ss) old w (ideal ss good.steps spaced.1) (two_of x ss good.steps) good.so.0 behind;
      }
  lived (Crash kept clock ∷ ss) w asked spaced (areas, opened, before, r, is, behind) =
      crash_kept ss areas spaced.1 (lived ss (Left areas) asked.1 spaced.1 before) kept opened clock w r is behind
