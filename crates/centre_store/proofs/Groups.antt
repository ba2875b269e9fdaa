-- What the writing of the bodies of a group does to the histories that a journal has.
use Rattle.std.proofs.Common.{◌≡◌, ◌≤◌, ◌+◌, ℕ, List, [], ◌∷◌, ◌++◌, Bool, true, false, cond, length, Option, Some, None, inl, inr, refl, sym, ap, ◌∙◌, subst, arith, append_assoc, length-append}
use Rattle.std.specs.Prelude.{IfSome}
use Rattle.std.proofs.lemmas.List.{append-nil}
use Rattle.arc_io.specs.Areas.{Areas}
use Rattle.arc_io.specs.Disks.{DiskSeen}
use Rattle.arc_io.specs.Crashes.{Becomes, LeavesOnly}
use Rattle.arc_io.proofs.Moments.{weaker}
use Rattle.centre_rules.specs.Summary.{Summary}
use Rattle.centre_rules.specs.History.{Entry, is_recorded}
use Rattle.disk_journal.specs.Journal.{Holds}
use Rattle.disk_journal.specs.Records.{need_of_all}
use Rattle.disk_journal.specs.Standing.{StandsForSet, IsDistinct, size_of}
use Rattle.disk_journal.specs.declared.journal.Journal.{Journal}
use Rattle.disk_journal.proofs.Gates.{size-all}
use Rattle.disk_journal.proofs.Steps.{if_map}
use Rattle.centre_store.specs.Bodies.{body_in}
use Rattle.centre_store.specs.Calls.{Submission}
use Rattle.centre_store.specs.Given.{IsKeptAs, StandForIn, HoldsRecorded, HasRecorded, HasEither, StandForEither}
use Rattle.centre_store.specs.Groups.{entry_by, with_all, bodies_by, StandForGroup, HasGroup}
use Rattle.centre_store.proofs.Holding.{kept_more, kept_quiet, kept_distinct, either_one, told_map}

-- How a history is kept with the entries of these.

kept_step : (b : Summary) (h x : List Entry) (e : Entry) (first : Option (List ℕ)) (bodies further : List (List ℕ)) (t : Bool) → is_recorded e.reply ≡ t
    → IsKeptAs 2 b h first bodies → ((before : List (List ℕ)) → IsKeptAs 2 b (e ∷ h) first before → IsKeptAs 2 b x first (before ++ further))
    → IsKeptAs 2 b x first (bodies ++ cond t (body_in 2 e ∷ further) further)
kept_step b h x e first bodies further true is kept later =
    subst (IsKeptAs 2 b x first) (append_assoc bodies (body_in 2 e ∷ []) further)
    (later (bodies ++ body_in 2 e ∷ []) (kept_more b h e first bodies is kept))
kept_step b h x e first bodies further false is kept later = later bodies (kept_quiet 2 b h e first bodies is kept)

pub kept_all : (caller : ℕ) (b : Summary) (h : List Entry) (calls : List Submission) (first : Option (List ℕ)) (bodies : List (List ℕ))
    → IsKeptAs 2 b h first bodies → IsKeptAs 2 b (with_all caller b h calls) first (bodies ++ bodies_by caller b h calls)
kept_all caller b h [] first bodies kept = subst (IsKeptAs 2 b h first) (sym (append-nil bodies)) kept
kept_all caller b h (call ∷ later) first bodies kept =
    let e = entry_by caller b h call in
    kept_step b h (with_all caller b (e ∷ h) later) e first bodies (bodies_by caller b (e ∷ h) later) (is_recorded e.reply) refl kept
    (λ before k. kept_all caller b (e ∷ h) later first before k)

pub no_length : {A : Type 0} (xs : List A) → length xs ≡ 0 → xs ≡ []
no_length [] none = refl
no_length (x ∷ xs) none = absurd (omega (arith, none))

-- The areas.

module _ (caller : ℕ) (b : Summary) (h : List Entry) (calls : List Submission) where
  -- they stand for a history, or for it with the entries of these, whose bodies those are
  pub group_of : (first : Option (List ℕ)) (bodies : List (List ℕ)) (areas : Areas) → IsKeptAs 2 b h first bodies
      → StandsForSet 2 first bodies (bodies_by caller b h calls) areas → StandForGroup caller b h calls areas
  group_of first bodies areas kept (inl old) = inl (first, bodies, kept, old)
  group_of first bodies areas kept (inr new) = inr (first, bodies ++ bodies_by caller b h calls, kept_all caller b h calls first bodies kept, new)

  pub recorded_group : (disk : DiskSeen) → HasRecorded disk b h → HasGroup disk caller b h calls
  recorded_group disk has = record {
    area = if_map (StandForIn 2 b h) (StandForGroup caller b h calls) disk.told has.area (λ s stands. inl stands);
    images = λ c left. inl (has.images c left);
  }

  pub run_group : (old new : DiskSeen) → LeavesOnly old new (StandForIn 2 b h) → LeavesOnly old new (StandForGroup caller b h calls)
  run_group old new run = weaker old new (StandForGroup caller b h calls) (StandForIn 2 b h) run (λ c stands. inl stands)

-- of one alone
module _ (caller : ℕ) (b : Summary) (h : List Entry) (call : Submission) (body : List ℕ)
    (is : is_recorded (entry_by caller b h call).reply ≡ true) (same : body ≡ body_in 2 (entry_by caller b h call)) where
  one_group : (areas : Areas) → StandForEither b h body areas → StandForGroup caller b h (call ∷ []) areas
  one_group areas either = either_one b h (entry_by caller b h call) areas is (subst (λ (l : List ℕ). StandForEither b h l areas) same either)

  pub one_run : (old new : DiskSeen) → LeavesOnly old new (StandForEither b h body) → LeavesOnly old new (StandForGroup caller b h (call ∷ []))
  one_run old new run = weaker old new (StandForGroup caller b h (call ∷ [])) (StandForEither b h body) run one_group

  pub one_met : (disk : DiskSeen) → HasEither disk b h body → HasGroup disk caller b h (call ∷ [])
  one_met disk has = record {
    area = if_map (StandForEither b h body) (StandForGroup caller b h (call ∷ [])) disk.told has.area (λ s either. one_group s either);
    images = λ c left. one_group c (has.images c left);
  }

-- The journal.

all_of_more : (first : Option (List ℕ)) (before bodies : List (List ℕ)) → size_of first (before ++ bodies) ≡ size_of first before + need_of_all bodies
all_of_more None before bodies = size-all before bodies
all_of_more (Some summary) before bodies = size-all (summary ∷ before) bodies

module _ {D : Type 0} (seen : D → DiskSeen) where
  -- what it held before, it holds with these bodies
  abbrev pub AddsAll : Journal D → Journal D → List (List ℕ) → Type 0
  AddsAll j k bodies = (version : ℕ) (summary : Option (List ℕ)) (before : List (List ℕ)) → Holds seen j version summary before
      → IsDistinct summary (before ++ bodies) → Holds seen k version summary (before ++ bodies)

  -- a crash at any moment leaves that, or it with them all
  abbrev pub RunsAll : Journal D → D → List (List ℕ) → Type 0
  RunsAll j new bodies = (version : ℕ) (summary : Option (List ℕ)) (before : List (List ℕ)) → Holds seen j version summary before
      → IsDistinct summary (before ++ bodies) → LeavesOnly (seen j.disk) (seen new) (StandsForSet version summary before bodies)

  -- and so does a read then
  abbrev pub TellsAll : Journal D → D → List (List ℕ) → Type 0
  TellsAll j new bodies = (version : ℕ) (summary : Option (List ℕ)) (before : List (List ℕ)) → Holds seen j version summary before
      → IsDistinct summary (before ++ bodies) → Becomes (seen j.disk).told (seen new).told (λ _ t. StandsForSet version summary before bodies t)

  -- The bodies are those of these events, which a caller submits after the history that the journal has.
  module _ (j : Journal D) (caller : ℕ) (b : Summary) (h : List Entry) (calls : List Submission) (bodies : List (List ℕ))
      (are : bodies ≡ bodies_by caller b h calls) where
    apart : (first : Option (List ℕ)) (before : List (List ℕ)) → IsKeptAs 2 b h first before → IsDistinct first (before ++ bodies_by caller b h calls)
    apart first before kept = kept_distinct 2 b (with_all caller b h calls) first (before ++ bodies_by caller b h calls) (kept_all caller b h calls first before kept)

    pub all_added : (k : Journal D) → AddsAll j k bodies → HoldsRecorded seen j b h → HoldsRecorded seen k b (with_all caller b h calls)
    all_added k adds (first, before, kept, holds) =
        let added : AddsAll j k (bodies_by caller b h calls) = subst (AddsAll j k) are adds in
        (first, before ++ bodies_by caller b h calls, kept_all caller b h calls first before kept, added 2 first before holds (apart first before kept))

    pub all_moments : (new : D) → RunsAll j new bodies → HoldsRecorded seen j b h → LeavesOnly (seen j.disk) (seen new) (StandForGroup caller b h calls)
    all_moments new runs (first, before, kept, holds) =
        let run : RunsAll j new (bodies_by caller b h calls) = subst (RunsAll j new) are runs in
        weaker (seen j.disk) (seen new) (StandForGroup caller b h calls) (StandsForSet 2 first before (bodies_by caller b h calls))
        (run 2 first before holds (apart first before kept)) (λ c stands. group_of caller b h calls first before c kept stands)

    all_told : (new : D) → TellsAll j new bodies → HoldsRecorded seen j b h → IfSome (seen new).told (StandForGroup caller b h calls)
    all_told new tells (first, before, kept, holds) =
        let told : TellsAll j new (bodies_by caller b h calls) = subst (TellsAll j new) are tells in
        told_map (λ _ t. StandsForSet 2 first before (bodies_by caller b h calls) t) (StandForGroup caller b h calls) (seen j.disk).told (seen new).told
        (told 2 first before holds (apart first before kept)) (λ s t stands. group_of caller b h calls first before t kept stands)

    pub all_met : (new : D) → ((d : D) (t : ℕ) (c : Areas) → t ≤ (seen d).moment → (seen d).may_leave c → (seen d).left_since t c)
        → RunsAll j new bodies → TellsAll j new bodies → HoldsRecorded seen j b h → HasGroup (seen new) caller b h calls
    all_met new counts_now runs tells holds =
        let moments : LeavesOnly (seen j.disk) (seen new) (StandForGroup caller b h calls) = all_moments new runs holds in
        record {
          area = all_told new tells holds;
          images = λ c now. moments.each c (counts_now new (seen j.disk).moment c moments.later now);
        }

    -- where there are none, it has all that it is to have
    pub none_added : bodies ≡ [] → HoldsRecorded seen j b h → HoldsRecorded seen j b (with_all caller b h calls)
    none_added none (first, before, kept, holds) =
        let same : before ++ bodies_by caller b h calls ≡ before = ap (λ (l : List (List ℕ)). before ++ l) (sym are ∙ none) ∙ append-nil before in
        (first, before, subst (IsKeptAs 2 b (with_all caller b h calls) first) same (kept_all caller b h calls first before kept), holds)

    -- it uses so many bytes more, and has so many records more, in the same area
    pub all_numbers : (k : Journal D) → AddsAll j k bodies → HoldsRecorded seen j b h
        → (k.used ≡ j.used + need_of_all bodies) × (k.records ≡ j.records + length bodies) × (k.generation ≡ j.generation)
    all_numbers k adds (first, before, kept, holds) =
        let here : IsDistinct first (before ++ bodies) = subst (λ (l : List (List ℕ)). IsDistinct first (before ++ l)) (sym are) (apart first before kept) in
        let now = adds 2 first before holds here in (
          omega (arith, now.used, holds.used, all_of_more first before bodies),
          omega (arith, now.count, holds.count, length-append before bodies),
          now.generation ∙ sym holds.generation,
        )
