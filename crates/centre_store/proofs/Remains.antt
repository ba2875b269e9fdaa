-- What remains of a store behind a crash: areas that stand for what was recorded, or for it with one entry more; and what is opened over them.
use Rattle.std.proofs.Common.{◌≡◌, ◌≤◌, ◌<◌, ◌^◌, ◌⊎◌, ◌-◌, ℕ, zero, suc, List, [], ◌∷◌, length, take, drop, Bool, true, false, cond, inl, inr, refl, sym, ap, subst, ◌∙◌, arith}
use Rattle.std.specs.Prelude.{IfSome}
use Rattle.std.specs.List.{AllByRecursion}
use Rattle.std.proofs.lemmas.Bool.{false≢true}
use Rattle.std.proofs.lemmas.List.{length-map, length-drop}
use Rattle.arc_data.specs.WellFormed.{IsWellFormed}
use Rattle.arc_data.specs.declared.event.Event.{Event}
use Rattle.arc_data.specs.declared.event.Message.{Message}
use Rattle.arc_io.specs.Areas.{Areas}
use Rattle.arc_io.specs.Disks.{DiskSeen}
use Rattle.arc_io.specs.Crashes.{LeavesOnly}
use Rattle.arc_io.proofs.Moments.{started, weaker}
use Rattle.centre_laws.specs.Schedules.{Item, IsKept, entries, next, oldest, stands, sent_item, item_of, message_entry, delivered, added}
use Rattle.centre_laws.proofs.Lists.{oldest_recorded}
use Rattle.centre_rules.proofs.Quiet.{legal_recorded}
use Rattle.centre_rules.specs.Answers.{IsLegal, answer}
use Rattle.centre_rules.specs.History.{Entry, Extends, IsMoment, is_recorded, last, moment_after, recorded}
use Rattle.centre_rules.specs.Summary.{Summary, nothing}
use Rattle.disk_journal.proofs.Steps.{file_at, if_map}
use Rattle.disk_journal.specs.declared.journal.Journal.{Journal}
use Rattle.event_codec.specs.Spelling.{spelling}
use Rattle.centre_store.specs.Bodies.{AreNamedIn}
use Rattle.centre_store.specs.Given.{IsFirst, IsGiven, StandForIn, StandFor, StandForEither, HasRecorded}
use Rattle.centre_store.specs.Calls.{Submits, Enters, entry_after}
use Rattle.centre_store.specs.Lives.{IsLeft, Reopens}
use Rattle.centre_store.specs.Openings.{StandsForAll}
use Rattle.centre_store.specs.Pasts.{AreKept}
use Rattle.centre_store.specs.StoreHalls.{IsReadable}
use Rattle.centre_store.specs.Stores.{Stored, HasFailed, StoreStands, Takes, IsToRecord, IsSameJournal}
use Rattle.centre_store.proofs.Entered.{held}
use Rattle.centre_store.proofs.Holding.{either_one, recorded_there}
use Rattle.centre_store.proofs.Readable.{readable_more}
use Rattle.centre_store.proofs.Recorded.{bodies_recorded, recorded_both, recorded_once, summary_recorded}
use Rattle.centre_store.proofs.Reopened.{fewer}

-- Histories.

-- what stays so of a history: it is legal, can be read again, and is not too long
pub record IsFit (h : List Entry) : Type 0 where
  pub legal : IsLegal nothing h
  pub readable : IsReadable nothing h
  pub few : length (recorded h) ≤ 2 ^ 48

-- with one entry more
pub fit_more : (h : List Entry) (e : Event) (clock : ℕ) → IsWellFormed e → IsMoment clock → length h < 2 ^ 48 → IsFit h → IsFit (next h e clock ∷ h)
fit_more h e clock formed moment few fit =
    let count : length (recorded (next h e clock ∷ h)) ≤ length (next h e clock ∷ h) = fewer (next h e clock ∷ h) in
    record {
      legal = (record { event = formed; reply = refl; late = omega arith }, fit.legal);
      readable = readable_more nothing h (next h e clock) clock refl formed moment refl refl fit.readable;
      few = omega (arith, count, few);
    }

legal_drop : (b : Summary) (n : ℕ) (h : List Entry) → IsLegal b h → IsLegal b (drop n h)
legal_drop b zero h legal = legal
legal_drop b (suc n) [] legal = legal
legal_drop b (suc n) (e ∷ h) legal = legal_drop b n h legal.1

kept_drop : (n : ℕ) (h : List Entry) → AreKept h → AreKept (drop n h)
kept_drop zero h kept = kept
kept_drop (suc n) [] kept = kept
kept_drop (suc n) (e ∷ h) kept = kept_drop n h kept.1

-- the oldest of its recorded entries
pub fit_oldest : (n : ℕ) (h : List Entry) → IsFit h → IsFit (oldest n (recorded h))
fit_oldest n h fit =
    let lost : ℕ = length (recorded h) - n in
    let whole : recorded (oldest n (recorded h)) ≡ oldest n (recorded h) = oldest_recorded n h in
    record {
      legal = legal_drop nothing lost (recorded h) (legal_recorded nothing h fit.legal);
      readable = (fit.readable.0, subst AreKept (sym whole) (kept_drop lost (recorded h) fit.readable.1));
      few = omega (arith, ap length whole, length-drop lost (recorded h), fit.few);
    }

-- what a history begins with, it begins with when it has one entry more
pub extends_more : (h k : List Entry) (e : Entry) → Extends h k → Extends h (e ∷ k)
extends_more h k e (later, is) = (e ∷ later, ap (λ (l : List Entry). e ∷ l) is)

-- Areas.

-- what stands for a history stands for its recorded entries
pub stand_recorded : (version : ℕ) (b : Summary) (h : List Entry) (areas : Areas) → StandForIn version b h areas → StandForIn version b (recorded h) areas
stand_recorded version b h areas (first, bodies, k, stands) = (
  first,
  bodies,
  record {
    later = recorded k.later;
    summed = recorded k.summed;
    split = ap recorded k.split ∙ recorded_both k.later k.summed;
    first_is = subst (λ (s : Summary). IsFirst version s first) (summary_recorded b k.summed) k.first_is;
    named = subst (AreNamedIn version) (sym (recorded_once k.later)) k.named;
    bodies_are = k.bodies_are ∙ bodies_recorded version k.later;
  },
  stands,
)

-- What was left of an ideal list.

-- areas stand for the oldest of it, so many
pub record IsKeptIn (w : List Item) (areas : Areas) : Type 0 where
  pub kept : ℕ
  pub keeps : IsKept kept w
  pub short : kept ≤ length w
  pub stands : StandForIn 2 nothing (oldest kept (entries w)) areas

-- another list has one item more, which is not acknowledged, or none
abbrev pub IsMore : List Item → List Item → Type 0
IsMore w v = (v ≡ w) ⊎ ((i : Item) × (i.acknowledged ≡ false) × (v ≡ i ∷ w))

more_or : (t : Bool) (i : Item) (w : List Item) → i.acknowledged ≡ false → IsMore w (cond t w (i ∷ w))
more_or true i w free = inl refl
more_or false i w free = inr (i, free, refl)

or_more : (t : Bool) (i : Item) (w : List Item) → i.acknowledged ≡ false → IsMore w (cond t (i ∷ w) w)
or_more true i w free = inr (i, free, refl)
or_more false i w free = inl refl

pub more_delivered : (n : ℕ) (m : Message) (via : List ℕ) (clock : ℕ) (w : List Item) → IsMore w (delivered n m via clock false w)
more_delivered n m via clock w = more_or (stands n w) (sent_item n false (message_entry w m via clock)) w refl

pub more_added : (e : Entry) (w : List Item) → IsMore w (added e false w)
more_added e w = or_more (is_recorded e.reply) (item_of false e) w refl

-- all of it
pub kept_all : (w : List Item) (areas : Areas) → 2 ≤ length w → StandForIn 2 nothing (entries w) areas → IsKeptIn w areas
kept_all w areas two stands =
    let none : length w - length w ≡ 0 = omega arith in
    let nought : length (entries w) - length w ≡ 0 = omega (arith, length-map w (λ (i : Item). i.entry)) in
    record {
      kept = length w;
      keeps = record {
        beginning = two;
        acknowledged = subst (λ (k : ℕ). AllByRecursion (λ (i : Item). i.acknowledged ≡ false) (take k w)) (sym none) tt;
      };
      short = omega arith;
      stands = subst (λ (k : ℕ). StandForIn 2 nothing (drop k (entries w)) areas) (sym nought) stands;
    }

-- all but the newest, which is not acknowledged
kept_less : (i : Item) (w : List Item) (areas : Areas) → 2 ≤ length w → i.acknowledged ≡ false → StandForIn 2 nothing (entries w) areas → IsKeptIn (i ∷ w) areas
kept_less i w areas two free stands =
    let one : length (i ∷ w) - length w ≡ 1 = omega arith in
    let single : length (entries (i ∷ w)) - length w ≡ 1 = omega (arith, length-map w (λ (j : Item). j.entry)) in
    record {
      kept = length w;
      keeps = record {
        beginning = two;
        acknowledged = subst (λ (k : ℕ). AllByRecursion (λ (j : Item). j.acknowledged ≡ false) (take k (i ∷ w))) (sym one) (free, tt);
      };
      short = omega arith;
      stands = subst (λ (k : ℕ). StandForIn 2 nothing (drop k (entries (i ∷ w))) areas) (sym single) stands;
    }

kept_but : (w v : List Item) (areas : Areas) → 2 ≤ length w → IsMore w v → StandForIn 2 nothing (entries w) areas → IsKeptIn v areas
kept_but w v areas two (inl same) stands = subst (λ (l : List Item). IsKeptIn l areas) (sym same) (kept_all w areas two stands)
kept_but w v areas two (inr (i, free, same)) stands =
    subst (λ (l : List Item). IsKeptIn l areas) (sym same) (kept_less i w areas two free stands)

-- the areas have the recorded entries of a history, or of it with one entry more; these are the lists
pub kept_either : (h k : List Entry) (w v : List Item) (areas : Areas) → recorded h ≡ entries w → recorded k ≡ entries v → 2 ≤ length w → 2 ≤ length v → IsMore w v
    → StandForIn 2 nothing h areas ⊎ StandForIn 2 nothing k areas → IsKeptIn v areas
kept_either h k w v areas same after two more_two more (inl old) =
    kept_but w v areas two more (subst (λ (l : List Entry). StandForIn 2 nothing l areas) same (stand_recorded 2 nothing h areas old))
kept_either h k w v areas same after two more_two more (inr new) =
    kept_all v areas more_two (subst (λ (l : List Entry). StandForIn 2 nothing l areas) after (stand_recorded 2 nothing k areas new))

-- A store and a crash.

module _ {D : Type 0} (seen : D → DiskSeen) (only_now : (d : D) (c : Areas) → (seen d).left_since (seen d).moment c → (seen d).may_leave c) (b : Summary) where
  -- within a call, or of what is told behind it
  pub left_is : (old new : Stored D) (c : Areas) (P : Areas → Type 0) → LeavesOnly (seen old.journal.disk) (seen new.journal.disk) P
      → IfSome (seen new.journal.disk).told P → IsLeft seen old new c → P c
  left_is old new c P run met (inl left) = run.each c left
  left_is old new c P run met (inr told) = file_at P (seen new.journal.disk).told c told met

  -- A store that stands for a history, and whose disk has not failed.
  module _ (s : Stored D) (h : List Entry) (up : HasFailed seen s → ⊥) (w : StoreStands seen b s h) where
    there : HasRecorded (seen s.journal.disk) b h
    there = recorded_there seen s.journal b h (held seen b s h up w)

    -- behind a call
    pub still_moments : (P : Areas → Type 0) → ((c : Areas) → StandForIn 2 b h c → P c) → LeavesOnly (seen s.journal.disk) (seen s.journal.disk) P
    still_moments P so = started (seen s.journal.disk) P (λ c left. so c (there.images c (only_now s.journal.disk c left)))

    still_told : (P : Areas → Type 0) → ((c : Areas) → StandForIn 2 b h c → P c) → IfSome (seen s.journal.disk).told P
    still_told P so = if_map (StandForIn 2 b h) P (seen s.journal.disk).told there.area so

    pub left_still : (c : Areas) → IsLeft seen s s c → StandForIn 2 b h c
    left_still c left = left_is s s c (StandForIn 2 b h) (still_moments (StandForIn 2 b h) (λ c is. is)) there.area left

  -- An event that is submitted.

  pub enters : (old s : Stored D) (h : List Entry) (e : Event) (clock : ℕ) → StoreStands seen b old h → Enters seen old s e clock
      → StoreStands seen b s (entry_after b h e clock ∷ h)
  enters old s h e clock w made =
      let t : Takes seen b s h clock (record { caller = 0; event = e; at = made.at; reply = made.reply }) = made.takes b h w in
      let reply : made.reply ≡ answer b h e (moment_after b h clock) = t.reply ∙ ap (answer b h e) t.at in
      let same : record { caller = 0; event = e; at = made.at; reply = made.reply } ≡ entry_after b h e clock =
      λ i. record { caller = 0; event = e; at = t.at i; reply = reply i } in
      subst (λ (x : Entry). StoreStands seen b s (x ∷ h)) same t.stands

  -- the areas have its entry or not
  abbrev pub HasOrNot : List Entry → Event → ℕ → Areas → Type 0
  HasOrNot h e clock c = StandForIn 2 b h c ⊎ StandForIn 2 b (entry_after b h e clock ∷ h) c

  -- one that is not to be recorded writes nothing
  pub still : (old s : Stored D) (h : List Entry) (e : Event) (clock : ℕ) → ((IsToRecord b h e clock → ⊥) → IsSameJournal old.journal s.journal)
      → is_recorded (entry_after b h e clock).reply ≡ false → s.journal.disk ≡ old.journal.disk
  still old s h e clock unrecorded is = ap (λ (j : Journal D). j.disk) (unrecorded (λ (to : IsToRecord b h e clock). false≢true (sym is ∙ to)))

  module _ (old s : Stored D) (h : List Entry) (e : Event) (clock : ℕ) (up : HasFailed seen old → ⊥) (w : StoreStands seen b old h)
      (unrecorded : (IsToRecord b h e clock → ⊥) → IsSameJournal old.journal s.journal)
      (any_moment : LeavesOnly (seen old.journal.disk) (seen s.journal.disk) (StandForEither b h (spelling e (moment_after b h clock)))) where
    moments_if : (t : Bool) → is_recorded (entry_after b h e clock).reply ≡ t
        → LeavesOnly (seen old.journal.disk) (seen s.journal.disk) (HasOrNot h e clock)
    moments_if true is =
        weaker (seen old.journal.disk) (seen s.journal.disk) (HasOrNot h e clock) (StandForEither b h (spelling e (moment_after b h clock))) any_moment
        (λ c either. either_one b h (entry_after b h e clock) c is either)
    moments_if false is =
        subst (λ (d : D). LeavesOnly (seen old.journal.disk) (seen d) (HasOrNot h e clock)) (sym (still old s h e clock unrecorded is))
        (still_moments old h up w (HasOrNot h e clock) (λ c stands. inl stands))

    -- a crash in the call leaves such areas
    pub moments_of : LeavesOnly (seen old.journal.disk) (seen s.journal.disk) (HasOrNot h e clock)
    moments_of = moments_if (is_recorded (entry_after b h e clock).reply) refl

  module _ (old s : Stored D) (h : List Entry) (e : Event) (clock : ℕ) (up : HasFailed seen old → ⊥) (w : StoreStands seen b old h)
      (call : Submits seen old s e clock) where
    told_if : (t : Bool) → is_recorded (entry_after b h e clock).reply ≡ t → IfSome (seen s.journal.disk).told (HasOrNot h e clock)
    told_if true is =
        if_map (StandForEither b h (spelling e (moment_after b h clock))) (HasOrNot h e clock) (seen s.journal.disk).told (call.met b h w).area
        (λ c either. either_one b h (entry_after b h e clock) c is either)
    told_if false is =
        subst (λ (d : D). IfSome (seen d).told (HasOrNot h e clock)) (sym (still old s h e clock (call.unrecorded b h w) is))
        (still_told old h up w (HasOrNot h e clock) (λ c stands. inl stands))

    pub cut_moments : LeavesOnly (seen old.journal.disk) (seen s.journal.disk) (HasOrNot h e clock)
    cut_moments = moments_of old s h e clock up w (call.unrecorded b h w) (call.any_moment b h w)

    pub cut : (c : Areas) → IsLeft seen old s c → HasOrNot h e clock c
    cut c left = left_is old s c (HasOrNot h e clock) cut_moments (told_if (is_recorded (entry_after b h e clock).reply) refl) left

  -- What is opened over areas.
  pub reopens : (h : List Entry) (areas : Areas) (s : Stored D) → IsGiven b → IsLegal b h → IsMoment (last b h) → recorded h ≡ h → StandFor b h areas
      → Reopens seen areas s → StoreStands seen b s h
  reopens h areas s given legal moment whole stands r =
      file_at (StandsForAll seen s) (seen r.disk).told r.again r.tells r.opened.every b h given legal moment whole
      (r.goes_on b h given legal moment whole stands)
