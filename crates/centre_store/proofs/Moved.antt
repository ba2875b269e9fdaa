-- How what a journal has in the first version gets into the second, and what an opening leaves at each moment.
use Rattle.std.proofs.Common.{◌≡◌, ◌≢◌, ◌≤◌, ◌<◌, ◌+◌, ◌^◌, ◌⊎◌, ℕ, List, [], length, Option, Some, None, inl, inr, ⊎_elim, refl, sym, ap, ◌∙◌, subst, arith}
use Rattle.std.specs.Prelude.{IfSome}
use Rattle.std.proofs.lemmas.Bool.{cases_lt}
use Rattle.std.proofs.lemmas.Bool.Decides.{nat_tests}
use Rattle.arc_io.specs.Areas.{Areas}
use Rattle.arc_io.specs.Crashes.{Becomes, IsQuiet, LeavesOnly}
use Rattle.arc_io.specs.Disks.{DiskSeen}
use Rattle.arc_io.specs.declared.disk.Area.{Area}
use Rattle.arc_io.proofs.Moments.{started, weaker, joined, quiet_start}
use Rattle.centre_core.specs.Summing.{IsSpelled}
use Rattle.centre_rules.specs.History.{Entry, IsMoment, recorded}
use Rattle.centre_rules.specs.State.{State, StandsFor}
use Rattle.centre_rules.specs.Summary.{Summary}
use Rattle.centre_rules.specs.Sums.{summary_of}
use Rattle.disk_journal.specs.Journal.{Holds, IsAtRestIn, IsOpen}
use Rattle.disk_journal.specs.Records.{IsVersion}
use Rattle.disk_journal.specs.OtherArea.{IsSameIn}
use Rattle.disk_journal.specs.Standing.{AreasStand, StandsForTurn, chosen_part, version_now, GoesOn as StandsOn}
use Rattle.disk_journal.specs.Turning.{Changes}
use Rattle.disk_journal.specs.declared.fault.OpenFault.{OpenFault}
use Rattle.disk_journal.specs.declared.fault.OpenFault.TheVariants.{DiskFault, NotJournal, WrongVersion, Damaged, TooWide, Memory}
use Rattle.disk_journal.specs.declared.journal.Journal.{Journal}
use Rattle.disk_journal.specs.Faults.{HasCounts, IsOfContent}
use Rattle.disk_journal.proofs.Chosen.{rest_stands}
use Rattle.disk_journal.proofs.Steps.{becomes_then, changes_map, file_at, if_map, quiet_changes}
use Rattle.summary_rules.specs.Spelling.{summary_text}
use Rattle.centre_store.specs.Given.{IsKeptAs, StandFor, GoesOn, HoldsRecorded, HoldsRecordedIn, written_length}
use Rattle.centre_store.specs.Openings.{CanOpen, IsChosenSame, IsOpened, IsRefused, IsRestored, IsSummaryOf, IsUnmoved, StandsForMove}
use Rattle.centre_store.specs.Writes.{HaveAllIn, HaveSomeIn}
use Rattle.centre_store.proofs.Holding.{summed_up}
use Rattle.centre_store.proofs.NextSummary.{far}
use Rattle.centre_store.proofs.Opened.{all_told, opened, opened_all, opened_holds, refused}
use Rattle.centre_store.proofs.Reopened.{have_each, kept_each}
use Rattle.centre_store.proofs.Summed.{text_long}
use Rattle.centre_store.proofs.Written.{turn_spelled}

-- Two runs in one.

pub both_moments : (old new : DiskSeen) (P Q : Areas → Type 0) → LeavesOnly old new P → LeavesOnly old new Q → LeavesOnly old new (λ c. P c × Q c)
both_moments old new P Q one two = record {
  later = one.later;
  each = λ c left. (one.each c left, two.each c left);
  before = λ t c le left.
      ⊎_elim
      (λ (was : old.left_since t c). inl was)
      (λ (p : P c). ⊎_elim (λ (was : old.left_since t c). inl was) (λ (q : Q c). inr (p, q)) (two.before t c le left))
      (one.before t c le left);
}

-- calls that write nothing, and then a run
pub after_quiet : (R : Areas → Areas → Type 0) (old mid new : DiskSeen) → ((s : Areas) → R s s) → IsQuiet old mid → Changes R mid new → Changes R old new
after_quiet R old mid new same quiet run = record {
  told = subst (λ (o : Option Areas). Becomes o new.told R) quiet.same run.told;
  crash = λ c now. let d = run.crash c now in (d.0, quiet.crash d.0 d.1, d.2);
  any_moment = joined old mid new (λ c. (d : Areas) × old.may_leave d × R d c) (λ c. (d : Areas) × mid.may_leave d × R d c)
      (weaker old mid (λ c. (d : Areas) × old.may_leave d × R d c) old.may_leave quiet.any_moment (λ c now. (c, now, same c))) run.any_moment
      (λ c x. (x.0, quiet.crash x.0 x.1, x.2));
}

-- A turn into the second version.

module _ {D : Type 0} (seen : D → DiskSeen) (old : Journal D) (s : State) (first : Option (List ℕ)) (bodies : List (List ℕ)) (holds : Holds seen old 1 first bodies) where
  abbrev Moves : Areas → Type 0
  Moves c = StandsForMove seen old s first bodies c

  rest_so : (c : Areas) → IsAtRestIn old.area 1 first bodies c → Moves c
  rest_so c at = inl (rest_stands old.area 1 first bodies c holds.kept.distinct at)

  -- before any call of the disk
  pub unmoved_moments : ((d : D) (c : Areas) → (seen d).left_since (seen d).moment c → (seen d).may_leave c)
      → LeavesOnly (seen old.disk) (seen old.disk) (StandsForMove seen old s first bodies)
  unmoved_moments only_now =
      started (seen old.disk) (StandsForMove seen old s first bodies)
      (λ c left. rest_so c (file_at (IsAtRestIn old.area 1 first bodies) (seen old.disk).told c (holds.kept.settled c (only_now old.disk c left)) holds.kept.file))

  pub unmoved_told : IfSome (seen old.disk).told (StandsForMove seen old s first bodies)
  unmoved_told = if_map (IsAtRestIn old.area 1 first bodies) (StandsForMove seen old s first bodies) (seen old.disk).told holds.kept.file rest_so

  module _ (new : D) (next : List ℕ) (spells : IsSummaryOf seen old s next) where
    turn_so : (c : Areas) → StandsForTurn 1 first bodies next c → Moves c
    turn_so c (inl stands) = inl stands
    turn_so c (inr stands) = inr (next, spells, stands)

    pub moved_moments : LeavesOnly (seen old.disk) (seen new) (StandsForTurn 1 first bodies next) → LeavesOnly (seen old.disk) (seen new) (StandsForMove seen old s first bodies)
    moved_moments run = weaker (seen old.disk) (seen new) (StandsForMove seen old s first bodies) (StandsForTurn 1 first bodies next) run turn_so

    pub moved_told : Becomes (seen old.disk).told (seen new).told (λ _ t. StandsForTurn 1 first bodies next t)
        → IfSome (seen new).told (StandsForMove seen old s first bodies)
    moved_told told = from (seen old.disk).told (seen new).told told
      where
        from : (o m : Option Areas) → Becomes o m (λ _ t. StandsForTurn 1 first bodies next t) → IfSome m (StandsForMove seen old s first bodies)
        from None None is = tt
        from None (Some t) is = absurd is
        from (Some x) None is = absurd is
        from (Some x) (Some t) is = turn_so t is

-- the generation that comes next may come
pub may_move : {D : Type 0} (seen : D → DiskSeen) (j : Journal D) (s : State) (b : Summary) (h : List Entry) → HaveAllIn seen 1 j s b h
    → j.generation ≤ b.recorded + length (recorded h) + 1
may_move seen j s b h all = far seen 1 j b h all.holds

-- a body is what was made of the next generation
pub made_is : (s : State) (now generation : ℕ) (made body : List ℕ) → generation ≡ now → body ≡ made
    → ((b : Summary) (h : List Entry) → IsSpelled b → StandsFor b s h → made ≡ summary_text 2 (generation + 1) (summary_of b h))
    → (b : Summary) (h : List Entry) → IsSpelled b → StandsFor b s h → body ≡ summary_text 2 (now + 1) (summary_of b h)
made_is s now generation made body same is spelled b h given stands =
    is ∙ spelled b h given stands ∙ ap (λ (n : ℕ). summary_text 2 (n + 1) (summary_of b h)) same

-- it is the summary, and so long
module _ {D : Type 0} (seen : D → DiskSeen) (j : Journal D) (s : State) (body : List ℕ)
    (is : (b : Summary) (h : List Entry) → IsSpelled b → StandsFor b s h → body ≡ summary_text 2 (j.generation + 1) (summary_of b h)) where
  pub move_spells : s.entries ≤ 2 ^ 48 → IsMoment s.sum.last → length body ≤ 4_294_967_295 → IsSummaryOf seen j s body
  move_spells few moment short b h all = (j.generation + 1, turn_spelled seen 1 j s body is few moment (may_move seen j s) short b h all)

  pub move_size : (b : Summary) (h : List Entry) → HaveAllIn seen 1 j s b h → length body ≡ written_length b h
  move_size b h all = ap length (is b h all.given all.stands) ∙ text_long 2 (j.generation + 1) (summary_of b h)

-- a version that is not the first is the second
pub second : (version : ℕ) → IsVersion version → version ≢ 1 → version ≡ 2
second version (inl one) other = absurd (other one)
second version (inr two) other = two

-- What an opening found, and did.

module _ {D : Type 0} (seen : D → DiskSeen) (disk : D) (j : Journal D) (given : List (List ℕ)) (s : State) (o : IsOpen seen disk j given)
    (r : IsRestored j.version o.summary o.bodies s) where
  holds : Holds seen j j.version o.summary o.bodies
  holds = opened_holds seen disk j given s o r

  -- where it has the second version, it is left as it was
  pub opened_still : (k : Journal D) (n : ℕ) → k ≡ j → j.version ≡ 2 → IsOpened seen disk (record { state = s; journal = k; at_open = n })
  opened_still k n same two =
      opened seen disk j given s o r k n
      (λ b h all. subst (λ (x : Journal D). HoldsRecorded seen x b h) (sym same) (subst (λ (v : ℕ). HoldsRecordedIn seen v j b h) two all.holds))

  -- where it has the first version
  module _ (one : j.version ≡ 1) where
    pub opened_moved : (k : Journal D) (n : ℕ) → ((b : Summary) (h : List Entry) → HaveAllIn seen 1 j s b h → HoldsRecorded seen k b h)
        → IsOpened seen disk (record { state = s; journal = k; at_open = n })
    opened_moved k n has = opened seen disk j given s o r k n (λ b h all. has b h (subst (λ (v : ℕ). HaveAllIn seen v j s b h) one all))

    all_one : HaveAllIn seen 1 j s r.base r.replayed.past
    all_one = subst (λ (v : ℕ). HaveAllIn seen v j s r.base r.replayed.past) one (opened_all seen disk j given s o r)

    pub had_one : HaveSomeIn seen 1 j s
    had_one = record { base = r.base; history = r.replayed.past; all = all_one }

    pub holds_one : Holds seen j 1 o.summary o.bodies
    holds_one = subst (λ (v : ℕ). Holds seen j v o.summary o.bodies) one holds

    -- a disk that is settled so
    stands_now : (d : Areas) → (seen j.disk).told ≡ Some d → AreasStand d j.version o.summary o.bodies
    stands_now d is = rest_stands j.area j.version o.summary o.bodies d holds.kept.distinct
        (file_at (IsAtRestIn j.area j.version o.summary o.bodies) (seen j.disk).told d is holds.kept.file)

    moved_on : (d c : Areas) → AreasStand d j.version o.summary o.bodies → StandsForMove seen j s o.summary o.bodies c → GoesOn d c
    moved_on d c there moves b h over legal moment whole stands =
        let kept : IsKeptAs 1 b h o.summary o.bodies =
        subst (λ (v : ℕ). IsKeptAs v b h o.summary o.bodies) one (kept_each seen disk j given s o r holds d there b h stands) in
        let all : HaveAllIn seen 1 j s b h =
        subst (λ (v : ℕ). HaveAllIn seen v j s b h) one (have_each seen disk j given s o r holds d there b h over legal moment whole stands) in
        from kept all moves
      where
        from : IsKeptAs 1 b h o.summary o.bodies → HaveAllIn seen 1 j s b h → StandsForMove seen j s o.summary o.bodies c → StandFor b h c
        from kept all (inl old) = (1, (o.summary, o.bodies, kept, old))
        from kept all (inr (next, spells, new)) =
            let first = spells b h all in
            (2, (Some next, [], summed_up 2 b h first.0 next first.1, new))

    pub move_moments : (new : D) → Changes (IsSameIn j.area) (seen j.disk) (seen new) → LeavesOnly (seen j.disk) (seen new) (StandsForMove seen j s o.summary o.bodies)
        → LeavesOnly (seen j.disk) (seen new) (λ c. (d : Areas) × (seen j.disk).may_leave d × GoesOn d c)
    move_moments new kept run =
        weaker (seen j.disk) (seen new) (λ c. (d : Areas) × (seen j.disk).may_leave d × GoesOn d c)
        (λ c. ((d : Areas) × (seen j.disk).may_leave d × IsSameIn j.area d c) × StandsForMove seen j s o.summary o.bodies c)
        (both_moments (seen j.disk) (seen new) (λ c. (d : Areas) × (seen j.disk).may_leave d × IsSameIn j.area d c) (StandsForMove seen j s o.summary o.bodies)
        kept.any_moment run)
        (λ c x. (x.0.0, x.0.1, moved_on x.0.0 c (stands_now x.0.0 (holds.kept.settled x.0.0 x.0.1)) x.1))

    pub move_told : (new : D) → Changes (IsSameIn j.area) (seen j.disk) (seen new) → IfSome (seen new).told (StandsForMove seen j s o.summary o.bodies)
        → Becomes (seen j.disk).told (seen new).told GoesOn
    move_told new kept moves = from (seen j.disk).told (seen new).told (λ d is. stands_now d is) kept.told moves
      where
        from : (x y : Option Areas) → ((d : Areas) → x ≡ Some d → AreasStand d j.version o.summary o.bodies) → Becomes x y (IsSameIn j.area)
            → IfSome y (StandsForMove seen j s o.summary o.bodies) → Becomes x y GoesOn
        from None None there is moves = tt
        from None (Some t) there is moves = absurd is
        from (Some d) None there is moves = absurd is
        from (Some d) (Some t) there is moves = moved_on d t (there d refl) moves

    pub move_kept : (new : D) → Changes (IsSameIn j.area) (seen j.disk) (seen new) → Changes IsChosenSame (seen j.disk) (seen new)
    move_kept new kept =
        changes_map (IsSameIn j.area) IsChosenSame (IsAtRestIn j.area j.version o.summary o.bodies) (seen j.disk) (seen new) holds.kept.settled holds.kept.file kept
        (λ a t at same. subst (λ (x : Area). IsSameIn x a t) (sym at.chosen_is) same)

    -- where a body of the second version may be as long as what they have, the areas can be opened
    pub move_opens : ((b : Summary) (h : List Entry) → HaveAllIn seen 1 j s b h → written_length b h ≤ 4_294_967_295) → IfSome (seen disk).told CanOpen
    move_opens short =
        if_map (λ (a : Areas). AreasStand a j.version o.summary o.bodies) CanOpen (seen disk).told o.stands
        (λ a is. record {
          version = j.version;
          base = r.base;
          bodies = o.bodies;
          past = r.replayed.past;
          gives = (o.summary, r.first_is, is);
          is_past = r.replayed.is_past;
          can_be = λ first. short r.base r.replayed.past all_one;
        })

    -- it was left as it was, or they can
    pub move_written : (new : Journal D) → (new ≡ j) ⊎ ((b : Summary) (h : List Entry) → HaveAllIn seen 1 j s b h → written_length b h ≤ 4_294_967_295)
        → (new ≡ j) ⊎ ((j.version ≡ 1) × IfSome (seen disk).told CanOpen)
    move_written new (inl same) = inl same
    move_written new (inr short) = inr (one, move_opens short)

    -- why it was not done
    pub move_refused : (new : Journal D) (fault : OpenFault) → IsUnmoved seen j new s fault → IfSome (seen disk).told (IsRefused fault)
    move_refused new Memory is = all_told (seen disk).told (IsRefused Memory) (λ a. inl tt)
    move_refused new (DiskFault was now) is = all_told (seen disk).told (IsRefused (DiskFault was now)) (λ a. inl tt)
    move_refused new (TooWide size) is =
        refused seen disk j given (TooWide size) o (record {
          version_is = one;
          base = r.base;
          first_is = r.first_is;
          past = r.replayed.past;
          is_past = r.replayed.is_past;
          size_is = is.2 r.base r.replayed.past all_one;
          wide = is.1;
        })
    move_refused new (NotJournal byte) is = absurd is
    move_refused new (WrongVersion found) is = absurd is
    move_refused new (Damaged place) is = absurd is

-- by what a move that was not made says
module _ {D : Type 0} (seen : D → DiskSeen) (j new : Journal D) (s : State) where
  pub move_counts : (fault : OpenFault) → IsUnmoved seen j new s fault → HasCounts fault (seen j.disk).faults (seen new.disk).faults
  move_counts Memory is = tt
  move_counts (DiskFault was now) is = is
  move_counts (TooWide size) is = tt
  move_counts (NotJournal byte) is = absurd is
  move_counts (WrongVersion found) is = absurd is
  move_counts (Damaged place) is = absurd is

  pub move_unwritten : (fault : OpenFault) → IsUnmoved seen j new s fault → IsOfContent fault → new ≡ j
  move_unwritten Memory is of = absurd of
  move_unwritten (DiskFault was now) is of = absurd of
  move_unwritten (TooWide size) is of = is.0
  move_unwritten (NotJournal byte) is of = absurd is
  move_unwritten (WrongVersion found) is of = absurd is
  move_unwritten (Damaged place) is of = absurd is

-- Before any call, and behind those of the journal.

pub goes_on_same : (s : Areas) → GoesOn s s
goes_on_same s b h given legal moment whole stands = stands

pub stays_on : (s t : Areas) → StandsOn s t → GoesOn s t
stays_on s t on b h given legal moment whole (version, (first, bodies, kept, stands)) = (version, (first, bodies, kept, on version first bodies stands))

pub goes_then : (s t u : Areas) → GoesOn s t → GoesOn t u → GoesOn s u
goes_then s t u one two b h given legal moment whole stands = two b h given legal moment whole (one b h given legal moment whole stands)

pub still_on : (old : DiskSeen) → ((c : Areas) → old.left_since old.moment c → old.may_leave c) → LeavesOnly old old (λ c. (d : Areas) × old.may_leave d × GoesOn d c)
still_on old only_now = started old (λ c. (d : Areas) × old.may_leave d × GoesOn d c) (λ c left. (c, only_now c left, goes_on_same c))

pub still_kept : (old : DiskSeen) → ((c : Areas) → old.left_since old.moment c → old.may_leave c) → Changes IsChosenSame old old
still_kept old only_now = quiet_changes IsChosenSame old old (λ s. refl) (quiet_start old only_now)

pub still_told : (o : Option Areas) → Becomes o o GoesOn
still_told None = tt
still_told (Some s) = goes_on_same s

pub journal_moments : (old mid : DiskSeen) → Changes StandsOn old mid → LeavesOnly old mid (λ c. (d : Areas) × old.may_leave d × GoesOn d c)
journal_moments old mid run =
    weaker old mid (λ c. (d : Areas) × old.may_leave d × GoesOn d c) (λ c. (d : Areas) × old.may_leave d × StandsOn d c) run.any_moment
    (λ c x. (x.0, x.1, stays_on x.0 c x.2))

pub journal_told : (o m : Option Areas) → Becomes o m StandsOn → Becomes o m GoesOn
journal_told None None is = tt
journal_told None (Some t) is = absurd is
journal_told (Some s) None is = absurd is
journal_told (Some s) (Some t) is = stays_on s t is

pub open_moments : (old mid new : DiskSeen) → Changes StandsOn old mid → LeavesOnly mid new (λ c. (d : Areas) × mid.may_leave d × GoesOn d c)
    → LeavesOnly old new (λ c. (d : Areas) × old.may_leave d × GoesOn d c)
open_moments old mid new run more =
    joined old mid new (λ c. (d : Areas) × old.may_leave d × GoesOn d c) (λ c. (d : Areas) × mid.may_leave d × GoesOn d c) (journal_moments old mid run) more
    (λ c x. let e = run.crash x.0 x.1 in (e.0, e.1, goes_then e.0 x.0 c (stays_on e.0 x.0 e.2) x.2))

pub open_told : (o m n : Option Areas) → Becomes o m StandsOn → Becomes m n GoesOn → Becomes o n GoesOn
open_told o m n run more = becomes_then GoesOn o m n goes_then (journal_told o m run) more

-- By the version that the areas had.

short_two : (areas : Areas) → length (chosen_part areas) ≤ 17 → version_now areas ≡ 2
short_two areas short = grind (arith, nat_tests)

long_one : (areas : Areas) → version_now areas ≡ 1 → 17 < length (chosen_part areas)
long_one areas one =
    ⊎_elim
    (λ (long : 17 < length (chosen_part areas)). long)
    (λ (short : length (chosen_part areas) ≤ 17). absurd (omega (arith, one, short_two areas short)))
    (cases_lt 17 (length (chosen_part areas)))

-- a journal that is refused
pub refused_kept : (old new : DiskSeen) → IfSome old.told (λ s. 17 < length (chosen_part s) → IsQuiet old new)
    → IfSome old.told (λ s. version_now s ≡ 1 → Changes IsChosenSame old new)
refused_kept old new long =
    if_map (λ s. 17 < length (chosen_part s) → IsQuiet old new) (λ s. version_now s ≡ 1 → Changes IsChosenSame old new) old.told long
    (λ s quiet one. quiet_changes IsChosenSame old new (λ x. refl) (quiet (long_one s one)))

-- one that is opened, and then moved on or left as it was
module _ {D : Type 0} (seen : D → DiskSeen) (disk : D) (j : Journal D) (given : List (List ℕ)) (o : IsOpen seen disk j given) (new : D) where
  pub opened_chosen : (j.version ≡ 1 → IsQuiet (seen disk) (seen j.disk)) → Changes IsChosenSame (seen j.disk) (seen new)
      → IfSome (seen disk).told (λ s. version_now s ≡ 1 → Changes IsChosenSame (seen disk) (seen new))
  opened_chosen quiet run =
      if_map (λ s. j.version ≡ version_now s) (λ s. version_now s ≡ 1 → Changes IsChosenSame (seen disk) (seen new)) (seen disk).told o.version
      (λ s is one. after_quiet IsChosenSame (seen disk) (seen j.disk) (seen new) (λ x. refl) (quiet (is ∙ one)) run)

  pub opened_fresh : (j.version ≡ 2 → new ≡ j.disk) → Changes StandsOn (seen disk) (seen j.disk)
      → IfSome (seen disk).told (λ s. length (chosen_part s) ≤ 17 → Changes StandsOn (seen disk) (seen new))
  opened_fresh same run =
      if_map (λ s. j.version ≡ version_now s) (λ s. length (chosen_part s) ≤ 17 → Changes StandsOn (seen disk) (seen new)) (seen disk).told o.version
      (λ s is short. subst (λ (d : D). Changes StandsOn (seen disk) (seen d)) (sym (same (is ∙ short_two s short))) run)

-- a refusal of content, before which nothing was written
pub unwritten_so : {D : Type 0} (seen : D → DiskSeen) (disk : D) (j k : Journal D) (given : List (List ℕ)) → (given ≡ [] → ⊥) ⊎ (j.version ≡ 1)
    → ((given ≡ [] → ⊥) → IsQuiet (seen disk) (seen j.disk)) → (j.version ≡ 1 → IsQuiet (seen disk) (seen j.disk)) → k ≡ j
    → IsQuiet (seen disk) (seen k.disk)
unwritten_so seen disk j k given unread untouched first same =
    subst (λ (x : Journal _). IsQuiet (seen disk) (seen x.disk)) (sym same) (⊎_elim untouched first unread)
