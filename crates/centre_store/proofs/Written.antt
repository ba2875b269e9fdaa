-- What the writing of a record does, behind a checkpoint or not, and what a checkpoint does.
use Rattle.std.proofs.Common.{◌≡◌, ◌⊎◌, ◌≤◌, ◌<◌, ◌+◌, ◌^◌, inl, inr, ℕ, List, [], ◌∷◌, ◌++◌, length, true, Option, Some, None, refl, sym, ap, subst, ◌∙◌, arith, length-append}
use Rattle.std.specs.Prelude.{IfSome, Result, Ok, Err, OnOk}
use Rattle.arc_data.specs.declared.event.Event.{Event}
use Rattle.arc_io.specs.Areas.{Areas}
use Rattle.arc_io.specs.Causes.{Rose}
use Rattle.arc_io.specs.Disks.{DiskSeen}
use Rattle.arc_io.specs.Crashes.{LeavesOnly}
use Rattle.arc_io.proofs.Moments.{joined, weaker}
use Rattle.centre_core.specs.declared.hall.Stop.{Stop}
use Rattle.centre_core.specs.declared.hall.Stop.TheVariants.{Memory, Down, Full, Worn}
use Rattle.centre_core.specs.Summing.{IsSpelled}
use Rattle.centre_rules.specs.History.{Entry, IsMoment, is_recorded, recorded}
use Rattle.centre_rules.specs.State.{State, StandsFor, Plan, entry_of}
use Rattle.centre_rules.specs.Summary.{Summary}
use Rattle.centre_rules.specs.Sums.{summary_of}
use Rattle.disk_journal.specs.Faults.{HasCountsOf}
use Rattle.disk_journal.specs.Standing.{IsDistinct, size_of}
use Rattle.disk_journal.specs.Turning.{IsNextTo}
use Rattle.disk_journal.proofs.Gates.{size-more}
use Rattle.disk_journal.specs.declared.fault.AppendFault.{AppendFault}
use Rattle.disk_journal.specs.declared.fault.AppendFault.TheVariants as Append
use Rattle.disk_journal.specs.declared.journal.Journal.{Journal}
use Rattle.event_codec.specs.Spelling.{spelling}
use Rattle.summary_rules.specs.Conditions.{IsSpelling}
use Rattle.summary_rules.specs.Spelling.{summary_text}
use Rattle.centre_store.specs.Bodies.{need_of}
use Rattle.centre_store.specs.Given.{StandForIn, StandForEither, HasRecorded, HoldsRecorded, HasEither, summed_size}
use Rattle.centre_store.specs.Stores.{IsSameJournal}
use Rattle.centre_store.specs.Writes.{HaveAllIn, HaveSomeIn, HaveAll, HaveSome, IsOverAt, IsOverThen, IsFullAt, IsUnwritten, IsWrittenOn, IsSummedUp, IsTurned}
use Rattle.centre_store.proofs.Summed.{text_long}
use Rattle.centre_store.proofs.Distinct.{distinct_more}
use Rattle.centre_store.proofs.Holding.{Adds, Runs, Tells, TurnRuns, TurnTells, Turns, stand_either, recorded_same, recorded_more, recorded_moments, recorded_either}
use Rattle.centre_store.proofs.Holding.{IsAnew, recorded_turned, turned_moments, turned_told, turned_there}
use Rattle.centre_store.proofs.NextSummary.{next_to, next_spelled, followed}

-- The same but for the room.

module _ {D : Type 0} where
  pub same_then : (a b c : Journal D) → IsSameJournal a b → IsSameJournal b c → IsSameJournal a c
  same_then a b c one two = two ∙ ap (λ (x : Journal D). record x { room = c.room }) one

  pub same_back : (a b : Journal D) → IsSameJournal a b → IsSameJournal b a
  same_back a b same = sym (ap (λ (x : Journal D). record x { room = a.room }) same)

-- the body that was made
pub body_is : (items piece : List ℕ) (e event : Event) (at moment : ℕ) → piece ≡ items → items ≡ spelling e at → e ≡ event → at ≡ moment → piece ≡ spelling event moment
body_is items piece e event at moment one two three four = one ∙ two ∙ ap (λ (x : Event). spelling x at) three ∙ ap (spelling event) four

-- what was written was not refused
pub written_over : (r : Result (Unit {0}) Stop) {u : Unit {0}} {one other : Stop} → r ≡ Ok u → (r ≡ Err one) ⊎ (r ≡ Err other) → ⊥
written_over r is (inl e) = cc
written_over r is (inr e) = cc

pub ok_map : {T E P Q : Type 0} (r : Result T E) → (P → Q) → OnOk r P → OnOk r Q
ok_map (Ok x) so p = so p
ok_map (Err e) so p = tt

-- What a call leaves of a history.

module _ {D : Type 0} (seen : D → DiskSeen) where
  -- from a journal that is the same but for its room
  pub run_from : (old k : Journal D) (new : D) (P : Areas → Type 0) → IsSameJournal old k → LeavesOnly (seen k.disk) (seen new) P
      → LeavesOnly (seen old.disk) (seen new) P
  run_from old k new P same run = subst (λ (d : D). LeavesOnly (seen d) (seen new) P) (ap (λ (x : Journal D). x.disk) same) run

  -- of those that stand for it, or for it with one more
  pub run_either : (old new : D) (b : Summary) (h : List Entry) (body : List ℕ) → LeavesOnly (seen old) (seen new) (StandForIn 2 b h)
      → LeavesOnly (seen old) (seen new) (StandForEither b h body)
  run_either old new b h body run = weaker (seen old) (seen new) (StandForEither b h body) (StandForIn 2 b h) run (λ c stands. stand_either b h body c stands)

  -- and then of those that stand for it with one more or without
  pub run_then : (old mid new : D) (b : Summary) (h : List Entry) (body : List ℕ) → LeavesOnly (seen old) (seen mid) (StandForIn 2 b h)
      → LeavesOnly (seen mid) (seen new) (StandForEither b h body) → LeavesOnly (seen old) (seen new) (StandForEither b h body)
  run_then old mid new b h body one two =
      joined (seen old) (seen mid) (seen new) (StandForEither b h body) (StandForEither b h body) (run_either old mid b h body one) two (λ c q. q)

-- The journal with its room.
module _ {D : Type 0} (seen : D → DiskSeen) (old k : Journal D) (s : State) (same : IsSameJournal old k) where
  pub all_same : (b : Summary) (h : List Entry) → HaveAll seen old s b h → HaveAll seen k s b h
  all_same b h all = record { given = all.given; stands = all.stands; holds = recorded_same seen old k b h same all.holds }

  pub some_same : HaveSome seen old s → HaveSome seen k s
  some_same had = record { base = had.base; history = had.history; all = all_same had.base had.history had.all }

  pub over_same : (need : ℕ) → IsOverAt old need → IsOverAt k need
  over_same need over = subst (λ (x : Journal D). IsOverAt x need) (sym same) over

  pub then_same : (used need : ℕ) → IsOverThen old used need → IsOverThen k used need
  then_same used need over = subst (λ (x : Journal D). IsOverThen x used need) (sym same) over

  full_same : (wanted used need records : ℕ) → IsFullAt seen k s wanted used need records → IsFullAt seen old s wanted used need records
  full_same wanted used need records full = record {
    used_is = λ b h all. full.used_is b h (all_same b h all);
    need_is = full.need_is;
    records_is = full.records_is;
    now = subst (λ (x : Journal D). IsOverAt x wanted) same full.now;
    then = subst (λ (x : Journal D). IsOverThen x used wanted) same full.then;
  }

  -- why nothing was written
  pub unwritten_same : (at_open wanted : ℕ) (new : Journal D) (stop : Stop) → IsUnwritten seen at_open k new s wanted stop
      → IsUnwritten seen at_open old new s wanted stop
  unwritten_same at_open wanted new Memory is = same_then old k new same is
  unwritten_same at_open wanted new (Down was now) is = is
  unwritten_same at_open wanted new (Full used need records) is = (same_then old k new same is.0, full_same wanted used need records is.1)
  unwritten_same at_open wanted new (Worn count) is = is

-- Checkpoints.

-- the text of the next summary, which is in this body, is as long as that of any generation
pub summed_long : (generation : ℕ) (b : Summary) (h : List Entry) (body : List ℕ) → body ≡ summary_text 2 generation (summary_of b h)
    → 22 + length body ≡ summed_size b h
summed_long generation b h body is =
    let long : length body ≡ length (summary_text 2 1 (summary_of b h)) = ap length is ∙ text_long 2 generation (summary_of b h) in
    omega (arith, long)

pub summed_of : {D : Type 0} (j k : Journal D) (used : ℕ) → IsTurned j k used → IsSummedUp k
summed_of j k used t = record { summary = λ none. omega (arith, none, t.generation); none_behind = t.records }

-- a turn is refused where the disk failed alone
pub rose_of : (before now : ℕ) (fault : AppendFault) → HasCountsOf ⊥ before now fault → Rose before now
rose_of before now (Append.Full used need records) never = absurd never
rose_of before now (Append.DiskFault was is) counts = counts.rose

pub rose_from : (at_open before now : ℕ) → at_open ≤ before → Rose before now → Rose at_open now
rose_from at_open before now le rose = omega (arith, le, rose)

-- A body is the text of the next summary, whatever the centre stands for: of a journal that has in a version what was recorded, and whose next
-- generation may come.
module _ {D : Type 0} (seen : D → DiskSeen) (version : ℕ) (j : Journal D) (s : State) (body : List ℕ)
    (is : (b : Summary) (h : List Entry) → IsSpelled b → StandsFor b s h → body ≡ summary_text 2 (j.generation + 1) (summary_of b h))
    (few : s.entries ≤ 2 ^ 48) (moment : IsMoment s.sum.last)
    (followed : (b : Summary) (h : List Entry) → HaveAllIn seen version j s b h → j.generation ≤ b.recorded + length (recorded h) + 1)
    (short : length body ≤ 4_294_967_295) where
  pub turn_next : HaveSomeIn seen version j s → IsNextTo j.generation body
  turn_next had =
      let b = had.base in
      let h = had.history in
      subst (IsNextTo j.generation) (sym (is b h had.all.given had.all.stands)) (next_to seen version j b h had.all.holds s had.all.stands few (followed b h had.all))

  -- it uses so many bytes
  pub turn_numbers : (k : Journal D) → HaveSomeIn seen version j s → Turns seen j k body → k.generation ≡ j.generation + 1 → IsTurned j k (22 + length body)
  turn_numbers k had turned generation =
      let holds = had.all.holds in
      let now = turned version holds.0 holds.1 holds.3 in
      record { generation = generation; used_is = omega (arith, now.used); records = now.count }

  module _ (b : Summary) (h : List Entry) (all : HaveAllIn seen version j s b h) where
    text : body ≡ summary_text 2 (j.generation + 1) (summary_of b h)
    text = is b h all.given all.stands

    pub turn_spelled : IsSpelling 2 (j.generation + 1) (summary_of b h) body
    turn_spelled =
        let long : length (summary_text 2 (j.generation + 1) (summary_of b h)) < 2 ^ 32 = omega (arith, ap length text, short) in
        subst (IsSpelling 2 (j.generation + 1) (summary_of b h)) (sym text)
        (next_spelled seen version j b h all.holds s all.stands few (followed b h all) all.given moment long)

    pub turn_has : (k : Journal D) → Turns seen j k body → HoldsRecorded seen k b h
    turn_has k turned = recorded_turned seen version j b h (j.generation + 1) body turn_spelled all.holds k turned

    module _ (new : D) (P : Areas → Type 0) (so : (c : Areas) → IsAnew version b h c → P c) where
      pub turn_moments : TurnRuns seen j new body → LeavesOnly (seen j.disk) (seen new) P
      turn_moments run = turned_moments seen version j b h (j.generation + 1) body turn_spelled all.holds new P so run

      pub turn_told : TurnTells seen j new body → IfSome (seen new).told P
      turn_told told = turned_told seen version j b h (j.generation + 1) body turn_spelled all.holds new P so told

-- where it is of the second version
module _ {D : Type 0} (seen : D → DiskSeen) (j : Journal D) (s : State) (body : List ℕ)
    (is : (b : Summary) (h : List Entry) → IsSpelled b → StandsFor b s h → body ≡ summary_text 2 (j.generation + 1) (summary_of b h))
    (few : s.entries ≤ 2 ^ 48) (moment : IsMoment s.sum.last) (further : IsSummedUp j → ⊥) (fits : 22 + length body ≤ j.limits.bytes) (had : HaveSome seen j s) where
  pub may_follow : (b : Summary) (h : List Entry) → HaveAll seen j s b h → j.generation ≤ b.recorded + length (recorded h) + 1
  may_follow b h all = followed seen j b h all.holds further

  pub short_body : length body ≤ 4_294_967_295
  short_body = omega (arith, fits, had.all.holds.3.few)

  pub turn_met : (b : Summary) (h : List Entry) → HaveAll seen j s b h → (new : D)
      → ((d : D) (t : ℕ) (c : Areas) → t ≤ (seen d).moment → (seen d).may_leave c → (seen d).left_since t c)
      → TurnRuns seen j new body → TurnTells seen j new body → HasRecorded (seen new) b h
  turn_met b h all new counts_now run told =
      turned_there seen j new b h (j.generation + 1) body (turn_spelled seen 2 j s body is few moment may_follow short_body b h all) counts_now run told all.holds

-- Records.

all_more : (first : Option (List ℕ)) (bodies : List (List ℕ)) (body : List ℕ) → size_of first (bodies ++ body ∷ []) ≡ size_of first bodies + 5 + length body
all_more None bodies body = size-more bodies body
all_more (Some summary) bodies body = size-more (summary ∷ bodies) body

-- a body has as many bytes at each moment
size_stays : (event : Event) (at : ℕ) → length (spelling event at) ≡ length (spelling event 0)
size_stays event at = refl

-- The journal with its room, then behind a checkpoint or not, and then with the record of an event.
module _ {D : Type 0} (seen : D → DiskSeen) (old k mid : Journal D) (s : State) (same : IsSameJournal old k) (b : Summary) (h : List Entry)
    (has : HaveAll seen k s b h → HoldsRecorded seen mid b h) (all : HaveAll seen old s b h) where
  held : HoldsRecorded seen mid b h
  held = has (all_same seen old k s same b h all)

  module _ (p : Plan) (body : List ℕ) (is : body ≡ spelling p.event p.at) where
    pub write_added : (new : Journal D) (caller : ℕ) → is_recorded p.reply ≡ true → Adds seen mid new body → HoldsRecorded seen new b (entry_of caller p ∷ h)
    write_added new caller recorded added =
        recorded_more seen mid new b h (entry_of caller p) recorded (subst (λ (l : List ℕ). Adds seen mid new l) is added) held

    pub write_moments : (new : D) → (HaveAll seen k s b h → LeavesOnly (seen k.disk) (seen mid.disk) (StandForIn 2 b h)) → Runs seen mid new body
        → LeavesOnly (seen old.disk) (seen new) (StandForEither b h (spelling p.event p.at))
    write_moments new first run =
        run_then seen old.disk mid.disk new b h (spelling p.event p.at)
        (run_from seen old k mid.disk (StandForIn 2 b h) same (first (all_same seen old k s same b h all)))
        (recorded_moments seen mid new b h p.event p.at (subst (λ (l : List ℕ). Runs seen mid new l) is run) held)

    pub write_met : (new : D) → ((d : D) (t : ℕ) (c : Areas) → t ≤ (seen d).moment → (seen d).may_leave c → (seen d).left_since t c)
        → Runs seen mid new body → Tells seen mid new body → HasEither (seen new) b h (spelling p.event p.at)
    write_met new counts_now run told =
        recorded_either seen mid new b h p.event p.at counts_now (subst (λ (l : List ℕ). Runs seen mid new l) is run)
        (subst (λ (l : List ℕ). Tells seen mid new l) is told) held

    numbers_of : (new : Journal D) → Adds seen mid new body → HoldsRecorded seen mid b h
        → (new.generation ≡ mid.generation) × (new.used ≡ mid.used + need_of p.event) × (new.records ≡ mid.records + 1)
    numbers_of new added (first, bodies, kept, holds) =
        let apart = subst (λ (l : List ℕ). IsDistinct first (bodies ++ l ∷ [])) (sym is) (distinct_more 2 first bodies p.event p.at holds.kept.distinct) in
        let now = added 2 first bodies holds apart in
        let long : length body ≡ length (spelling p.event 0) = ap length is ∙ size_stays p.event p.at in
        let used : new.used ≡ mid.used + need_of p.event = omega (arith, now.used, holds.used, all_more first bodies body, long) in
        let records : new.records ≡ mid.records + 1 = omega (arith, now.count, holds.count, length-append bodies (body ∷ [])) in
        (now.generation ∙ sym holds.generation, used, records)

    pub write_numbers : (new : Journal D) (need : ℕ) → need ≡ need_of p.event → Adds seen mid new body → ((IsOverAt k need → ⊥) → mid ≡ k)
        → (HaveAll seen k s b h → IsOverAt k need → IsTurned k mid (summed_size b h)) → IsWrittenOn old new (summed_size b h) (need_of p.event)
    write_numbers new need wanted added still turned =
        let n = numbers_of new added held in
        record {
          behind = λ no.
              let stays : mid ≡ k = still (λ over. no (subst (IsOverAt old) wanted (subst (λ (x : Journal D). IsOverAt x need) same over))) in
              let generation : mid.generation ≡ old.generation = ap (λ (x : Journal D). x.generation) (stays ∙ same) in
              let used : mid.used ≡ old.used = ap (λ (x : Journal D). x.used) (stays ∙ same) in
              let records : mid.records ≡ old.records = ap (λ (x : Journal D). x.records) (stays ∙ same) in
              (n.0 ∙ generation, omega (arith, n.1, used), omega (arith, n.2, records));
          turned = λ over.
              let t = turned (all_same seen old k s same b h all)
              (over_same seen old k s same need (subst (IsOverAt old) (sym wanted) over)) in
              let generation : k.generation ≡ old.generation = ap (λ (x : Journal D). x.generation) same in
              (omega (arith, n.0, t.generation, generation), omega (arith, n.1, t.used_is), omega (arith, n.2, t.records));
        }
