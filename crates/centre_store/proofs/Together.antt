-- What a store stands for after a call with a group, and what a crash at any moment of it leaves.
use Rattle.std.proofs.Common.{◌≡◌, ◌≤◌, ◌<◌, ◌+◌, ◌^◌, ℕ, List, [], ◌∷◌, true, length, take, drop, Option, Some, None, inl, inr, refl, sym, ap, ◌∙◌, subst, arith}
use Rattle.std.specs.Prelude.{◌↔◌, All, IfSome, Result, Err}
use Rattle.std.proofs.lemmas.List.Elements.{All-nil, All-cons}
use Rattle.arc_data.specs.declared.event.Event.{Event}
use Rattle.arc_data.specs.declared.reply.Reply.{Reply}
use Rattle.arc_io.specs.Areas.{Areas}
use Rattle.arc_io.specs.Causes.{Rose}
use Rattle.arc_io.specs.Disks.{DiskSeen}
use Rattle.arc_io.specs.Crashes.{LeavesOnly}
use Rattle.centre_rules.specs.Summary.{Summary}
use Rattle.centre_rules.specs.History.{Entry, moment_after, is_recorded}
use Rattle.centre_rules.specs.Answers.{answer}
use Rattle.centre_rules.specs.State.{State, StandsFor, Plan}
use Rattle.centre_core.specs.declared.hall.Stop.{Stop}
use Rattle.centre_core.specs.declared.hall.Stop.TheVariants.{Memory, Down, Full, Worn}
use Rattle.centre_core.specs.declared.ready.Done.{Done}
use Rattle.centre_core.specs.Setting.{IsShown}
use Rattle.disk_journal.specs.Records.{need_of_all}
use Rattle.disk_journal.specs.declared.journal.Journal.{Journal}
use Rattle.disk_journal.specs.declared.journal.Limits.{Limits}
use Rattle.event_codec.specs.Spelling.{HasSpelling, spelling}
use Rattle.centre_store.specs.Bodies.{need_of}
use Rattle.centre_store.specs.Calls.{Submission}
use Rattle.centre_store.specs.Gathered.{AreTakenUp, AreOverAt, ShowsOfEnd, stop_of_end}
use Rattle.centre_store.specs.Given.{StandForIn, StandForEither, HoldsRecorded, HasEither}
use Rattle.centre_store.specs.Groups.{entry_by, with_all, done_of, dones_of, bodies_by, StandForGroup, HasGroup, AreSpelledBy, IsDownThen, GoesTogether}
use Rattle.centre_store.specs.Groups.{MayBeSubmitted, IsBatch, HasNoRoom, ShowsOfGroup, FirstHasNoRoom, IsTakenUp}
use Rattle.centre_store.specs.Orders.{IsDownWhereFailed}
use Rattle.centre_store.specs.Stores.{Stored, HasFailed, StoreStands, StandsForSome, IsStored, Takes, IsToRecord, IsSameJournal, IsDown, Shows}
use Rattle.centre_store.specs.Writes.{IsOverAt}
use Rattle.centre_store.specs.declared.gather.End.{End}
use Rattle.centre_store.specs.declared.gather.End.TheVariants.{Empty, NoRoom, Stopped}
use Rattle.centre_store.proofs.Entered.{stored, held, some_of}
use Rattle.centre_store.proofs.Groups.{recorded_group, run_group, one_run, one_met}
use Rattle.centre_store.proofs.Holding.{recorded_same, recorded_there, still_stands}
use Rattle.centre_store.proofs.Written.{run_from}

-- Whose the answers are.

module _ (caller : ℕ) where
  abbrev pub IsOf : Done → Type 0
  IsOf d = d.caller ≡ caller

  -- what is told of a caller's events bears its number
  pub dones_by : (b : Summary) (h : List Entry) (calls : List Submission) → All IsOf (dones_of caller b h calls)
  dones_by b h [] = All-nil IsOf
  dones_by b h (call ∷ later) =
      let e = entry_by caller b h call in
      All-cons IsOf (done_of e) (dones_of caller b (e ∷ h) later) refl (dones_by b (e ∷ h) later)

  pub none_by : (dones : List Done) → dones ≡ [] → All IsOf dones
  none_by dones none = subst (All IsOf) (sym none) (All-nil IsOf)

  pub one_by : (dones : List Done) (at : ℕ) (reply : Reply) → dones ≡ record { caller = caller; at = at; reply = reply } ∷ [] → All IsOf dones
  one_by dones at reply are = subst (All IsOf) (sym are) (All-cons IsOf (record { caller = caller; at = at; reply = reply }) [] refl (All-nil IsOf))

-- of a list one is taken
pub take_one : {A : Type 0} (calls rest : List A) (call : A) (n : ℕ) → calls ≡ call ∷ rest → n ≡ 1 → take n calls ≡ call ∷ []
take_one calls rest call n split one = ap (λ (m : ℕ). take m calls) one ∙ ap (take 1) split

pub first_may : (calls rest : List Submission) (call : Submission) → IsBatch calls → calls ≡ call ∷ rest → MayBeSubmitted call
first_may calls rest call batch split = let b : IsBatch (call ∷ rest) = subst IsBatch split batch in b.each 0 call (omega arith)

-- The entry of one that was submitted alone.

module _ {D : Type 0} (seen : D → DiskSeen) (caller : ℕ) (b : Summary) (h : List Entry) (call : Submission) where
  -- it is that of one thread
  pub entry_made : (s : Stored D) (at : ℕ) (reply : Reply)
      → Takes seen b s h call.clock (record { caller = caller; event = call.event; at = at; reply = reply })
      → record { caller = caller; event = call.event; at = at; reply = reply } ≡ entry_by caller b h call
  entry_made s at reply takes =
      let told : reply ≡ answer b h call.event (moment_after b h call.clock) = takes.reply ∙ ap (answer b h call.event) takes.at in
      λ i. record { caller = caller; event = call.event; at = takes.at i; reply = told i }

  module _ (calls rest : List Submission) (split : calls ≡ call ∷ rest) where
    pub first_dones : (s : Stored D) (dones : List Done) (at : ℕ) (reply : Reply) → dones ≡ record { caller = caller; at = at; reply = reply } ∷ []
        → Takes seen b s h call.clock (record { caller = caller; event = call.event; at = at; reply = reply })
        → dones ≡ dones_of caller b h (take (length dones) calls)
    first_dones s dones at reply are takes =
        let taken : take (length dones) calls ≡ call ∷ [] = take_one calls rest call (length dones) split (ap length are) in
        let made : dones ≡ dones_of caller b h (call ∷ []) = are ∙ ap (λ (e : Entry). done_of e ∷ []) (entry_made s at reply takes) in
        made ∙ ap (dones_of caller b h) (sym taken)

    pub first_stands : (s : Stored D) (n : ℕ) (at : ℕ) (reply : Reply) → n ≡ 1
        → Takes seen b s h call.clock (record { caller = caller; event = call.event; at = at; reply = reply })
        → StoreStands seen b s (with_all caller b h (take n calls))
    first_stands s n at reply one takes =
        subst (λ (l : List Submission). StoreStands seen b s (with_all caller b h l)) (sym (take_one calls rest call n split one))
        (subst (λ (e : Entry). StoreStands seen b s (e ∷ h)) (entry_made s at reply takes) takes.stands)

    -- it is to be recorded
    pub first_to_record : (old : Stored D) → FirstHasNoRoom seen old calls → StoreStands seen b old h → IsToRecord b h call.event call.clock
    first_to_record old first w = let none : HasNoRoom seen old call = subst (FirstHasNoRoom seen old) split first in none.to_record b h w

    -- what a crash leaves
    pub first_together : (old new : Stored D) → IsToRecord b h call.event call.clock → HasSpelling call.event (moment_after b h call.clock)
        → LeavesOnly (seen old.journal.disk) (seen new.journal.disk) (StandForEither b h (spelling call.event (moment_after b h call.clock)))
        → HasEither (seen new.journal.disk) b h (spelling call.event (moment_after b h call.clock))
        → (left : List Submission) → left ≡ rest
        → (count : ℕ) (stop : Option Stop) → ((IsDownThen stop → ⊥) → count ≡ 1) → GoesTogether seen old new caller b h calls left count stop
    first_together old new to spelled run met left off count stop answered =
        let back : call ∷ [] ≡ take 1 calls = sym (ap (take 1) split) in
        let long : length calls ≡ length (call ∷ rest) = ap length split in
        record {
          some = 1;
          within = omega (arith, long);
          off = off ∙ sym (ap (drop 1) split);
          answered = λ up. sym (answered up);
          spelled = subst (AreSpelledBy caller b h) back (λ recorded. spelled, tt);
          any_moment = subst (λ (l : List Submission). LeavesOnly (seen old.journal.disk) (seen new.journal.disk) (StandForGroup caller b h l)) back
              (one_run caller b h call _ to refl (seen old.journal.disk) (seen new.journal.disk) run);
          met = subst (λ (l : List Submission). HasGroup (seen new.journal.disk) caller b h l) back
              (one_met caller b h call _ to refl (seen new.journal.disk) met);
        }

-- No record was written.

module _ {D : Type 0} (seen : D → DiskSeen) (only_now : (d : D) (c : Areas) → (seen d).left_since (seen d).moment c → (seen d).may_leave c)
    (b : Summary) (h : List Entry) (old new : Stored D) (same : IsSameJournal old.journal new.journal) (up : HasFailed seen old → ⊥)
    (w : StoreStands seen b old h) where
  there : HoldsRecorded seen new.journal b h
  there = recorded_same seen old.journal new.journal b h same (held seen b old h up w)

  pub none_together : (caller : ℕ) (calls left : List Submission) → left ≡ calls → (count : ℕ) (stop : Option Stop) → count ≡ 0
      → GoesTogether seen old new caller b h calls left count stop
  none_together caller calls left off count stop none = record {
    some = 0;
    within = omega arith;
    off = off;
    answered = λ _. sym none;
    spelled = tt;
    any_moment = run_group caller b h [] (seen old.journal.disk) (seen new.journal.disk)
        (run_from seen old.journal new.journal new.journal.disk (StandForIn 2 b h) same (still_stands seen new.journal b h only_now there));
    met = recorded_group caller b h [] (seen new.journal.disk) (recorded_there seen new.journal b h there);
  }

-- A group was gathered, in a journal that is the same but for its room, and then it was written, or the disk failed.
module _ {D : Type 0} (seen : D → DiskSeen) (b : Summary) (old : Stored D) (s : State) (j k : Journal D) (n : ℕ) (h : List Entry)
    (is : stored s j n ≡ old) (up : HasFailed seen old → ⊥) (w : StoreStands seen b old h) (same : IsSameJournal j k) where
  was : StoreStands seen b (stored s j n) h
  was = subst (λ (x : Stored D). StoreStands seen b x h) (sym is) w

  pub centre_was : StandsFor b s h
  centre_was = was.centre

  pub held_now : HoldsRecorded seen k b h
  held_now = recorded_same seen j k b h same (held seen b (stored s j n) h (λ f. up (subst (λ (x : Stored D). HasFailed seen x) is f)) was)

  pub stands_then : (t : State) (l : Journal D) (x : List Entry) → (StandsFor b s h → StandsFor b t x) → (HoldsRecorded seen k b h → HoldsRecorded seen l b x)
      → StoreStands seen b (stored t l n) x
  stands_then t l x stands added = record { given = was.given; centre = stands was.centre; journal = inl (added held_now) }

  pub moments_then : (new : D) (P : Areas → Type 0) → (HoldsRecorded seen k b h → LeavesOnly (seen k.disk) (seen new) P)
      → LeavesOnly (seen old.journal.disk) (seen new) P
  moments_then new P run =
      subst (λ (d : D). LeavesOnly (seen d) (seen new) P) (ap (λ (x : Stored D). x.journal.disk) is) (run_from seen j k new P same (run held_now))

  -- those that were gathered are the first ones, so many
  pub group_together : (new : Stored D) (caller : ℕ) (calls left : List Submission) (some count : ℕ) (stop : Option Stop) → some ≤ length calls
      → left ≡ drop some calls
      → ((IsDownThen stop → ⊥) → some ≡ count) → (StandsFor b s h → AreSpelledBy caller b h (take some calls))
      → (HoldsRecorded seen k b h → LeavesOnly (seen k.disk) (seen new.journal.disk) (StandForGroup caller b h (take some calls)))
      → (HoldsRecorded seen k b h → HasGroup (seen new.journal.disk) caller b h (take some calls))
      → GoesTogether seen old new caller b h calls left count stop
  group_together new caller calls left some count stop within off answered spelled run met = record {
    some = some;
    within = within;
    off = off;
    answered = answered;
    spelled = spelled was.centre;
    any_moment = moments_then new.journal.disk (StandForGroup caller b h (take some calls)) run;
    met = met held_now;
  }

-- From a store to one that is the same but for its room and for what it prepared.
module _ {D : Type 0} (seen : D → DiskSeen) (old mid : Stored D) (same : IsSameJournal old.journal mid.journal) where
  pub together_from : (new : Stored D) (caller : ℕ) (b : Summary) (h : List Entry) (calls left : List Submission) (count : ℕ) (stop : Option Stop)
      → GoesTogether seen mid new caller b h calls left count stop → GoesTogether seen old new caller b h calls left count stop
  together_from new caller b h calls left count stop t = record {
    some = t.some;
    within = t.within;
    off = t.off;
    answered = t.answered;
    spelled = t.spelled;
    any_moment = run_from seen old.journal mid.journal new.journal.disk (StandForGroup caller b h (take t.some calls)) same t.any_moment;
    met = t.met;
  }

-- Where none was answered.

pub none_dones : (caller : ℕ) (b : Summary) (h : List Entry) (calls : List Submission) (dones : List Done) → dones ≡ []
    → dones ≡ dones_of caller b h (take (length dones) calls)
none_dones caller b h calls dones none = none ∙ sym (ap (λ (l : List Done). dones_of caller b h (take (length l) calls)) none)

pub none_with : (P : List Entry → Type 0) (caller : ℕ) (b : Summary) (h : List Entry) (calls : List Submission) (n : ℕ) → n ≡ 0 → P h
    → P (with_all caller b h (take n calls))
none_with P caller b h calls n none p = subst (λ (m : ℕ). P (with_all caller b h (take m calls))) (sym none) p

pub without : (P : List Entry → Type 0) (caller : ℕ) (b : Summary) (h : List Entry) (calls : List Submission) (n : ℕ) → n ≡ 0
    → P (with_all caller b h (take n calls)) → P h
without P caller b h calls n none p = subst (λ (m : ℕ). P (with_all caller b h (take m calls))) none p

pub none_off : {A : Type 0} (calls left : List A) (n : ℕ) → n ≡ 0 → left ≡ calls → left ≡ drop n calls
none_off calls left n none same = same ∙ sym (ap (λ (m : ℕ). drop m calls) none)

pub all_left : {A : Type 0} (calls left : List A) (n : ℕ) → n ≡ 0 → left ≡ drop n calls → left ≡ calls
all_left calls left n none off = off ∙ ap (λ (m : ℕ). drop m calls) none

-- Stops.

pub shows_some : {D : Type 0} (seen : D → DiskSeen) (s : Stored D) (left : List Submission) (o : Option Stop) (stop : Stop) → o ≡ Some stop
    → ShowsOfGroup seen s stop left → IfSome o (λ x. ShowsOfGroup seen s x left)
shows_some seen s left o stop is shows = subst (λ (x : Option Stop). IfSome x (λ y. ShowsOfGroup seen s y left)) (sym is) shows

pub shows_none : (P : Stop → Type 0) (o : Option Stop) → o ≡ None → IfSome o P
shows_none P o is = subst (λ (x : Option Stop). IfSome x P) (sym is) tt

pub no_other : (o : Option Stop) (one other : Stop) → o ≡ Some one → o ≡ Some other → one ≡ other
no_other o one other is too = cc

pub err_same : (r : Result Done Stop) (one other : Stop) → r ≡ Err one → r ≡ Err other → one ≡ other
err_same r one other is too = cc

pub never_none : (o : Option Stop) (stop : Stop) → o ≡ Some stop → o ≡ None → ⊥
never_none o stop is none = cc

pub down_then : (o : Option Stop) (stop : Stop) → o ≡ Some stop → IsDownThen o → IsDown stop
down_then o stop is down = subst IsDownThen is down

pub then_down : (o : Option Stop) (stop : Stop) → o ≡ Some stop → IsDown stop → IsDownThen o
then_down o stop is down = subst IsDownThen (sym is) down

pub up_none : (o : Option Stop) → o ≡ None → IsDownThen o → ⊥
up_none o is down = subst IsDownThen is down

-- where it is none it is another one
pub up_of : (stop : Stop) → ((at_open now : ℕ) → stop ≡ Down at_open now → ⊥) → IsDown stop → ⊥
up_of Memory other down = down
up_of (Down at_open now) other down = other at_open now refl
up_of (Full used need records) other down = down
up_of (Worn count) other down = down

pub other_stop : {D : Type 0} (seen : D → DiskSeen) (s : Stored D) (o : Option Stop) (stop : Stop) → o ≡ Some stop → (IsDown stop → ⊥)
    → IsDownWhereFailed {A = Done} seen s (Err stop)
    → HasFailed seen s ↔ (o ≡ Some (Down s.at_open (seen s.journal.disk).faults))
other_stop seen s o stop is up down =
    let now = Down s.at_open (seen s.journal.disk).faults in (
      λ failed. let same : stop ≡ now = err_same (Err stop) stop now refl (down.0 failed) in absurd (up (subst IsDown (sym same) tt)),
      λ told. let same : stop ≡ now = no_other o stop now is told in absurd (up (subst IsDown (sym same) tt)),
    )

-- what one alone met is what stopped the batch
pub group_shows : {D : Type 0} (seen : D → DiskSeen) (s : Stored D) (stop : Stop) (call : Submission) (later left : List Submission) → left ≡ call ∷ later
    → Shows seen s stop call.event call.clock → ShowsOfGroup seen s stop left
group_shows seen s Memory call later left split shows = tt
group_shows seen s (Down at_open now) call later left split shows =
    (shows.0, shows.1, subst (λ (n : ℕ). Rose n (seen s.journal.disk).faults) shows.0 (subst (λ (n : ℕ). Rose at_open n) shows.1 shows.2))
group_shows seen s (Full used need records) call later left split shows = (call, later, split, shows)
group_shows seen s (Worn count) call later left split shows = shows

-- and where it is a fault, whatever is left
pub fault_shows : {D : Type 0} (seen : D → DiskSeen) (s : Stored D) (stop : Stop) (call : Submission) (left : List Submission) → IsDown stop
    → Shows seen s stop call.event call.clock → ShowsOfGroup seen s stop left
fault_shows seen s (Down at_open now) call left is shows =
    (shows.0, shows.1, subst (λ (n : ℕ). Rose n (seen s.journal.disk).faults) shows.0 (subst (λ (n : ℕ). Rose at_open n) shows.1 shows.2))
fault_shows seen s Memory call left is shows = absurd is
fault_shows seen s (Full used need records) call left is shows = absurd is
fault_shows seen s (Worn count) call left is shows = absurd is

-- The end of a gathering.

end_shows : {D : Type 0} (seen : D → DiskSeen) (t : State) (l : Journal D) (n : ℕ) (left : List Submission) (stop : Stop) → IsShown t stop
    → ShowsOfGroup seen (stored t l n) stop left
end_shows seen t l n left Memory shows = tt
end_shows seen t l n left (Down at_open now) shows = absurd shows
end_shows seen t l n left (Full used need records) shows = absurd shows
end_shows seen t l n left (Worn count) shows = shows

shown_up : (t : State) (stop : Stop) → IsShown t stop → IsDown stop → ⊥
shown_up t Memory shows down = down
shown_up t (Down at_open now) shows down = shows
shown_up t (Full used need records) shows down = down
shown_up t (Worn count) shows down = down

module _ {D : Type 0} (seen : D → DiskSeen) (t : State) (k l : Journal D) (n : ℕ) (bodies : List (List ℕ)) (left : List Submission) where
  pub stop_shows : (end : End) → ShowsOfEnd k t bodies left end → IfSome (stop_of_end end) (λ s. ShowsOfGroup seen (stored t l n) s left)
  stop_shows Empty shows = tt
  stop_shows NoRoom shows = tt
  stop_shows (Stopped stop) shows = end_shows seen t l n left stop shows

  pub end_up : (end : End) → ShowsOfEnd k t bodies left end → IsDownThen (stop_of_end end) → ⊥
  end_up Empty shows down = down
  end_up NoRoom shows down = down
  end_up (Stopped stop) shows down = shown_up t stop shows down

  -- a journal that has these bodies too has no room for the next one
  next_over : (need : ℕ) → l.used ≡ k.used + need_of_all bodies → l.records ≡ k.records + length bodies → l.limits ≡ k.limits
      → AreOverAt k (need_of_all bodies + need) (length bodies + 1) → IsOverAt l need
  next_over need used records limits (inl bytes) = inl (omega (arith, used, ap (λ (x : Limits). x.bytes) limits, bytes))
  next_over need used records limits (inr count) = inr (omega (arith, records, ap (λ (x : Limits). x.records) limits, count))

  pub next_has_none : l.used ≡ k.used + need_of_all bodies → l.records ≡ k.records + length bodies → l.limits ≡ k.limits → ShowsOfEnd k t bodies left NoRoom
      → FirstHasNoRoom seen (stored t l n) left
  next_has_none used records limits (call, later, split, none) =
      subst (FirstHasNoRoom seen (stored t l n)) (sym split)
      (record { over = next_over (need_of call.event) used records limits none.over; few = none.may_be; to_record = λ b h w. none.to_record b h w.centre })

  pub taken_up_to : (old : Stored D) (calls : List Submission) (count : ℕ) (end : End) → l.used ≡ k.used + need_of_all bodies
      → l.records ≡ k.records + length bodies → l.limits ≡ k.limits → ShowsOfEnd k t bodies left end → (end ≡ NoRoom → 1 ≤ count)
      → stop_of_end end ≡ None → IsTakenUp seen old (stored t l n) calls left count
  taken_up_to old calls count Empty used records limits shows some none = inl shows
  taken_up_to old calls count NoRoom used records limits shows some none = inr (inl (some refl, next_has_none used records limits shows))
  taken_up_to old calls count (Stopped stop) used records limits shows some none = absurd (never_none (Some stop) stop refl none)

-- Nothing was gathered, and the first one is to be submitted alone.
module _ {D : Type 0} (seen : D → DiskSeen) (old : Stored D) (s t : State) (j k : Journal D) (n : ℕ) (is : stored s j n ≡ old) (same : IsSameJournal j k) where
  pub same_from : IsSameJournal old.journal k
  same_from = subst (λ (x : Stored D). IsSameJournal x.journal k) is same

  pub up_with : (HasFailed seen old → ⊥) → HasFailed seen (stored t k n) → ⊥
  up_with up f = up (subst (λ (x : Stored D). HasFailed seen x) is (subst (λ (x : Journal D). HasFailed seen (stored s x n)) same f))

  pub none_before : (bodies : List (List ℕ)) (left : List Submission) → bodies ≡ [] → t.entries ≡ old.state.entries
      → ((b : Summary) (h : List Entry) → StandsFor b s h → StandsFor b t h) → ShowsOfEnd k t bodies left NoRoom → FirstHasNoRoom seen old left
  none_before bodies left none entries stays (call, later, split, no_room) =
      let used : j.used ≡ k.used + need_of_all bodies = omega (arith, ap (λ (x : Journal D). x.used) same, ap need_of_all none) in
      let records : j.records ≡ k.records + length bodies = omega (arith, ap (λ (x : Journal D). x.records) same, ap length none) in
      let limits : j.limits ≡ k.limits = sym (ap (λ (x : Journal D). x.limits) same) in
      let over : IsOverAt j (need_of call.event) = next_over seen t k j n bodies left (need_of call.event) used records limits no_room.over in
      subst (FirstHasNoRoom seen old) (sym split)
      (record {
        over = subst (λ (x : Stored D). IsOverAt x.journal (need_of call.event)) is over;
        few = omega (arith, entries, no_room.may_be);
        to_record = λ b h w. no_room.to_record b h (stays b h (subst (λ (x : Stored D). StandsFor b x.state h) (sym is) w.centre));
      })

  pub none_between : (bodies : List (List ℕ)) (left : List Submission) → bodies ≡ [] → ShowsOfEnd k t bodies left NoRoom
      → FirstHasNoRoom seen (stored t k n) left
  none_between bodies left none shows =
      next_has_none seen t k k n bodies left (omega (arith, ap need_of_all none)) (omega (arith, ap length none)) refl shows

-- it has fewer than 2^48 entries
pub few_before : {D : Type 0} (k : Journal D) (t : State) (bodies : List (List ℕ)) (left : List Submission) → ShowsOfEnd k t bodies left NoRoom
    → t.entries < 2 ^ 48
few_before k t bodies left (call, later, split, none) = none.may_be

-- What was gathered of a batch and then written, or not.
module _ {D : Type 0} (seen : D → DiskSeen) (old : Stored D) (s t : State) (j k : Journal D) (n : ℕ) (is : stored s j n ≡ old) (same : IsSameJournal j k)
    (caller : ℕ) (calls : List Submission) (bodies : List (List ℕ)) (dones : List Done)
    (taken : AreTakenUp caller (take (length dones) calls) s t [] bodies [] dones) (up : HasFailed seen old → ⊥) where
  abbrev first : List Submission
  first = take (length dones) calls

  pub state_was : (b : Summary) (h : List Entry) → StoreStands seen b old h → StandsFor b s h
  state_was b h w = subst (λ (x : Stored D). StandsFor b x.state h) (sym is) w.centre

  -- their bodies are those of their entries
  pub bodies_were : (b : Summary) (h : List Entry) → StoreStands seen b old h → bodies ≡ bodies_by caller b h first
  bodies_were b h w = taken.bodies_are b h (state_was b h w)

  pub dones_were : (b : Summary) (h : List Entry) → StoreStands seen b old h → dones ≡ dones_of caller b h first
  dones_were b h w = taken.told_is b h (state_was b h w)

  -- they are the caller's, whatever the store stood for
  pub dones_then : IsStored seen (stored s j n) → All (λ d. d.caller ≡ caller) dones
  dones_then kept =
      let some = some_of seen old s j n is kept up in
      let w = subst (λ (x : Stored D). StoreStands seen some.base x some.history) is some.stands in
      subst (All (λ (d : Done). d.caller ≡ caller)) (sym (dones_were some.base some.history w)) (dones_by caller some.base some.history first)

  pub entries_then : t.entries ≡ old.state.entries + length dones
  entries_then = omega (arith, taken.entries, taken.count, ap (λ (x : Stored D). x.state.entries) is)

  pub text_then : t.sum.text ≡ old.state.sum.text
  text_then = taken.text ∙ ap (λ (x : Stored D). x.state.sum.text) is

  -- None was: the store is as it was but for the room, and stands for what it stood for.
  module _ (none : length dones ≡ 0) where
    pub stays_then : (b : Summary) (h : List Entry) → StandsFor b s h → StandsFor b t h
    stays_then b h w = without (λ (x : List Entry). StandsFor b t x) caller b h calls (length dones) none (taken.stands b h w)

    pub stands_between : (b : Summary) (h : List Entry) → StoreStands seen b old h → StoreStands seen b (stored t k n) h
    stands_between b h w = stands_then seen b old s j k n h is up w same t k h (stays_then b h) (λ x. x)

    pub some_between : StandsForSome seen (stored s j n) → StandsForSome seen (stored t k n)
    some_between some = record {
      base = some.base;
      history = some.history;
      stands = stands_between some.base some.history (subst (λ (x : Stored D). StoreStands seen some.base x some.history) is some.stands);
    }

  pub later_then : n ≤ (seen j.disk).faults → n ≤ (seen k.disk).faults
  later_then later = subst (λ (x : Journal D). n ≤ (seen x.disk).faults) (sym same) later

  -- They were written.
  module _ (l : Journal D)
      (added : (caller : ℕ) (b : Summary) (h : List Entry) (calls : List Submission) → HoldsRecorded seen k b h → bodies ≡ bodies_by caller b h calls
      → HoldsRecorded seen l b (with_all caller b h calls)) where
    pub stands_written : (b : Summary) (h : List Entry) → StoreStands seen b old h → StoreStands seen b (stored t l n) (with_all caller b h first)
    stands_written b h w =
        stands_then seen b old s j k n h is up w same t l (with_all caller b h first) (taken.stands b h) (λ held. added caller b h first held (bodies_were b h w))

    pub some_written : StandsForSome seen (stored s j n) → StandsForSome seen (stored t l n)
    some_written some = record {
      base = some.base;
      history = with_all caller some.base some.history first;
      stands = stands_written some.base some.history (subst (λ (x : Stored D). StoreStands seen some.base x some.history) is some.stands);
    }

  -- They were, or the disk failed.
  module _ (new : Stored D)
      (runs : (caller : ℕ) (b : Summary) (h : List Entry) (calls : List Submission) → HoldsRecorded seen k b h → bodies ≡ bodies_by caller b h calls
      → LeavesOnly (seen k.disk) (seen new.journal.disk) (StandForGroup caller b h calls))
      (met : (caller : ℕ) (b : Summary) (h : List Entry) (calls : List Submission) → HoldsRecorded seen k b h → bodies ≡ bodies_by caller b h calls
      → HasGroup (seen new.journal.disk) caller b h calls) where
    pub all_together : (left : List Submission) (count : ℕ) (stop : Option Stop) → length dones ≤ length calls → left ≡ drop (length dones) calls
        → ((IsDownThen stop → ⊥) → length dones ≡ count)
        → (b : Summary) (h : List Entry) → StoreStands seen b old h → GoesTogether seen old new caller b h calls left count stop
    all_together left count stop within off answered b h w =
        group_together seen b old s j k n h is up w same new caller calls left (length dones) count stop within off answered (taken.spelled b h)
        (λ held. runs caller b h first held (bodies_were b h w)) (λ held. met caller b h first held (bodies_were b h w))

  -- it has not failed where no call of the disk met a fault
  pub up_after : (l : Journal D) → (seen l.disk).faults ≡ (seen k.disk).faults → HasFailed seen (stored t l n) → ⊥
  up_after l met f = up_with seen old s t j k n is same up (subst (λ (m : ℕ). Rose n m) met f)

-- an answer that there is a fault is that
pub always_down : {A : Type 0} (o : Option Stop) (at_open now : ℕ) → o ≡ Some (Down at_open now) → (IsDownThen o → ⊥) → A
always_down o at_open now is up = absurd (up (then_down o (Down at_open now) is tt))

-- the same of a list that is the same
pub together_of : {D : Type 0} (seen : D → DiskSeen) (old new : Stored D) (caller : ℕ) (b : Summary) (h : List Entry) (had calls left : List Submission)
    (count : ℕ) (stop : Option Stop) → had ≡ calls → GoesTogether seen old new caller b h had left count stop
    → GoesTogether seen old new caller b h calls left count stop
together_of seen old new caller b h had calls left count stop same t = subst (λ (l : List Submission). GoesTogether seen old new caller b h l left count stop) same t

-- What is to be recorded and was prepared is recorded.

pub recorded_of : (b : Summary) (h : List Entry) (event : Event) (clock : ℕ) (p : Plan) → p.at ≡ moment_after b h clock → p.reply ≡ answer b h event p.at
    → IsToRecord b h event clock → is_recorded p.reply ≡ true
recorded_of b h event clock p at reply to = ap is_recorded reply ∙ ap (λ (m : ℕ). is_recorded (answer b h event m)) at ∙ to
