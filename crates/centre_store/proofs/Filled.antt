-- What a journal has after a call with a group, when Full stops one, and that a stop leaves some.
use Rattle.std.proofs.Common.{◌≡◌, ◌⊎◌, ◌≤◌, ◌<◌, ◌+◌, ◌^◌, ℕ, zero, suc, List, [], ◌∷◌, Bool, true, false, length, take, drop, Option, Some, inl, inr, refl, sym, ap, ◌∙◌, subst, arith}
use Rattle.std.specs.Prelude.{IfSome, Result, Err, if◌then◌else◌}
use Rattle.std.proofs.lemmas.Bool.{false≢true}
use Rattle.std.proofs.lemmas.List.Sums.{sum_by-cons}
use Rattle.arc_io.specs.Disks.{DiskSeen}
use Rattle.centre_rules.specs.Summary.{Summary}
use Rattle.centre_rules.specs.History.{Entry, is_recorded}
use Rattle.centre_rules.specs.State.{State}
use Rattle.centre_core.specs.declared.hall.Stop.{Stop}
use Rattle.centre_core.specs.declared.hall.Stop.TheVariants.{Memory, Down, Full, Worn}
use Rattle.centre_core.specs.declared.ready.Done.{Done}
use Rattle.disk_journal.specs.Records.{need_of_all}
use Rattle.disk_journal.specs.declared.journal.Journal.{Journal}
use Rattle.centre_store.specs.Bodies.{need_of, body_in}
use Rattle.centre_store.specs.Calls.{Submission}
use Rattle.centre_store.specs.Gathered.{AreOverAt, HasRoomForAll, ShowsOfEnd, stop_of_end}
use Rattle.centre_store.specs.Given.{summed_size}
use Rattle.centre_store.specs.Groups.{entry_by, bodies_by, HasNoRoom, FirstHasNoRoom, AreWrittenOn, AreWritten, IsFullFirst}
use Rattle.centre_store.specs.Stores.{Stored, HasFailed, StoreStands, IsToRecord, IsOverWith, IsSameJournal}
use Rattle.centre_store.specs.Writes.{IsOverAt, IsOverThen, IsWrittenOn}
use Rattle.centre_store.specs.declared.gather.End.{End}
use Rattle.centre_store.specs.declared.gather.End.TheVariants.{Empty, NoRoom, Stopped}
use Rattle.centre_store.proofs.Together.{all_left, err_same}
use Rattle.centre_store.proofs.Written.{same_then}

-- What the journal has.

-- none was answered
pub no_bodies : (caller : ℕ) (b : Summary) (h : List Entry) (calls : List Submission) (n : ℕ) → n ≡ 0 → bodies_by caller b h (take n calls) ≡ []
no_bodies caller b h calls n none = ap (λ (m : ℕ). bodies_by caller b h (take m calls)) none

pub none_written : {D : Type 0} (old new : Journal D) (bodies : List (List ℕ)) → bodies ≡ [] → IsSameJournal old new → AreWrittenOn old new bodies
none_written {D} old new bodies none same = record {
  generation = ap (λ (x : Journal D). x.generation) same;
  used_is = omega (arith, ap (λ (x : Journal D). x.used) same, ap need_of_all none);
  records_is = omega (arith, ap (λ (x : Journal D). x.records) same, ap length none);
  fit = λ some over. absurd (omega (arith, some, ap length none));
  none = λ _. same;
}

-- the first one was, alone
pub alone_written : {D : Type 0} (seen : D → DiskSeen) (old new : Stored D) (caller : ℕ) (b : Summary) (h : List Entry) (call : Submission)
    (calls rest : List Submission) (count : ℕ) → calls ≡ call ∷ rest → count ≡ 1 → FirstHasNoRoom seen old calls
    → IsWrittenOn old.journal new.journal (summed_size b h) (need_of call.event) → (IsOverWith old (summed_size b h) (need_of call.event) → ⊥)
    → AreWritten seen old new caller b h calls count
alone_written seen old new caller b h call calls rest count split one first written never =
    let none : HasNoRoom seen old call = subst (FirstHasNoRoom seen old) split first in
    inr (record {
      first = call;
      later = rest;
      split = split;
      one = one;
      had_none = none;
      written = written;
      fits = λ over. never (record { now = none.over; then = over });
    })

module _ {D : Type 0} (old k : Journal D) (same : IsSameJournal old k) where
  over_with : (need count : ℕ) → AreOverAt old need count → AreOverAt k need count
  over_with need count over = subst (λ (x : Journal D). AreOverAt x need count) (sym same) over

  over_now : (need : ℕ) → IsOverAt old need → IsOverAt k need
  over_now need over = subst (λ (x : Journal D). IsOverAt x need) (sym same) over

  over_then : (used need : ℕ) → IsOverThen old used need → IsOverThen k used need
  over_then used need over = subst (λ (x : Journal D). IsOverThen x used need) (sym same) over

  on_from : (new : Journal D) (summed need : ℕ) → IsWrittenOn k new summed need → IsWrittenOn old new summed need
  on_from new summed need w =
      let there : IsWrittenOn (record old { room = k.room }) new summed need = subst (λ (x : Journal D). IsWrittenOn x new summed need) same w in
      record { behind = there.behind; turned = there.turned }

  -- from a journal that is the same but for its room
  all_from : (new : Journal D) (bodies : List (List ℕ)) → AreWrittenOn k new bodies → AreWrittenOn old new bodies
  all_from new bodies are = record {
    generation = are.generation ∙ ap (λ (x : Journal D). x.generation) same;
    used_is = omega (arith, are.used_is, ap (λ (x : Journal D). x.used) same);
    records_is = omega (arith, are.records_is, ap (λ (x : Journal D). x.records) same);
    fit = λ some over. are.fit some (over_with (need_of_all bodies) (length bodies) over);
    none = λ none. same_then old k new same (are.none none);
  }

  -- those that were gathered, for which there was room, were written
  pub group_written : (l : Journal D) (bodies these : List (List ℕ)) → bodies ≡ these → l.used ≡ k.used + need_of_all bodies
      → l.records ≡ k.records + length bodies → l.generation ≡ k.generation → (bodies ≡ [] → l ≡ k) → HasRoomForAll k bodies → AreWrittenOn old l these
  group_written l bodies these are used records generation still room =
      let on : AreWrittenOn old l bodies = record {
        generation = generation ∙ ap (λ (x : Journal D). x.generation) same;
        used_is = omega (arith, used, ap (λ (x : Journal D). x.used) same);
        records_is = omega (arith, records, ap (λ (x : Journal D). x.records) same);
        fit = λ some over. room.fit some (over_with (need_of_all bodies) (length bodies) over);
        none = λ none. subst (IsSameJournal old) (sym (still none)) same;
      } in
      subst (AreWrittenOn old l) are on

-- From a store to one that is the same but for its room and for what it prepared.
module _ {D : Type 0} (seen : D → DiskSeen) (old mid : Stored D) (same : IsSameJournal old.journal mid.journal) where
  pub written_from : (new : Stored D) (caller : ℕ) (b : Summary) (h : List Entry) (calls : List Submission) (count : ℕ) → FirstHasNoRoom seen old calls
      → AreWritten seen mid new caller b h calls count → AreWritten seen old new caller b h calls count
  written_from new caller b h calls count first (inl are) =
      inl (all_from old.journal mid.journal same new.journal (bodies_by caller b h (take count calls)) are)
  written_from new caller b h calls count first (inr alone) = inr (record {
    first = alone.first;
    later = alone.later;
    split = alone.split;
    one = alone.one;
    had_none = subst (FirstHasNoRoom seen old) alone.split first;
    written = on_from old.journal mid.journal same new.journal (summed_size b h) (need_of alone.first.event) alone.written;
    fits = λ over. alone.fits (over_then old.journal mid.journal same (summed_size b h) (need_of alone.first.event) over);
  })

  pub full_from : ((HasFailed seen old → ⊥) → HasFailed seen mid → ⊥) → mid.state.entries ≡ old.state.entries
      → ((b : Summary) (h : List Entry) → StoreStands seen b old h → StoreStands seen b mid h) → (calls : List Submission) (stop : Option Stop)
      → IsFullFirst seen mid calls stop → IsFullFirst seen old calls stop
  full_from still entries stands [] stop full = tt
  full_from still entries stands (call ∷ later) stop full = λ up few b h w to over.
      full (still up) (omega (arith, entries, few)) b h (stands b h w) to
      (record {
        now = over_now old.journal mid.journal same (need_of call.event) over.now;
        then = over_then old.journal mid.journal same (summed_size b h) (need_of call.event) over.then;
      })

-- Full.

-- it comes of the one that was submitted alone
pub full_alone : {D : Type 0} (seen : D → DiskSeen) (s : Stored D) (call : Submission) (calls rest : List Submission) (stop : Option Stop) → calls ≡ call ∷ rest
    → ((b : Summary) (h : List Entry) → StoreStands seen b s h → IsOverWith s (summed_size b h) (need_of call.event)
    → (stop ≡ Some Memory) ⊎ (stop ≡ Some (Full (summed_size b h) (need_of call.event) 0)))
    → IsFullFirst seen s calls stop
full_alone seen s call calls rest stop split full = subst (λ (l : List Submission). IsFullFirst seen s l stop) (sym split) (λ _ _ b h w _ over. full b h w over)

-- the one stop or the other
abbrev pub Stops : Result Done Stop → Stop → Stop → Type 0
Stops r x y = (r ≡ Err x) ⊎ (r ≡ Err y)

pub stop_then : (o : Option Stop) (stop x y : Stop) → o ≡ Some stop → Stops (Err stop) x y → (o ≡ Some x) ⊎ (o ≡ Some y)
stop_then o stop x y is (inl e) = inl (is ∙ ap Some (err_same (Err stop) stop x refl e))
stop_then o stop x y is (inr e) = inr (is ∙ ap Some (err_same (Err stop) stop y refl e))

first_body : (t : Bool) (body : List ℕ) (further : List (List ℕ)) → t ≡ true → (if t then body ∷ further else further) ≡ body ∷ further
first_body true body further is = refl
first_body false body further is = absurd (false≢true is)

-- a record of the first of these has no room, so these have none
over_all : {D : Type 0} (j : Journal D) (body : List ℕ) (further bodies : List (List ℕ)) (need : ℕ) → bodies ≡ body ∷ further → need ≡ 5 + length body
    → IsOverAt j need → AreOverAt j (need_of_all bodies) (length bodies)
over_all j body further bodies need are size (inl bytes) =
    inl (omega (arith, bytes, size, ap need_of_all are, sum_by-cons (λ (x : List ℕ). 5 + length x) body further))
over_all j body further bodies need are size (inr records) = inr (omega (arith, records, ap length are))

pub never_empty : {A : Type 0} (l : List A) (x : A) (xs : List A) → l ≡ x ∷ xs → l ≡ [] → ⊥
never_empty l x xs some none = cc

pub if_some : (P : Stop → Type 0) (o : Option Stop) (stop : Stop) → o ≡ Some stop → P stop → IfSome o P
if_some P o stop is p = subst (λ (x : Option Stop). IfSome x P) (sym is) p

-- Where a first one with no room was not gathered, what stopped the gathering is want of memory.
end_memory : {D : Type 0} (k : Journal D) (t : State) (bodies : List (List ℕ)) (left : List Submission) (call : Submission) (later : List Submission) (full : Stop)
    (end : End) → left ≡ call ∷ later → ShowsOfEnd k t bodies left end → t.entries < 2 ^ 48 → (end ≡ NoRoom → ⊥)
    → (stop_of_end end ≡ Some Memory) ⊎ (stop_of_end end ≡ Some full)
end_memory k t bodies left call later full Empty off shows few room = absurd (never_empty left call later off shows)
end_memory k t bodies left call later full NoRoom off shows few room = absurd (room refl)
end_memory k t bodies left call later full (Stopped Memory) off shows few room = inl refl
end_memory k t bodies left call later full (Stopped (Down at_open now)) off shows few room = absurd shows
end_memory k t bodies left call later full (Stopped (Full used need records)) off shows few room = absurd shows
end_memory k t bodies left call later full (Stopped (Worn count)) off shows few room = absurd (omega (arith, shows.0, shows.1, few))

module _ {D : Type 0} (seen : D → DiskSeen) (old : Stored D) (k : Journal D) (same : IsSameJournal old.journal k) (caller : ℕ) (bodies : List (List ℕ))
    (room : HasRoomForAll k bodies) where
  -- a first one whose record has no room was not gathered
  never_gathered : (b : Summary) (h : List Entry) (call : Submission) (later : List Submission) (count : ℕ)
      → bodies ≡ bodies_by caller b h (take count (call ∷ later)) → IsToRecord b h call.event call.clock → IsOverAt old.journal (need_of call.event) → count ≡ 0
  never_gathered b h call later zero are to over = refl
  never_gathered b h call later (suc n) are to over =
      let e = entry_by caller b h call in
      let further = bodies_by caller b (e ∷ h) (take n later) in
      let split : bodies ≡ body_in 2 e ∷ further = are ∙ first_body (is_recorded e.reply) (body_in 2 e) further to in
      let now : IsOverAt k (need_of call.event) = over_now old.journal k same (need_of call.event) over in
      let some : 1 ≤ length bodies = omega (arith, ap length split) in
      absurd (room.fit some (over_all k (body_in 2 e) further bodies (need_of call.event) split refl now))

  abbrev AreThose : List Submission → ℕ → Type 0
  AreThose calls count = (b : Summary) (h : List Entry) → StoreStands seen b old h → bodies ≡ bodies_by caller b h (take count calls)

  pub full_gathered : (t : State) (calls left : List Submission) (count : ℕ) (end : End) → AreThose calls count → t.entries ≡ old.state.entries + count
      → left ≡ drop count calls → ShowsOfEnd k t bodies left end → (end ≡ NoRoom → 1 ≤ count) → (stop : Option Stop) → stop ≡ stop_of_end end
      → IsFullFirst seen old calls stop
  full_gathered t [] left count end are entries off shows some stop is = tt
  full_gathered t (call ∷ later) left count end are entries off shows some stop is = λ up few b h w to over.
      let none : count ≡ 0 = never_gathered b h call later count (are b h w) to over.now in
      let full = Full (summed_size b h) (need_of call.event) 0 in
      subst (λ (o : Option Stop). (o ≡ Some Memory) ⊎ (o ≡ Some full)) (sym is)
      (end_memory k t bodies left call later full end (all_left (call ∷ later) left count none off) shows (omega (arith, entries, none, few))
      (λ no_room. omega (arith, some no_room, none)))

  -- some were gathered, and the disk failed
  pub full_broken : (calls : List Submission) (count : ℕ) (stop : Option Stop) → AreThose calls count → (count ≡ 0 → ⊥) → IsFullFirst seen old calls stop
  full_broken [] count stop are some = tt
  full_broken (call ∷ later) count stop are some = λ up few b h w to over. absurd (some (never_gathered b h call later count (are b h w) to over.now))
