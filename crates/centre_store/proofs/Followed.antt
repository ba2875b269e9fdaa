-- The body of a recorded entry by its number, and what a store does with a body that it is handed.
use Rattle.std.proofs.Common.{◌≡◌, ◌≤◌, ◌<◌, ◌+◌, ◌-◌, inl, inr, ℕ, List, [], ◌∷◌, ◌++◌, map, reverse, length, Bool, true, cond, Option, refl, sym, ap, subst, ◌∙◌, arith, length-append}
use Rattle.std.specs.Prelude.{◌↔◌, IfSome, slice_index_or}
use Rattle.std.proofs.lemmas.List.{map-append, reverse-append, get_or-append-add}
use Rattle.arc_io.specs.Areas.{Areas}
use Rattle.arc_io.specs.Causes.{Rose}
use Rattle.arc_io.specs.Crashes.{IsQuiet}
use Rattle.arc_io.specs.Disks.{DiskSeen}
use Rattle.centre_core.specs.declared.hall.Stop.{Stop}
use Rattle.centre_core.specs.declared.hall.Stop.TheVariants.{Memory, Down, Full, Worn}
use Rattle.centre_rules.specs.Answers.{IsNext}
use Rattle.centre_rules.specs.History.{Entry, recorded, is_recorded}
use Rattle.centre_rules.specs.State.{State, Plan, StandsFor, entry_of}
use Rattle.centre_rules.specs.Summary.{Summary}
use Rattle.disk_journal.proofs.Steps.{if_map}
use Rattle.disk_journal.specs.Faults.{HasReadCounts, IsFaultOfReading}
use Rattle.disk_journal.specs.declared.fault.BodyFault.{BodyFault}
use Rattle.disk_journal.specs.declared.fault.BodyFault.TheVariants.{DiskFault, Memory as Unread}
use Rattle.disk_journal.specs.Journal.{Holds}
use Rattle.disk_journal.specs.declared.journal.Journal.{Journal}
use Rattle.event_codec.specs.Spelling.{spelling_in, HasSpellingIn}
use Rattle.centre_store.specs.Bodies.{bodies_in, body_in, need_of}
use Rattle.centre_store.specs.Followings.{since_of, body_of_number, GoesOnWith, HasNext, ShowsOfReplay}
use Rattle.centre_store.specs.Given.{IsKeptAs, StandForIn, HoldsRecorded, HasRecorded}
use Rattle.centre_store.specs.Stores.{Stored, HasFailed, IsOverWith, StoreStands}
use Rattle.centre_store.specs.Writes.{IsOverAt, IsOverThen, IsUnwritten}
use Rattle.centre_store.proofs.Entered.{stored, held, shown_at, whole}
use Rattle.centre_store.proofs.Holding.{recorded_same, recorded_there}
use Rattle.centre_store.proofs.NextSummary.{bodies_count}
use Rattle.centre_store.proofs.PastOnce.{same_ends}
use Rattle.centre_store.proofs.Recorded.{recorded_both}
use Rattle.centre_store.proofs.Written.{rose_from, same_back}

-- The body of a number.

-- the bodies of a history in two parts
bodies_both : (version : ℕ) (k l : List Entry) → bodies_in version (k ++ l) ≡ bodies_in version l ++ bodies_in version k
unfolding bodies_in
bodies_both version k l =
    ap (λ (x : List Entry). reverse (map (body_in version) x)) (recorded_both k l) ∙ ap reverse (map-append (body_in version) (recorded k) (recorded l))
    ∙ reverse-append (map (body_in version) (recorded k)) (map (body_in version) (recorded l))

-- of the bodies that a journal has, those of the later entries, each is that of the number behind all that is summed up
kept_at : (b : Summary) (h : List Entry) (first : Option (List ℕ)) (bodies : List (List ℕ)) (kept : IsKeptAs 2 b h first bodies) (i place : ℕ)
    → place ≡ length (recorded kept.summed) + i → slice_index_or bodies i [] ≡ slice_index_or (bodies_in 2 h) place []
kept_at b h first bodies kept i place is =
    let parts : bodies_in 2 h ≡ bodies_in 2 kept.summed ++ bodies = ap (bodies_in 2) kept.split ∙ bodies_both 2 kept.later kept.summed
    ∙ ap (λ (l : List (List ℕ)). bodies_in 2 kept.summed ++ l) (sym kept.bodies_are) in
    let there : place ≡ length (bodies_in 2 kept.summed) + i = omega (arith, is, bodies_count 2 kept.summed) in
    sym (ap (λ (n : ℕ). slice_index_or (bodies_in 2 h) n []) there ∙ ap (λ (l : List (List ℕ)). slice_index_or l (length (bodies_in 2 kept.summed) + i) []) parts
    ∙ get_or-append-add (bodies_in 2 kept.summed) bodies i [])

-- the one body that was put there is what comes off
popped : (before one rest : List (List ℕ)) (x y : List ℕ) → one ≡ before ++ x ∷ [] → one ≡ rest ++ y ∷ [] → y ≡ x
popped before one rest x y is ends = sym ((same_ends before rest x y (sym is ∙ ends)).bodies)

module _ {D : Type 0} (seen : D → DiskSeen) where
  -- so many are summed up, and there are no more records than entries
  counted : (b : Summary) (s : Stored D) (h : List Entry) (first : Option (List ℕ)) (bodies : List (List ℕ)) (kept : IsKeptAs 2 b h first bodies)
      → Holds seen s.journal 2 first bodies → StandsFor b s.state h
      → (since_of s ≡ b.recorded + length (recorded kept.summed)) × (s.journal.records ≤ s.state.sum.recorded)
  counted b s h first bodies kept holds stands =
      let records : s.journal.records ≡ length (recorded kept.later) = holds.count ∙ ap length kept.bodies_are ∙ bodies_count 2 kept.later in
      let all : length (recorded h) ≡ length (recorded kept.later) + length (recorded kept.summed) =
      ap (λ (l : List Entry). length (recorded l)) kept.split ∙ ap length (recorded_both kept.later kept.summed) ∙ length-append (recorded kept.later) (recorded kept.summed) in
      (omega (arith, records, all, stands.recorded), omega (arith, records, all, stands.recorded))

  -- what reading the body of a record put behind others
  abbrev pub Reads : Journal D → ℕ → List (List ℕ) → List (List ℕ) → Type 0
  Reads j i before one = (version : ℕ) (summary : Option (List ℕ)) (bodies : List (List ℕ)) → Holds seen j version summary bodies
      → IfSome (seen j.disk).told (λ _. one ≡ before ++ slice_index_or bodies i [] ∷ [])

  given_kept : (b : Summary) (s : Stored D) (h : List Entry) (number i : ℕ) (before one rest : List (List ℕ)) (y : List ℕ) → StandsFor b s.state h
      → since_of s < number → i ≡ number - since_of s - 1 → Reads s.journal i before one → one ≡ rest ++ y ∷ []
      → HoldsRecorded seen s.journal b h → IfSome (seen s.journal.disk).told (λ _. y ≡ body_of_number b h number)
  given_kept b s h number i before one rest y stands behind at reads ends (first, bodies, kept, holds) =
      let count = counted b s h first bodies kept holds stands in
      let place : number - b.recorded - 1 ≡ length (recorded kept.summed) + i = omega (arith, count.0, behind, at) in
      if_map (λ _. one ≡ before ++ slice_index_or bodies i [] ∷ []) (λ _. y ≡ body_of_number b h number) (seen s.journal.disk).told (reads 2 first bodies holds)
      (λ _ is. popped before one rest (slice_index_or bodies i []) y is ends ∙ kept_at b h first bodies kept i (number - b.recorded - 1) place)

  -- the body that was read is that of the number
  pub given_of : (b : Summary) (old : Stored D) (s : State) (j : Journal D) (n : ℕ) (h : List Entry) → stored s j n ≡ old → (HasFailed seen old → ⊥)
      → StoreStands seen b old h → (number i : ℕ) (before one rest : List (List ℕ)) (y : List ℕ) → since_of old < number → i ≡ number - since_of old - 1
      → Reads j i before one → one ≡ rest ++ y ∷ [] → IfSome (seen old.journal.disk).told (λ _. y ≡ body_of_number b h number)
  given_of b old s j n h is up w number i before one rest y behind at reads ends =
      given_kept b old h number i before one rest y w.centre behind at (subst (λ (x : Stored D). Reads x.journal i before one) is reads) ends (held seen b old h up w)

  -- A store after a read.

  quiet_recorded : (old new : DiskSeen) (b : Summary) (h : List Entry) → IsQuiet old new → HasRecorded old b h → HasRecorded new b h
  quiet_recorded old new b h quiet has = record {
    area = subst (λ (o : Option Areas). IfSome o (StandForIn 2 b h)) (sym quiet.same) has.area;
    images = λ c left. has.images c (quiet.crash c left);
  }

  read_holds : (j k : Journal D) (b : Summary) (h : List Entry)
      → ((version : ℕ) (summary : Option (List ℕ)) (bodies : List (List ℕ)) → Holds seen j version summary bodies → Holds seen k version summary bodies)
      → HoldsRecorded seen j b h → HoldsRecorded seen k b h
  read_holds j k b h keeps (first, bodies, kept, holds) = (first, bodies, kept, keeps 2 first bodies holds)

  module _ (b : Summary) (old : Stored D) (s : State) (j k : Journal D) (n : ℕ) (h : List Entry) (is : stored s j n ≡ old) (up : HasFailed seen old → ⊥)
      (w : StoreStands seen b old h) where
    pub stands_read : ((version : ℕ) (summary : Option (List ℕ)) (bodies : List (List ℕ)) → Holds seen j version summary bodies → Holds seen k version summary bodies)
        → StoreStands seen b (stored s k n) h
    stands_read keeps =
        let all = whole seen b old s j n h is up w in
        record { given = all.given; centre = all.stands; journal = inl (read_holds j k b h keeps all.holds) }

    pub stands_unread : Rose n (seen k.disk).faults → IsQuiet (seen j.disk) (seen k.disk) → StoreStands seen b (stored s k n) h
    stands_unread rose quiet =
        let all = whole seen b old s j n h is up w in
        record {
          given = all.given;
          centre = all.stands;
          journal = inr (rose, inl (quiet_recorded (seen j.disk) (seen k.disk) b h quiet (recorded_there seen j b h all.holds)));
        }

    -- where the disk failed, or memory was wanted
    pub stands_refused : (fault : BodyFault) → (k.has_failed ≡ true) ↔ IsFaultOfReading fault → n ≤ (seen j.disk).faults
        → HasReadCounts (seen j.disk).faults (seen k.disk).faults fault → IsQuiet (seen j.disk) (seen k.disk)
        → ((k.has_failed ≡ true → ⊥) → (version : ℕ) (summary : Option (List ℕ)) (bodies : List (List ℕ)) → Holds seen j version summary bodies
        → Holds seen k version summary bodies)
        → StoreStands seen b (stored s k n) h
    stands_refused (DiskFault before now) tells later counts quiet keeps =
        stands_unread (rose_from n (seen j.disk).faults (seen k.disk).faults later counts.rose) quiet
    stands_refused Unread tells later counts quiet keeps = stands_read (keeps (λ t. tells.0 t))

-- A body that is taken in.

-- what was worked out goes on with it
pub goes_with : (b : Summary) (h : List Entry) (p : Plan) (body : List ℕ) → IsNext b h (entry_of 0 p) → is_recorded p.reply ≡ true
    → HasSpellingIn 2 p.event p.at × (body ≡ spelling_in 2 p.event p.at) → GoesOnWith b h body (entry_of 0 p)
goes_with b h p body next recorded spelled = record {
  next = record { next = next; recorded = recorded; spelled = spelled.0.spelled };
  made = refl;
  body_is = spelled.1;
}

-- how many bytes its record takes
pub need_is : (p : Plan) (body : List ℕ) → body ≡ spelling_in 2 p.event p.at → need_of p.event ≡ 5 + length body
need_is p body is = ap (λ (l : List ℕ). 5 + length l) (sym is)

module _ {D : Type 0} (seen : D → DiskSeen) where
  -- it would pass a limit
  pub over_in : (old : Stored D) (s : State) (j : Journal D) (n used need : ℕ) (body : List ℕ) → stored s j n ≡ old → need ≡ 5 + length body
      → IsOverWith old used (5 + length body) → IsOverAt j need × IsOverThen j used need
  over_in old s j n used need body is same over =
      let there : IsOverWith (stored s j n) used need =
      subst (λ (x : Stored D). IsOverWith x used need) (sym is) (subst (IsOverWith old used) (sym same) over) in
      (there.now, there.then)

  -- why it was not written, of a store whose centre stays
  pub replay_shown : (old new : Stored D) (body : List ℕ) (p : Plan) → new.state ≡ old.state → new.at_open ≡ old.at_open → (HasFailed seen old → ⊥)
      → ((b : Summary) (h : List Entry) → StandsFor b old.state h → IsNext b h (entry_of 0 p)) → is_recorded p.reply ≡ true
      → HasSpellingIn 2 p.event p.at × (body ≡ spelling_in 2 p.event p.at)
      → (stop : Stop) → IsUnwritten seen old.at_open old.journal new.journal old.state (need_of p.event) stop → ShowsOfReplay seen new body stop
  replay_shown old new body p state at_open up follows recorded spelled stop is =
      shown_at seen old new state at_open up (5 + length body) (λ b h. HasNext b h body)
      (λ b h w. (entry_of 0 p, goes_with b h p body (follows b h w) recorded spelled)) stop
      (subst (λ (need : ℕ). IsUnwritten seen old.at_open old.journal new.journal old.state need stop) (need_is p body spelled.1) is)

-- an entry that is recorded is one more
pub one_recorded : (e : Entry) → is_recorded e.reply ≡ true → length (recorded (e ∷ [])) ≡ 1
one_recorded e is = ap (λ (v : Bool). length (cond v (e ∷ []) [])) is
