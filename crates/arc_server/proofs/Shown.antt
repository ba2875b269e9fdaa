-- What the status of a run shows that served callers.
use Rattle.std.proofs.Common.{◌≡◌, ◌≤◌, ◌⊎◌, ◌++◌, ℕ, List, [], ◌∷◌, map, Bool, true, false, Option, Some, None, Result, Ok, Err}
use Rattle.std.proofs.Common.{slice_index_or, inl, inr, refl, sym, subst, ap, ◌∙◌, true≢false, arith}
use Rattle.std.specs.Prelude.{◌==◌, ◌||◌, if◌then◌else◌, not, nat_le, is_err, All, Contains}
use Rattle.std.specs.List.{flat_map}
use Rattle.std.specs.Option.{option_to_list}
use Rattle.std.proofs.lemmas.Bool.{le-leb, leb-true, not-false, eqb-true}
use Rattle.std.proofs.lemmas.List.Elements.{All-nil, All-cons, All-head, All-tail, All-append, All-map, Contains-get_or}
use Rattle.arc_data.specs.declared.blob.Memory.{Memory}
use Rattle.arc_data.specs.declared.event.Event.{Event}
use Rattle.arc_data.specs.declared.event.Event.TheVariants.{Tick}
use Rattle.arc_doors.specs.Doors.{DoorSeen}
use Rattle.arc_doors.specs.Pulses.{Moments}
use Rattle.arc_io.specs.Disks.{DiskSeen}
use Rattle.arc_io.specs.Causes.{next_count, Rose}
use Rattle.arc_io.specs.Seen.{PortSeen}
use Rattle.arc_serving.proofs.Sides.{ended_in}
use Rattle.arc_serving.specs.Ran.{WorkerRan, IsWorkerRan, IsSideServed}
use Rattle.arc_serving.specs.Seen.{StationSeen, CameSeen}
use Rattle.arc_serving.specs.Serving.{ServesWhole}
use Rattle.arc_serving.specs.declared.station.Crew.{Crew}
use Rattle.arc_serving.specs.declared.session.SessionEnd.{SessionEnd}
use Rattle.arc_serving.specs.declared.session.SessionEnd.TheVariants as Session
use Rattle.arc_serving.specs.declared.side.Side.{Side}
use Rattle.arc_serving.specs.declared.side.Side.TheVariants.{Lines, Desks}
use Rattle.arc_serving.specs.Served.{Served}
use Rattle.arc_serving.specs.Ticks.{Ticking, EndsTicking}
use Rattle.arc_serving.specs.Works.{EndsWork, IsStoppedBy, stop_of}
use Rattle.arc_serving.specs.declared.working.Worked.{Worked}
use Rattle.arc_serving.specs.declared.working.WorkerEnd.{WorkerEnd}
use Rattle.arc_serving.specs.declared.working.WorkerEnd.TheVariants.{DoorEnded, Quota, DoorFault as WorkerFault, Stopped}
use Rattle.centre_core.specs.declared.hall.Stop.{Stop}
use Rattle.centre_core.specs.declared.hall.Stop.TheVariants.{Memory as MemoryWanted, Down, Full as HallFull, Worn as HallWorn}
use Rattle.centre_rules.specs.Sums.{summary_of}
use Rattle.centre_store.specs.Stores.{Stored}
use Rattle.line_gate.specs.Blanks.{terms_of}
use Rattle.line_gate.specs.Passes.{PassSeen, PassShows}
use Rattle.line_gate.specs.Terms.{Terms}
use Rattle.arc_io.specs.Told.{Puts}
use Rattle.arc_server.specs.Handed.{Handed}
use Rattle.arc_server.specs.Made.{status_over}
use Rattle.arc_server.specs.ServeRuns.{ServesAll, HasServed, summary_line}
use Rattle.arc_server.specs.Servings.{first_of, met_by, where_so, full_in, worn_in, stop_in, stops_in, door_fault_in, door_faults_in}
use Rattle.arc_server.specs.Servings.{has_refused, was_refused}
use Rattle.arc_server.specs.Shows.{HasEnded, HaveEnded, HasCome, IsShownBy}
use Rattle.arc_server.specs.declared.status.Status.{Status}
use Rattle.arc_server.specs.declared.status.Status.TheVariants.{Done, WriteFault, DiskFault, Full, DoorFault, Memory as NoMemory, Worn}

-- Parts of lists.

left : {X : Type 0} (P : X → Type 0) (xs ys : List X) → All P (xs ++ ys) → All P xs
left P [] ys all = All-nil P
left P (x ∷ xs) ys all = All-cons P x xs (All-head P x (xs ++ ys) all) (left P xs ys (All-tail P x (xs ++ ys) all))

right : {X : Type 0} (P : X → Type 0) (xs ys : List X) → All P (xs ++ ys) → All P ys
right P [] ys all = all
right P (x ∷ xs) ys all = right P xs ys (All-tail P x (xs ++ ys) all)

of_map : {X Y : Type 0} (P : Y → Type 0) (f : X → Y) (xs : List X) → All P (map f xs) → All (λ x. P (f x)) xs
of_map P f [] all = All-nil (λ x. P (f x))
of_map P f (x ∷ xs) all = All-cons (λ x. P (f x)) x xs (All-head P (f x) (map f xs) all) (of_map P f xs (All-tail P (f x) (map f xs) all))

all_flat : {X Y : Type 0} (P : Y → Type 0) (Q : X → Type 0) (f : X → List Y) → ((x : X) → Q x → All P (f x))
    → (xs : List X) → All Q xs → All P (flat_map f xs)
all_flat P Q f each [] all = All-nil P
all_flat P Q f each (x ∷ xs) all =
    All-append P (f x) (flat_map f xs) (each x (All-head Q x xs all)) (all_flat P Q f each xs (All-tail Q x xs all))

of_flat : {X Y : Type 0} (P : Y → Type 0) (f : X → List Y) (xs : List X) → All P (flat_map f xs) → All (λ x. All P (f x)) xs
of_flat P f [] all = All-nil (λ x. All P (f x))
of_flat P f (x ∷ xs) all =
    All-cons (λ x. All P (f x)) x xs (left P (f x) (flat_map f xs) all) (of_flat P f xs (right P (f x) (flat_map f xs) all))

all_both : {X : Type 0} (P Q R : X → Type 0) (xs : List X) → ((x : X) → P x → Q x → R x) → All P xs → All Q xs → All R xs
all_both P Q R xs each p q k d lt = each (slice_index_or xs k d) (p k d lt) (q k d lt)

each_within : {X : Type 0} (xs : List X) → All (λ x. Contains xs x) xs
each_within xs k d lt = Contains-get_or xs k d lt

-- an empty list of statuses
abbrev Never : Status → Type 0
Never status = ⊥

-- of the first of statuses, what is so of all of them; and of Done, where there is none
first_is : (P : Status → Type 0) (xs : List Status) → All P xs → (All Never xs → P Done) → P (first_of xs)
first_is P [] all none = none (All-nil Never)
first_is P (x ∷ xs) all none = All-head P x xs all

single : (P : Status → Type 0) (status : Status) → P status → All P (status ∷ [])
single P status so = All-cons P status [] so (All-nil P)

where_all : (P : Status → Type 0) (so : Bool) (status : Status) → (so ≡ true → P status) → All P (where_so so status)
where_all P true status when = single P status (when refl)
where_all P false status when = All-nil P

where_never : (so : Bool) (status : Status) → All Never (where_so so status) → so ≡ false
where_never true status never = absurd (All-head Never status [] never)
where_never false status never = refl

-- All statuses that occurred, in the order in which they decide: by the counts of the disk's faults at entry and at the end, by what the
-- port told before the summary and after it, by whether that was cut off, and by what came of all callers.
abbrev occurred : ℕ → ℕ → PortSeen → PortSeen → Bool → Result CameSeen Memory → List Status
occurred entry end p p' cut came =
    where_so (nat_le (next_count entry) end) (DiskFault entry end)
    ++ met_by came (where_so cut (WriteFault p.write_faults p'.write_faults))

first_by : (failed : Bool) (status : Status) (others : List Status) → (if failed then status else first_of others) ≡ first_of (where_so failed status ++ others)
first_by true status others = refl
first_by false status others = refl

over_first : (entry end : ℕ) (others : List Status)
    → status_over entry end (first_of others) ≡ first_of (where_so (nat_le (next_count entry) end) (DiskFault entry end) ++ others)
over_first entry end others = first_by (nat_le (next_count entry) end) (DiskFault entry end) others

-- What each status that occurred shows.

module _ (entry end : ℕ) (p p' : PortSeen) where
  abbrev Shows : Result CameSeen Memory → Status → Type 0
  Shows came status = IsShownBy status entry end p p' came

  full_each : (came : CameSeen) (stop : Stop) → Contains (stops_in came) stop → All (Shows (Ok came)) (full_in stop)
  full_each came (HallFull used need records) has = single (Shows (Ok came)) (Full used need records) has
  full_each came (HallWorn count) has = All-nil (Shows (Ok came))
  full_each came (Down at_open now) has = All-nil (Shows (Ok came))
  full_each came MemoryWanted has = All-nil (Shows (Ok came))

  worn_each : (came : CameSeen) (stop : Stop) → Contains (stops_in came) stop → All (Shows (Ok came)) (worn_in stop)
  worn_each came (HallWorn count) has = single (Shows (Ok came)) (Worn count) has
  worn_each came (HallFull used need records) has = All-nil (Shows (Ok came))
  worn_each came (Down at_open now) has = All-nil (Shows (Ok came))
  worn_each came MemoryWanted has = All-nil (Shows (Ok came))

  line_each : (came : CameSeen) (w : Worked) (e : WorkerEnd) → Contains came.lines w → w.end ≡ e → All (Shows (Ok came)) (door_fault_in Lines e)
  line_each came w (WorkerFault before now) has is = single (Shows (Ok came)) (DoorFault Lines before now) (w, has, is)
  line_each came w DoorEnded has is = All-nil (Shows (Ok came))
  line_each came w Quota has is = All-nil (Shows (Ok came))
  line_each came w (Stopped stop) has is = All-nil (Shows (Ok came))

  desk_each : (came : CameSeen) (w : Worked) (e : WorkerEnd) → Contains came.desks w → w.end ≡ e → All (Shows (Ok came)) (door_fault_in Desks e)
  desk_each came w (WorkerFault before now) has is = single (Shows (Ok came)) (DoorFault Desks before now) (w, has, is)
  desk_each came w DoorEnded has is = All-nil (Shows (Ok came))
  desk_each came w Quota has is = All-nil (Shows (Ok came))
  desk_each came w (Stopped stop) has is = All-nil (Shows (Ok came))

  doors_all : (came : CameSeen) → All (Shows (Ok came)) (door_faults_in came)
  doors_all came =
      All-append (Shows (Ok came)) (flat_map (λ w. door_fault_in Lines w.end) came.lines) (flat_map (λ w. door_fault_in Desks w.end) came.desks)
      (all_flat (Shows (Ok came)) (λ w. Contains came.lines w) (λ w. door_fault_in Lines w.end) (λ w has. line_each came w w.end has refl) came.lines (each_within came.lines))
      (all_flat (Shows (Ok came)) (λ w. Contains came.desks w) (λ w. door_fault_in Desks w.end) (λ w has. desk_each came w w.end has refl) came.desks (each_within came.desks))

  met_all : (came : Result CameSeen Memory) (unwritten : List Status) → All (Shows came) unwritten → All (Shows came) (met_by came unwritten)
  met_all (Err refused) unwritten written =
      All-append (Shows (Err refused)) unwritten (NoMemory ∷ []) written (single (Shows (Err refused)) NoMemory tt)
  met_all (Ok came) unwritten written =
      let P = Shows (Ok came) in
      let full = flat_map full_in (stops_in came) in
      let worn = flat_map worn_in (stops_in came) in
      let doors = door_faults_in came in
      let refused = where_so (was_refused came) NoMemory in
      All-append P full (worn ++ (doors ++ (unwritten ++ refused)))
      (all_flat P (λ stop. Contains (stops_in came) stop) full_in (full_each came) (stops_in came) (each_within (stops_in came)))
      (All-append P worn (doors ++ (unwritten ++ refused))
      (all_flat P (λ stop. Contains (stops_in came) stop) worn_in (worn_each came) (stops_in came) (each_within (stops_in came)))
      (All-append P doors (unwritten ++ refused) (doors_all came)
      (All-append P unwritten refused written (where_all P (was_refused came) NoMemory (λ so. tt)))))

  all_shown : (cut : Bool) (came : Result CameSeen Memory) → (cut ≡ true → Rose p.write_faults p'.write_faults)
      → All (Shows came) (occurred entry end p p' cut came)
  all_shown cut came rose =
      All-append (Shows came) (where_so (nat_le (next_count entry) end) (DiskFault entry end)) (met_by came (where_so cut (WriteFault p.write_faults p'.write_faults)))
      (where_all (Shows came) (nat_le (next_count entry) end) (DiskFault entry end)
      (λ so. (refl, refl, leb-true (next_count entry) end so)))
      (met_all came (where_so cut (WriteFault p.write_faults p'.write_faults))
      (where_all (Shows came) cut (WriteFault p.write_faults p'.write_faults) (λ so. (refl, refl, rose so))))

-- Where no status occurred.

-- a stop that shows in a status of its own; a disk that failed shows in the disk's count alone
abbrev pub ShowsItself : Stop → Type 0
ShowsItself (HallFull used need records) = Unit {0}
ShowsItself (HallWorn count) = Unit {0}
ShowsItself (Down at_open now) = ⊥
ShowsItself MemoryWanted = ⊥

abbrev pub MayEnd : WorkerEnd → Type 0
MayEnd (Stopped stop) = ShowsItself stop
MayEnd DoorEnded = Unit {0}
MayEnd Quota = Unit {0}
MayEnd (WorkerFault before now) = Unit {0}

abbrev pub MayStop : Option Stop → Type 0
MayStop None = Unit {0}
MayStop (Some stop) = ShowsItself stop

pub record AllMay (came : CameSeen) : Type 0 where
  pub lines : All (λ w. MayEnd w.end) came.lines
  pub desks : All (λ w. MayEnd w.end) came.desks
  pub ticker : MayStop came.ticked.stop

no_stop : (stop : Stop) → ShowsItself stop → All Never (full_in stop) → All Never (worn_in stop) → ⊥
no_stop (HallFull used need records) itself full worn = All-head Never (Full used need records) [] full
no_stop (HallWorn count) itself full worn = All-head Never (Worn count) [] worn
no_stop (Down at_open now) itself full worn = itself
no_stop MemoryWanted itself full worn = itself

went_on : (side : Side) (e : WorkerEnd) → MayEnd e → All (λ s. All Never (full_in s)) (stop_in e) → All (λ s. All Never (worn_in s)) (stop_in e)
    → All Never (door_fault_in side e) → (e ≡ DoorEnded) ⊎ (e ≡ Quota)
went_on side DoorEnded may full worn door = inl refl
went_on side Quota may full worn door = inr refl
went_on side (WorkerFault before now) may full worn door = absurd (All-head Never (DoorFault side before now) [] door)
went_on side (Stopped stop) may full worn door =
    absurd (no_stop stop may (All-head (λ s. All Never (full_in s)) stop [] full) (All-head (λ s. All Never (worn_in s)) stop [] worn))

ticked_on : (stop : Option Stop) → MayStop stop → All (λ s. All Never (full_in s)) (option_to_list stop)
    → All (λ s. All Never (worn_in s)) (option_to_list stop) → stop ≡ None
ticked_on None may full worn = refl
ticked_on (Some stop) may full worn =
    absurd (no_stop stop may (All-head (λ s. All Never (full_in s)) stop [] full) (All-head (λ s. All Never (worn_in s)) stop [] worn))

neither : (a b : Bool) → (a || b) ≡ false → (a ≡ false) × (b ≡ false)
neither true b off = absurd (true≢false off)
neither false b off = (refl, off)

none_counted : (n : ℕ) → not (n == 0) ≡ false → n ≡ 0
none_counted n off = eqb-true n 0 (not-false (n == 0) off)

none_refused : (xs : List Worked) → has_refused xs ≡ false → All (λ w. w.refused ≡ 0) xs
none_refused [] off = All-nil (λ w. w.refused ≡ 0)
none_refused (w ∷ ws) off =
    let both = neither (not (w.refused == 0)) (has_refused ws) off in
    All-cons (λ w. w.refused ≡ 0) w ws (none_counted w.refused both.0) (none_refused ws both.1)

-- all workers of a side
side_ended : (side : Side) (ws : List Worked) → All (λ w. MayEnd w.end) ws → All (λ s. All Never (full_in s)) (flat_map (λ w. stop_in w.end) ws)
    → All (λ s. All Never (worn_in s)) (flat_map (λ w. stop_in w.end) ws) → All Never (flat_map (λ w. door_fault_in side w.end) ws)
    → has_refused ws ≡ false → All HasEnded ws
side_ended side ws may full worn door off =
    let fulls = of_flat (λ s. All Never (full_in s)) (λ (w : Worked). stop_in w.end) ws full in
    let worns = of_flat (λ s. All Never (worn_in s)) (λ (w : Worked). stop_in w.end) ws worn in
    let doors = of_flat Never (λ (w : Worked). door_fault_in side w.end) ws door in
    let refused = none_refused ws off in
    λ k d lt. (went_on side (slice_index_or ws k d).end (may k d lt) (fulls k d lt) (worns k d lt) (doors k d lt), refused k d lt)

callers_ended : (came : CameSeen) (unwritten : List Status) → AllMay came → All Never (met_by (Ok came) unwritten) → HaveEnded came
callers_ended came unwritten may never =
    let of : Worked → List Stop = λ w. stop_in w.end in
    let full = flat_map full_in (stops_in came) in
    let worn = flat_map worn_in (stops_in came) in
    let doors = door_faults_in came in
    let refused = where_so (was_refused came) NoMemory in
    let IsNotFull : Stop → Type 0 = λ s. All Never (full_in s) in
    let IsNotWorn : Stop → Type 0 = λ s. All Never (worn_in s) in
    let behind_full = right Never full (worn ++ (doors ++ (unwritten ++ refused))) never in
    let behind_worn = right Never worn (doors ++ (unwritten ++ refused)) behind_full in
    let no_doors = left Never doors (unwritten ++ refused) behind_worn in
    let no_refused = where_never (was_refused came) NoMemory (right Never unwritten refused (right Never doors (unwritten ++ refused) behind_worn)) in
    let fulls = of_flat Never full_in (stops_in came) (left Never full (worn ++ (doors ++ (unwritten ++ refused))) never) in
    let worns = of_flat Never worn_in (stops_in came) (left Never worn (doors ++ (unwritten ++ refused)) behind_full) in
    let lines = flat_map of came.lines in
    let desks = flat_map of came.desks in
    let ticker = option_to_list came.ticked.stop in
    let of_lines = neither (has_refused came.lines) (has_refused came.desks || not (came.ticked.refused == 0)) no_refused in
    let of_desks = neither (has_refused came.desks) (not (came.ticked.refused == 0)) of_lines.1 in
    let line_faults = flat_map (λ (w : Worked). door_fault_in Lines w.end) came.lines in
    let desk_faults = flat_map (λ (w : Worked). door_fault_in Desks w.end) came.desks in record {
      lines = side_ended Lines came.lines may.lines (left IsNotFull lines (desks ++ ticker) fulls) (left IsNotWorn lines (desks ++ ticker) worns)
          (left Never line_faults desk_faults no_doors) of_lines.0;
      desks =
          side_ended Desks came.desks may.desks (left IsNotFull desks ticker (right IsNotFull lines (desks ++ ticker) fulls))
          (left IsNotWorn desks ticker (right IsNotWorn lines (desks ++ ticker) worns)) (right Never line_faults desk_faults no_doors) of_desks.0;
      ticker =
          ticked_on came.ticked.stop may.ticker (right IsNotFull desks ticker (right IsNotFull lines (desks ++ ticker) fulls))
          (right IsNotWorn desks ticker (right IsNotWorn lines (desks ++ ticker) worns));
      refused = none_counted came.ticked.refused of_desks.1;
    }

-- callers may stop so; or none ran
abbrev pub MayCome : Result CameSeen Memory → Type 0
MayCome (Ok came) = AllMay came
MayCome (Err refused) = Unit {0}

none_occurred : (entry end : ℕ) (p p' : PortSeen) (cut : Bool) (came : Result CameSeen Memory)
    → ((Rose entry end → ⊥) → MayCome came) → All Never (occurred entry end p p' cut came) → HasCome HaveEnded came
none_occurred entry end p p' cut (Err refused) may never =
    let unwritten = where_so cut (WriteFault p.write_faults p'.write_faults) in
    let met = right Never (where_so (nat_le (next_count entry) end) (DiskFault entry end)) (unwritten ++ NoMemory ∷ []) never in
    All-head Never NoMemory [] (right Never unwritten (NoMemory ∷ []) met)
none_occurred entry end p p' cut (Ok came) may never =
    let unwritten = where_so cut (WriteFault p.write_faults p'.write_faults) in
    let disk = where_so (nat_le (next_count entry) end) (DiskFault entry end) in
    let low : nat_le (next_count entry) end ≡ false =
    where_never (nat_le (next_count entry) end) (DiskFault entry end) (left Never disk (met_by (Ok came) unwritten) never) in
    let up : Rose entry end → ⊥ = λ rose. true≢false (sym (le-leb (next_count entry) end rose) ∙ low) in
    callers_ended came unwritten (may up) (right Never disk (met_by (Ok came) unwritten) never)

-- all that the first status shows
shown : (came : Result CameSeen Memory) (cut : Bool) (status : Status) (entry end : ℕ) (p p' : PortSeen)
    → status ≡ status_over entry end (first_of (met_by came (where_so cut (WriteFault p.write_faults p'.write_faults))))
    → (cut ≡ true → Rose p.write_faults p'.write_faults)
    → ((Rose entry end → ⊥) → MayCome came) → IsShownBy status entry end p p' came
shown came cut status entry end p p' is rose may =
    subst (λ (s : Status). IsShownBy s entry end p p' came)
    (sym (is ∙ over_first entry end (met_by came (where_so cut (WriteFault p.write_faults p'.write_faults)))))
    (first_is (λ s. IsShownBy s entry end p p' came) (occurred entry end p p' cut came) (all_shown entry end p p' cut came rose)
    (none_occurred entry end p p' cut came may))

-- a line that was cut off
rose_put : {T E : Type 0} (result : Result T E) (line : List ℕ) (p p' : PortSeen) → Puts p p' result line → is_err result ≡ true
    → Rose p.write_faults p'.write_faults
rose_put (Ok x) line p p' puts cut = absurd (true≢false (sym cut))
rose_put (Err e) line p p' puts cut = puts.cause.failed

-- Callers over a disk that has not failed since the run's entry.

-- the pass shows the stop for some event at some reading of the clock
abbrev IsShown : Terms → PassSeen → Stop → Type 0
IsShown t q stop = (event : Event) × (clock : ℕ) × PassShows t q stop event clock

other_end : (e : SessionEnd) → stop_of e ≡ Some MemoryWanted → ⊥
other_end (Session.Stopped MemoryWanted) is = cc
other_end (Session.Stopped (Down at_open now)) is = cc
other_end (Session.Stopped (HallFull used need records)) is = cc
other_end (Session.Stopped (HallWorn count)) is = cc
other_end Session.Quit is = cc
other_end Session.InputEnded is = cc
other_end Session.ReadFault is = cc
other_end Session.WriteFault is = cc
other_end Session.Spent is = cc

-- a pass that was told of a failure, by a disk that has so many
down_risen : (entry at_open opened now told end : ℕ) → entry ≤ opened → at_open ≡ opened → Rose at_open now → now ≤ told → told ≤ end → Rose entry end
down_risen entry at_open opened now told end since is rose told_is counted = omega arith

module _ (t : Terms) (entry end : ℕ) (since : entry ≤ t.at_open) (up : Rose entry end → ⊥) where
  stops_itself : (q : PassSeen) (stop : Stop) → q.told ≤ end → (stop ≡ MemoryWanted → ⊥) → IsShown t q stop → ShowsItself stop
  stops_itself q (HallFull used need records) told other is = tt
  stops_itself q (HallWorn count) told other is = tt
  stops_itself q (Down at_open now) told other is =
      let s : PassShows t q (Down at_open now) is.0 is.1 = is.2 in
      up (down_risen entry at_open t.at_open now q.told end since s.0 s.1 s.2 told)
  stops_itself q MemoryWanted told other is = other refl

  no_memory_stop : (stop : Stop) (served : List Served) → IsStoppedBy stop served → stop ≡ MemoryWanted → ⊥
  no_memory_stop stop served by is = other_end by.last.end (by.end ∙ ap (λ s. Some s) is)

  worker_may : (e : WorkerEnd) (q : PassSeen) (door door' : DoorSeen) (sessions : ℕ) (served : List Served)
      → q.told ≤ end → EndsWork e t q door door' sessions served → MayEnd e
  worker_may DoorEnded q door door' sessions served told ends = tt
  worker_may Quota q door door' sessions served told ends = tt
  worker_may (WorkerFault before now) q door door' sessions served told ends = tt
  worker_may (Stopped stop) q door door' sessions served told ends =
      stops_itself q stop told (no_memory_stop stop served ends.0) (ends.1, ends.2, ends.3)

  ticker_may : (stop : Option Stop) (q : PassSeen) (pulse : Option Moments) (refused : ℕ) (ticks : List Ticking)
      → q.told ≤ end → EndsTicking stop t q pulse refused ticks → MayStop stop
  ticker_may None q pulse refused ticks told ends = tt
  ticker_may (Some stop) q pulse refused ticks told ends =
      stops_itself q stop told ends.other (Tick, ends.last.moment, ends.shown)

  side_may : (side : Side) (count sessions : ℕ) (ran : List WorkerRan) (doors doors' : List DoorSeen) (came : List Worked)
      → IsSideServed side t count sessions ran doors doors' came → All (λ p. p.told ≤ end) (ended_in ran) → All (λ w. MayEnd w.end) came
  side_may side count sessions ran doors doors' came served told =
      let tolds = of_map (λ (p : PassSeen). p.told ≤ end) (λ (w : WorkerRan). w.ended) ran told in
      let each : All (λ (w : WorkerRan). MayEnd w.worked.end) ran =
      all_both (λ (w : WorkerRan). IsWorkerRan side t sessions w) (λ (w : WorkerRan). w.ended.told ≤ end) (λ (w : WorkerRan). MayEnd w.worked.end) ran
      (λ w is told. worker_may w.worked.end w.ended w.door w.door' sessions is.works.served told is.works.ended) served.each tolds in
      subst (λ (ws : List Worked). All (λ w. MayEnd w.end) ws) (sym served.came_is) (All-map (λ (w : Worked). MayEnd w.end) (λ (w : WorkerRan). w.worked) ran each)

all_may : {D : Type 0} {seen : D → DiskSeen}
    (t : Terms) (crew : Crew) (around around' : StationSeen) (came : CameSeen) (last : Stored D) (entry : ℕ) (disk' : D)
    → ServesWhole seen t crew around around' came last → entry ≤ t.at_open → disk' ≡ last.journal.disk
    → (Rose entry (seen disk').faults → ⊥) → AllMay came
all_may {D} {seen} t crew around around' came last entry disk' s low handed up =
    let end = (seen disk').faults in
    let tolds : All (λ (p : PassSeen). p.told ≤ end) (ended_in s.all.ran.lines ++ (ended_in s.all.ran.desks ++ s.all.ran.ended ∷ [])) =
    subst (λ (disk : D). All (λ (p : PassSeen). p.told ≤ (seen disk).faults) (ended_in s.all.ran.lines ++ (ended_in s.all.ran.desks ++ s.all.ran.ended ∷ []))) (sym handed) s.all_told in
    let IsTold : PassSeen → Type 0 = λ p. p.told ≤ end in
    let behind = right IsTold (ended_in s.all.ran.lines) (ended_in s.all.ran.desks ++ s.all.ran.ended ∷ []) tolds in
    let of_ticker = All-head IsTold s.all.ran.ended [] (right IsTold (ended_in s.all.ran.desks) (s.all.ran.ended ∷ []) behind) in record {
      lines = side_may t entry end low up Lines crew.lines crew.sessions s.all.ran.lines around.lines around'.lines came.lines s.all.lines
          (left IsTold (ended_in s.all.ran.lines) (ended_in s.all.ran.desks ++ s.all.ran.ended ∷ []) tolds);
      desks = side_may t entry end low up Desks crew.desks crew.sessions s.all.ran.desks around.desks around'.desks came.desks s.all.desks
          (left IsTold (ended_in s.all.ran.desks) (s.all.ran.ended ∷ []) behind);
      ticker = ticker_may t entry end low up came.ticked.stop s.all.ran.ended around'.pulse came.ticked.refused s.all.ticks.ticks of_ticker s.all.ticks.ended;
    }

-- at a gate without groups or with them
may_come : {D : Type 0} (seen : D → DiskSeen) (groups : Bool) (first last : Stored D) (crew : Crew) (around around' : StationSeen)
    (came : Result CameSeen Memory) (passes : List PassSeen) (entry : ℕ) (disk' : D)
    → HasServed seen groups first crew (around, around') came last passes → entry ≤ first.at_open → disk' ≡ last.journal.disk
    → (Rose entry (seen disk').faults → ⊥) → MayCome came
may_come seen groups first last crew around around' (Err refused) passes entry disk' served since handed up = tt
may_come {D} seen groups first last crew around around' (Ok came) passes entry disk' served since handed up =
    let s = served.0 in
    all_may (terms_of groups seen s.gate) crew around around' came last entry disk' s.serves
    (subst (λ (at : Stored D). entry ≤ at.at_open) (sym s.from_is) since) handed up

-- what the status of a run shows
pub status_shows : {D : Type 0} (seen : D → DiskSeen) (groups : Bool) (crew : Crew) (status : Status) (r r' : Handed D)
    (around around' : StationSeen) (run : ServesAll seen groups crew status r r' around around')
    → IsShownBy status (seen r.disk).faults (seen r'.disk).faults run.p r'.port run.came
status_shows seen groups crew status r r' around around' run =
    let entry = (seen r.disk).faults in
    shown run.came (is_err run.written) status entry (seen r'.disk).faults run.p r'.port run.status_is
    (rose_put run.written (summary_line (summary_of run.begun.asked.base run.stands.from.history)) run.p r'.port run.puts)
    (may_come seen groups run.begun.first run.last crew around around' run.came run.passes entry r'.disk run.served run.begun.later run.leaves.handed)
