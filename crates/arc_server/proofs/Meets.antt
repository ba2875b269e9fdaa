-- That callers never make the status of words that are none.
use Rattle.std.proofs.Common.{◌≡◌, ◌++◌, ℕ, List, [], ◌∷◌, Bool, true, false, Result, Ok, Err}
use Rattle.std.specs.List.{flat_map, All}
use Rattle.std.proofs.lemmas.List.Elements.{All-nil, All-cons, All-head, All-append}
use Rattle.arc_data.specs.declared.blob.Memory.{Memory}
use Rattle.arc_serving.specs.Seen.{CameSeen}
use Rattle.arc_serving.specs.declared.side.Side.{Side}
use Rattle.arc_serving.specs.declared.side.Side.TheVariants.{Lines, Desks}
use Rattle.arc_serving.specs.declared.working.WorkerEnd.{WorkerEnd}
use Rattle.arc_serving.specs.declared.working.WorkerEnd.TheVariants.{DoorEnded, Quota, DoorFault as WorkerFault, Stopped}
use Rattle.centre_core.specs.declared.hall.Stop.{Stop}
use Rattle.centre_core.specs.declared.hall.Stop.TheVariants.{Memory as MemoryWanted, Down, Full as HallFull, Worn as HallWorn}
use Rattle.arc_server.specs.Servings.{first_of, stops_in, met_by, full_in, worn_in, door_fault_in, door_faults_in, where_so, was_refused}
use Rattle.arc_server.specs.declared.status.Status.{Status}
use Rattle.arc_server.specs.declared.status.Status.TheVariants.{Usage, WriteFault, Memory as NoMemory}

abbrev IsOther : Status → Type 0
IsOther status = status ≡ Usage → ⊥

single : (status : Status) → IsOther status → All IsOther (status ∷ [])
single status other = All-cons IsOther status [] other (All-nil IsOther)

all_flat : {A : Type 0} (f : A → List Status) → ((x : A) → All IsOther (f x)) → (xs : List A) → All IsOther (flat_map f xs)
all_flat f each [] = All-nil IsOther
all_flat f each (x ∷ xs) = All-append IsOther (f x) (flat_map f xs) (each x) (all_flat f each xs)

full_other : (stop : Stop) → All IsOther (full_in stop)
full_other (HallFull used need records) = single _ (λ same. cc)
full_other (HallWorn count) = All-nil IsOther
full_other (Down at_open now) = All-nil IsOther
full_other MemoryWanted = All-nil IsOther

worn_other : (stop : Stop) → All IsOther (worn_in stop)
worn_other (HallWorn count) = single _ (λ same. cc)
worn_other (HallFull used need records) = All-nil IsOther
worn_other (Down at_open now) = All-nil IsOther
worn_other MemoryWanted = All-nil IsOther

fault_other : (side : Side) (end : WorkerEnd) → All IsOther (door_fault_in side end)
fault_other side (WorkerFault before now) = single _ (λ same. cc)
fault_other side DoorEnded = All-nil IsOther
fault_other side Quota = All-nil IsOther
fault_other side (Stopped stop) = All-nil IsOther

faults_other : (came : CameSeen) → All IsOther (door_faults_in came)
faults_other came =
    All-append IsOther (flat_map (λ w. door_fault_in Lines w.end) came.lines) (flat_map (λ w. door_fault_in Desks w.end) came.desks)
    (all_flat (λ w. door_fault_in Lines w.end) (λ w. fault_other Lines w.end) came.lines)
    (all_flat (λ w. door_fault_in Desks w.end) (λ w. fault_other Desks w.end) came.desks)

so_other : (so : Bool) (status : Status) → IsOther status → All IsOther (where_so so status)
so_other true status other = single status other
so_other false status other = All-nil IsOther

no_memory : IsOther NoMemory
no_memory same = cc

met_other : (came : Result CameSeen Memory) (unwritten : List Status) → All IsOther unwritten → All IsOther (met_by came unwritten)
met_other (Err refused) unwritten others = All-append IsOther unwritten (NoMemory ∷ []) others (single NoMemory no_memory)
met_other (Ok came) unwritten others =
    let full = flat_map full_in (stops_in came) in
    let worn = flat_map worn_in (stops_in came) in
    let doors = door_faults_in came in
    let refused = where_so (was_refused came) NoMemory in
    All-append IsOther full (worn ++ (doors ++ (unwritten ++ refused))) (all_flat full_in full_other (stops_in came))
    (All-append IsOther worn (doors ++ (unwritten ++ refused)) (all_flat worn_in worn_other (stops_in came))
    (All-append IsOther doors (unwritten ++ refused) (faults_other came)
    (All-append IsOther unwritten refused others (so_other (was_refused came) NoMemory no_memory))))

first_other : (xs : List Status) → All IsOther xs → IsOther (first_of xs)
first_other [] others same = cc
first_other (x ∷ xs) others same = All-head IsOther x xs others same

-- all that callers met, and the summary's write
pub never_met : (came : Result CameSeen Memory) (cut : Bool) (before now : ℕ)
    → first_of (met_by came (where_so cut (WriteFault before now))) ≡ Usage → ⊥
never_met came cut before now =
    let unwritten = where_so cut (WriteFault before now) in
    first_other (met_by came unwritten) (met_other came unwritten (so_other cut (WriteFault before now) (λ same. cc)))
