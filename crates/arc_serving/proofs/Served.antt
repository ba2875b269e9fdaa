-- All that serving makes of a store.
use Rattle.std.proofs.Common.{◌≡◌, ◌≤◌, ◌<◌, ℕ, List, [], ◌∷◌, ◌++◌, Option, Some, length, refl, sym, ap, ◌∙◌, subst, arith}
use Rattle.std.proofs.lemmas.List.{map-append}
use Rattle.std.proofs.lemmas.List.Elements.{All-nil, All-cons, All-append, All-weaker}
use Rattle.std.specs.List.Sorted.{IsStrictlyIncreasing}
use Rattle.std.specs.Prelude.{All, Bool, Result, Ok, Err, IfOk, OnErr, map, reverse}
use Rattle.alarm_rules.specs.Setups.{meaning}
use Rattle.arc_doors.specs.Doors.{DoorSeen}
use Rattle.arc_io.specs.Disks.{DiskSeen}
use Rattle.arc_serving.specs.declared.side.Side.{Side}
use Rattle.arc_serving.specs.declared.side.Side.TheVariants.{Lines, Desks}
use Rattle.arc_serving.specs.Ticks.{WorksTicks}
use Rattle.arc_doors.specs.Pulses.{Moments}
use Rattle.arc_serving.specs.declared.working.Worked.{Worked}
use Rattle.centre_rules.specs.History.{marks}
use Rattle.centre_rules.specs.Marks.{force}
use Rattle.centre_rules.specs.Summary.{Summary}
use Rattle.centre_store.specs.Stores.{Stored}
use Rattle.line_gate.proofs.Carried.{extends_base}
use Rattle.line_gate.proofs.Histories.{extends_further}
use Rattle.line_gate.specs.Blanks.{BlankSeen, terms_of}
use Rattle.line_gate.specs.Entries.{Entry, Extends}
use Rattle.line_gate.specs.Passes.{PassSeen, IsPass}
use Rattle.line_gate.specs.Terms.{Terms}
use Rattle.line_gate.specs.Groups.{IsClosed, ClosesGroup}
use Rattle.line_gate.specs.declared.closed.GroupClosed.{GroupClosed}
use Rattle.line_gate.specs.declared.closed.GroupClosed.TheVariants.{Whole, Broken}
use Rattle.arc_serving.specs.Closing.{ServesSeated}
use Rattle.arc_serving.specs.Jobs.{JobSeen, AreRising, AreSeated, HasTaken, AreUnseated, doors_in, numbers_in, worked_in}
use Rattle.arc_serving.specs.Ran.{IsFresh, WorkerRan, IsSideServed}
use Rattle.arc_serving.specs.Seen.{StationSeen, CameSeen}
use Rattle.arc_serving.specs.Serving.{ServesWhole, AtSomeGate, ServesAt, RanBefore, GoesOnFrom, GoesOnAt, IsKeptOf, StandsForAll, all_ended}
use Rattle.arc_serving.specs.declared.station.Crew.{Crew}
use Rattle.arc_serving.proofs.Lists.{rising_both, rising_increases}
use Rattle.arc_serving.proofs.Moments.{ticks_later}
use Rattle.arc_serving.proofs.Sides.{SideRan, ended_in, side_ran}

-- the workers of a side stood at its first doors
side_served : (side : Side) (t : Terms) (count sessions : ℕ) (last : PassSeen) (olds news : List JobSeen) (before left after : List DoorSeen) (came : List Worked)
    → before ≡ doors_in olds ++ reverse left → length olds ≡ count → AreUnseated last news left after → came ≡ worked_in news → (w : SideRan side t sessions last olds news)
    → IsSideServed side t count sessions w.ran before after came
side_served side t count sessions last olds news before left after came seated long over worked w = record {
  count_is = w.count ∙ long;
  unused = reverse left;
  before = seated ∙ ap (λ (l : List DoorSeen). l ++ reverse left) w.doors;
  after = over.parts ∙ ap (λ (l : List DoorSeen). l ++ reverse left) w.doors';
  came_is = worked ∙ w.came;
  each = w.each;
}

-- what the gate was closed with has seen all that these passes have, and more
stands_for_all : {D : Type 0} (seen : D → DiskSeen) (t : Terms) (last : PassSeen) (s : Stored D) (passes : List PassSeen)
    → IsClosed seen t last s → All (λ (p : PassSeen). HasTaken last p) passes → (b : Summary) (base : List Entry) → t.stood b base
    → StandsForAll seen b base passes s
stands_for_all seen t last s passes closed taken b base from =
    let h = closed.stands b base from in record {
      from = record { history = h.0; stands = h.2; past = h.3 };
      all_seen = All-weaker (λ (p : PassSeen). HasTaken last p) (λ (p : PassSeen). Extends (p.since ++ base) h.0)
          (λ p w. extends_further (p.since ++ base) (last.since ++ base) h.0 (extends_base p.since last.since base w.since) h.1) passes taken;
    }

-- where nobody was served
pub goes_on : {D : Type 0} (seen : D → DiskSeen) (t : Terms) (last : PassSeen) (s : Stored D)
    → IsClosed seen t last s → (b : Summary) (base : List Entry) → t.stood b base → GoesOnFrom seen b base s
goes_on seen t last s closed b base from = (stands_for_all seen t last s [] closed (All-nil (λ (p : PassSeen). HasTaken last p)) b base from).from

-- the first pass, which has seen nothing since the gate was made, knows the setup in force
setup_from : (t : Terms) (first : PassSeen) → IsPass t first → first.since ≡ [] → (b : Summary) (base : List Entry) → t.stood b base → force b (marks b base) ≡ Some (meaning t.text)
setup_from t first pass none b base from =
    subst (λ (l : List Entry). force b (marks b (l ++ base)) ≡ Some (meaning t.text)) none (pass.of_gate.over b base from).in_force

-- the numbers of the callers: of lines, of desks, and of the ticker
numbers_from : (low one two high : ℕ) (lines desks : List JobSeen) (ticker ticker' : PassSeen) (line_ran desk_ran : List WorkerRan) → AreRising low (numbers_in lines) one
    → AreRising one (numbers_in desks) two → two ≤ ticker.number → ticker.number < high → numbers_in lines ≡ map (λ (p : PassSeen). p.number) (ended_in line_ran)
    → numbers_in desks ≡ map (λ (p : PassSeen). p.number) (ended_in desk_ran) → ticker'.number ≡ ticker.number
    → IsStrictlyIncreasing (map (λ (p : PassSeen). p.number) (ended_in line_ran ++ (ended_in desk_ran ++ ticker' ∷ [])))
numbers_from low one two high lines desks ticker ticker' line_ran desk_ran w v le lt line_is desk_is ticker_is =
    let number : PassSeen → ℕ = λ p. p.number in
    let same : map number (ended_in line_ran ++ (ended_in desk_ran ++ ticker' ∷ [])) ≡ numbers_in lines ++ (numbers_in desks ++ ticker.number ∷ []) =
    map-append number (ended_in line_ran) (ended_in desk_ran ++ ticker' ∷ []) ∙ ap (λ (l : List ℕ). map number (ended_in line_ran) ++ l) (map-append number (ended_in desk_ran) (ticker' ∷ []))
    ∙ ap (λ (l : List ℕ). l ++ (map number (ended_in desk_ran) ++ ticker'.number ∷ [])) (sym line_is) ∙ ap (λ (l : List ℕ). numbers_in lines ++ (l ++ ticker'.number ∷ [])) (sym desk_is)
    ∙ ap (λ (n : ℕ). numbers_in lines ++ (numbers_in desks ++ n ∷ [])) ticker_is in
    subst (λ (l : List ℕ). IsStrictlyIncreasing l) (sym same)
    (rising_increases low (numbers_in lines ++ (numbers_in desks ++ ticker.number ∷ [])) high
    (rising_both low (numbers_in lines) (numbers_in desks ++ ticker.number ∷ []) one high w (rising_both one (numbers_in desks) (ticker.number ∷ []) two high v (le, omega (arith, lt)))))

-- all that ran, before the pass that took in theirs
pub ran_before : (t : Terms) (crew : Crew) (first given last ticker : PassSeen)
    (low one two high : ℕ) (lines desks : List JobSeen) (before left after : StationSeen) (came : CameSeen)
    → IsPass t first → first.since ≡ [] → IsFresh t ticker → two ≤ ticker.number → ticker.number < high
    → AreSeated t before.lines left.lines lines low one → AreSeated t before.desks left.desks desks one two → length lines ≡ crew.lines → length desks ≡ crew.desks
    → left.pulse ≡ before.pulse → ServesSeated t crew.sessions given last lines desks ticker left after came
    → RanBefore t last crew before after came
ran_before t crew first given last ticker low one two high lines desks before left after came pass none fresh le lt seated_lines seated_desks line_count desk_count pulse w =
    let l = side_ran Lines t crew.sessions last lines w.lines' seated_lines.ready w.lines_done w.lines_over.taken in
    let d = side_ran Desks t crew.sessions last desks w.desks' seated_desks.ready w.desks_done w.desks_over.taken in record {
      all = record {
        ran = record { lines = l.ran; desks = d.ran; began = ticker; ended = w.ticker' };
        lines = side_served Lines t crew.lines crew.sessions last lines w.lines' before.lines left.lines after.lines came.lines seated_lines.parts line_count w.lines_over w.lines_came l;
        desks = side_served Desks t crew.desks crew.sessions last desks w.desks' before.desks left.desks after.desks came.desks seated_desks.parts desk_count w.desks_over w.desks_came d;
        fresh = fresh;
        ticks = subst (λ (m : Option Moments). WorksTicks t ticker w.ticker' m after.pulse came.ticked) pulse w.ticks;
        numbers = numbers_from low one two high lines desks ticker w.ticker' l.ran d.ran seated_lines.rising seated_desks.rising le lt l.numbers d.numbers
            (ticks_later t ticker w.ticker' w.ticks.ticks w.ticks.each).number;
        setup = setup_from t first pass none;
      };
      taken = All-append (λ (p : PassSeen). HasTaken last p) (ended_in l.ran) (ended_in d.ran ++ w.ticker' ∷ []) l.taken
          (All-append (λ (p : PassSeen). HasTaken last p) (ended_in d.ran) (w.ticker' ∷ []) d.taken (All-cons (λ (p : PassSeen). HasTaken last p) w.ticker' [] w.taken (All-nil (λ (p : PassSeen). HasTaken last p))));
    }

-- then the gate was closed with that pass
pub serves : {D : Type 0} (seen : D → DiskSeen) (t : Terms) (last : PassSeen) (crew : Crew) (before after : StationSeen) (came : CameSeen) (s : Stored D)
    → IsClosed seen t last s → RanBefore t last crew before after came → ServesWhole seen t crew before after came s
serves seen t last crew before after came s closed w = record {
  all = w.all;
  stands = stands_for_all seen t last s (all_ended w.all.ran) closed w.taken;
  all_told = All-weaker (λ (p : PassSeen). HasTaken last p) (λ (p : PassSeen). p.told ≤ (seen s.journal.disk).faults) (λ p v. let a = v.told in let b = closed.told_is in omega arith)
      (all_ended w.all.ran) w.taken;
}

pub serves_at : {D : Type 0} (seen : D → DiskSeen) (t : Terms) (last : PassSeen) (crew : Crew) (before after : StationSeen) (came : CameSeen) (c : GroupClosed D)
    → ClosesGroup seen t last c → RanBefore t last crew before after came → ServesAt seen t crew before after came c
serves_at seen t last crew before after came (Whole s) closed w = (serves seen t last crew before after came s closed.closed w, closed.up)
serves_at seen t last crew before after came (Broken disk at_open now) closed w = (
  closed.now_is,
  closed.at_open_is,
  closed.rose,
  w.all,
  All-weaker (λ (p : PassSeen). HasTaken last p) (λ (p : PassSeen). p.told ≤ now) (λ p v. let a = v.told in let b = closed.told_is in omega arith)
      (all_ended w.all.ran) w.taken,
)

pub goes_on_at : {D : Type 0} (seen : D → DiskSeen) (t : Terms) (last : PassSeen) (c : GroupClosed D)
    → ClosesGroup seen t last c → (b : Summary) (base : List Entry) → t.stood b base → GoesOnAt seen b base c
goes_on_at seen t last (Whole s) closed b base from = goes_on seen t last s closed.closed b base from
goes_on_at seen t last (Broken disk at_open now) closed b base from = (closed.now_is, closed.rose)

-- closed, what comes back is as the store was that the gate was made before
pub kept_of : {D : Type 0} (seen : D → DiskSeen) (t : Terms) (last : PassSeen) (from : Stored D) (c : GroupClosed D)
    → from.at_open ≡ t.at_open → from.journal.limits ≡ t.limits → ClosesGroup seen t last c → IsKeptOf from c
kept_of seen t last from (Whole s) opened limits closed = (closed.closed.at_open ∙ sym opened, closed.closed.limits ∙ sym limits)
kept_of seen t last from (Broken disk at_open now) opened limits closed = closed.at_open_is ∙ sym opened

pub if_ok : {A E : Type 0} (P Q : A → Type 0) (r : Result A E) → ((x : A) → P x → Q x) → IfOk r P → IfOk r Q
if_ok P Q (Ok x) f w = f x w
if_ok P Q (Err e) f w = tt

pub on_err : {A E : Type 0} (r : Result A E) (P : Type 0) → P → OnErr r P
on_err (Ok x) P w = tt
on_err (Err e) P w = w

-- at the gate that was before the store
pub at_some : {D E : Type 0} (seen : D → DiskSeen) (groups : Bool) (gate : BlankSeen D) (from : Stored D) (IsSo : Terms → CameSeen → Type 0)
    (r : Result CameSeen E) → gate.store ≡ from → IfOk r (IsSo (terms_of groups seen gate)) → IfOk r (λ came. AtSomeGate seen groups from (λ t. IsSo t came))
at_some seen groups gate from IsSo (Ok came) is w = record { gate = gate; from_is = is; serves = w }
at_some seen groups gate from IsSo (Err e) is w = tt
