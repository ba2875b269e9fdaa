-- What the line `X` leaves: all was made anew over what the journal keeps of a history, and a run began again, or was stopped.
use Rattle.std.proofs.Common.{◌≡◌, ◌≤◌, ◌+◌, ◌∷◌, ℕ, List, [], Option, Some, None, Result, Ok, Err, OnOk, IfErr, IfSome, length, inl, refl, sym, ap, subst, ◌∙◌, arith}
use Rattle.std.specs.Prelude.{All, slice_get}
use Rattle.std.specs.Io.KnownBytes.{append_known}
use Rattle.alarm_rules.specs.Setups.{meaning}
use Rattle.arc_io.specs.Areas.{Areas}
use Rattle.arc_io.specs.Disks.{DiskSeen}
use Rattle.arc_io.specs.Crashes.{Becomes, IsQuiet, LeavesOnly}
use Rattle.arc_io.specs.Seen.{PortSeen}
use Rattle.centre_core.specs.declared.hall.Stop.{Stop}
use Rattle.centre_rules.specs.History.{Entry, IsMoment, recorded}
use Rattle.centre_rules.specs.Summary.{Summary}
use Rattle.centre_store.proofs.Entered.{held as has_recorded}
use Rattle.centre_store.specs.Begins.{begun_after, event_of_begin}
use Rattle.centre_store.proofs.Holding.{recorded_there}
use Rattle.centre_store.specs.Calls.{LeavesFrom}
use Rattle.centre_store.specs.Given.{GoesOn, HoldsRecorded}
use Rattle.centre_store.specs.Openings.{IsOpened, IsRefused}
use Rattle.centre_store.specs.Stores.{HasFailed, Stored, StoreStands}
use Rattle.desk_session.specs.Desks as Desk
use Rattle.disk_journal.specs.Faults.{HasCounts, IsOfContent}
use Rattle.disk_journal.specs.declared.journal.OpenRefused.{OpenRefused}
use Rattle.line_session.specs.Lines.{LineValue}
use Rattle.script_lines.specs.Lines.{Asked, Reopen, spelling}
use Rattle.arc_script.specs.Begun.{Begun}
use Rattle.arc_script.specs.Between.{Between, CarriedOut, ShutAt, StoppedAt}
use Rattle.arc_script.specs.Carrying.{CountsMore, HasRead, HaveTaken}
use Rattle.arc_script.specs.Ends.{Tells, LeavesUpTo}
use Rattle.arc_script.specs.Feeding.{AreNew}
use Rattle.arc_script.specs.Fed.{clock_of}
use Rattle.arc_script.specs.Halting.{closing}
use Rattle.arc_script.specs.Pages.{counted_line}
use Rattle.arc_script.specs.Playing.{AgainStops, IsNewDesk}
use Rattle.centre_store.specs.StoreHalls.{is_told}
use Rattle.arc_script.specs.Standing.{LeavesOn}
use Rattle.arc_script.specs.Steps.{Place, ReopenedBy, Step}
use Rattle.arc_script.specs.Tallies.{count_of, is_closed, is_repeat}
use Rattle.arc_script.specs.declared.script.Script.{Script}
use Rattle.arc_script.specs.declared.script_end.Tally.{Tally}
use Rattle.arc_script.proofs.Begun.{Adds, adds_begun, adds_again, readable_begun}
use Rattle.arc_script.proofs.Counts.{grows_none}
use Rattle.arc_script.proofs.Ended.{recorded_in}
use Rattle.arc_script.proofs.Left.{IsOpening, left_opening, left_recorded, left_since, or_begun_to}
use Rattle.arc_script.proofs.Opening.{taken_none}
use Rattle.arc_script.proofs.Reopening.{GoesOnFrom, goes_on_from, told_some}
use Rattle.centre_store.proofs.Readable.{becomes_told}

-- Lines and desks that were made anew, behind more of the script.

read_more : (setup : List ℕ) (desk : Option Desk.DeskValue) (few more : ℕ) → few ≤ more → IfSome desk (HasRead (meaning setup) few [])
    → IfSome desk (HasRead (meaning setup) more [])
read_more setup None few more less read = tt
read_more setup (Some desk) few more less read = record {
  stream = read.stream;
  took = read.took;
  ended = read.ended;
  none = read.none;
  few = (let short = read.few in omega (arith, short, less));
}

taken_anew : (setup : List ℕ) (count : ℕ) (before : List Asked) (lines : List LineValue) (desks : List Desk.DeskValue)
    → AreNew lines → All IsNewDesk desks → HaveTaken (meaning setup) count (Reopen ∷ before) lines desks
taken_anew setup count before lines desks new_lines new_desks =
    let none = taken_none setup lines desks new_lines new_desks in
    record {
      fed = none.fed;
      few = λ n. omega arith;
      read = λ i. read_more setup (slice_get desks i) 0 count (omega arith) (none.read i);
    }

-- The store was closed, opened again, and a run was to begin: the script and the store are as they were then, in all that is not said of
-- that run.
pub record IsAnew {D : Type 0} (seen : D → DiskSeen) (script script' : Script) (s mid s' : Stored D) : Type 0 where
  pub opened : IsOpened seen s.journal.disk mid
  pub opening : IsOpening (seen s.journal.disk) (seen mid.journal.disk)
  pub setup : script'.setup ≡ script.setup
  pub limits : script'.limits ≡ script.limits
  pub clock : script'.clock ≡ script.clock
  pub lines : AreNew script'.lines.items
  pub desks : All IsNewDesk script'.desks.items
  pub tally : script'.tally ≡ closing script.tally script.opened_before s.state.sum
  pub tells : is_told (seen s'.journal.disk).told ≡ is_told (seen s.journal.disk).told
  pub journal : s'.journal.limits ≡ script.limits
  pub later : s.at_open ≤ s'.at_open
  pub still : (HasFailed seen s → ⊥) → HasFailed seen mid → ⊥

pub made_anew : {D : Type 0} (seen : D → DiskSeen) (script closed script' : Script) (s mid s' : Stored D) (disk : D) → s.at_open ≤ (seen s.journal.disk).faults
    → disk ≡ s.journal.disk → closed ≡ record script { tally = closing script.tally script.opened_before s.state.sum }
    → IsOpened seen disk mid → IsOpening (seen disk) (seen mid.journal.disk) → Becomes (seen disk).told (seen mid.journal.disk).told GoesOn
    → mid.journal.limits ≡ closed.limits → mid.at_open ≡ (seen mid.journal.disk).faults → (seen mid.journal.disk).faults ≡ (seen disk).faults
    → AreNew script'.lines.items → All IsNewDesk script'.desks.items
    → script' ≡ record closed {
      lines = script'.lines;
      desks = script'.desks;
      sixteen = script'.sixteen;
      eight = script'.eight;
    }
    → is_told (seen s'.journal.disk).told ≡ is_told (seen mid.journal.disk).told → s'.at_open ≡ mid.at_open → s'.journal.limits ≡ mid.journal.limits
    → IsAnew seen script script' s mid s'
made_anew {D = D} seen script closed script' s mid s' disk before disk_is closed_is opened opening goes limits opened_at met_none lines desks rest tells at_open journal
    = record {
      opened = subst (λ d. IsOpened seen d mid) disk_is opened;
      opening = subst (λ (d : D). IsOpening (seen d) (seen mid.journal.disk)) disk_is opening;
      setup = ap (λ (k : Script). k.setup) rest ∙ ap (λ (k : Script). k.setup) closed_is;
      limits = ap (λ (k : Script). k.limits) rest ∙ ap (λ (k : Script). k.limits) closed_is;
      clock = ap (λ (k : Script). k.clock) rest ∙ ap (λ (k : Script). k.clock) closed_is;
      lines = lines;
      desks = desks;
      tally = ap (λ (k : Script). k.tally) rest ∙ ap (λ (k : Script). k.tally) closed_is;
      tells = tells ∙ becomes_told (seen disk).told (seen mid.journal.disk).told GoesOn goes ∙ ap (λ d. is_told (seen d).told) disk_is;
      journal = journal ∙ limits ∙ ap (λ (k : Script). k.limits) closed_is;
      later = (let same : (seen disk).faults ≡ (seen s.journal.disk).faults = ap (λ (d : D). (seen d).faults) disk_is in omega (arith, before, same, met_none, opened_at, at_open));
      still = λ up failed.
          let same : (seen disk).faults ≡ (seen s.journal.disk).faults = ap (λ (d : D). (seen d).faults) disk_is in
          up (omega (arith, before, same, met_none, opened_at, failed));
    }

-- A store that is to be closed and opened again.
module _ {D : Type 0} (seen : D → DiskSeen) (script : Script) (s : Stored D) (b : Begun D) (place : Place) (count : ℕ) (h : List Entry)
    (between : Between seen b place count h script s) where
  up_before : (moment : ℕ) → clock_of place.asked ≡ Some moment → HasFailed seen s → ⊥
  up_before moment set = subst (λ (c : Option ℕ). IfSome c (λ last. HasFailed seen s → ⊥)) (between.clock.is ∙ set) between.up

  -- what a crash leaves of it behind the opening, whether that succeeds or not
  left_again : HoldsRecorded seen s.journal place.base h → (moment : ℕ) → clock_of place.asked ≡ Some moment → (faults : ℕ) (disk : D)
      → IsOpening (seen s.journal.disk) (seen disk) → Tells (seen b.disk)
      → LeavesFrom (seen b.opened).moment b.past faults (seen disk) place.base h
  left_again held moment set faults disk opening told =
      left_opening (seen b.opened).moment b.past s.at_open faults place.base h (seen s.journal.disk) (seen disk)
      (recorded_there seen s.journal place.base h held) (told_some (seen b.disk) (seen s.journal.disk) told between.store.tells) opening
      (up_before moment set) (between.store.left told)

module _ {D : Type 0} (seen : D → DiskSeen) (script script' : Script) (s mid s' : Stored D) (anew : IsAnew seen script script' s mid s') (moment : ℕ)
    (b : Begun D) (place : Place) (count : ℕ) (h : List Entry) (between : Between seen b place count h script s)
    (held : HoldsRecorded seen s.journal place.base h) (set : clock_of place.asked ≡ Some moment) where
  from : GoesOnFrom seen (Tells (seen b.disk)) place.base h mid
  from = goes_on_from seen b place.base h s mid between.store.stands.centre.legal between.store.readable between.store.tells held anew.opened

  setup_is : script'.setup ≡ place.setup
  setup_is = anew.setup ∙ between.setup

  -- the disk had not failed before, and no opening that answers Ok meets a fault
  opened_up : HasFailed seen mid → ⊥
  opened_up = anew.still (up_before seen script s b place count h between moment set)

  -- what a crash leaves of the store that was opened
  left_anew : Tells (seen b.disk) → LeavesFrom (seen b.opened).moment b.past mid.at_open (seen mid.journal.disk) from.anew from.kept
  left_anew told =
      let t = (seen b.opened).moment in
      let opened = left_again seen script s b place count h between held moment set mid.at_open mid.journal.disk anew.opening told in
      let kept = left_recorded t b.past mid.at_open (seen mid.journal.disk) place.base h between.store.past_recorded opened_up opened in
      let same = from.keeps.same told in
      subst (λ (base : Summary). LeavesFrom t b.past mid.at_open (seen mid.journal.disk) base from.kept) (sym same.0)
      (subst (λ (l : List Entry). LeavesFrom t b.past mid.at_open (seen mid.journal.disk) place.base l) (sym same.1) kept)

  held_there : HoldsRecorded seen mid.journal from.anew from.kept
  held_there = has_recorded seen from.anew mid from.kept opened_up from.stands

  limits_are : s'.journal.limits ≡ b.limits
  limits_are = anew.journal ∙ between.limits

  later : (seen b.disk).faults ≤ s'.at_open
  later = let first = between.store.later in let second = anew.later in omega (arith, first, second)

  -- and of it behind more
  left_further : (x : List Entry) → LeavesOn seen from.anew mid s' from.kept x → LeavesUpTo seen b s'.journal.disk from.anew x
  left_further x leaves told =
      left_since (seen b.opened).moment b.past (seen b.disk).faults s'.at_open (seen s'.journal.disk) from.anew x later
      (leaves (seen b.opened).moment b.past (left_anew told))

  abbrev step_of : ℕ → List Entry → List ℕ → Step
  step_of number entries text = record { number = number; asked = Reopen; entries = entries; base = from.anew; sent = 0; text = text }

  counts : (number : ℕ) (x : List Entry) (text : List ℕ) (adds : Adds from.kept x)
      → CountsMore (step_of number adds.entries text) script.tally script'.tally
  counts number x text adds =
      subst (λ (t : Tally). CountsMore (step_of number adds.entries text) script.tally t) (sym anew.tally) (record {
        sent = grows_none 0 script.tally.sent refl;
        repeats = grows_none (count_of is_repeat adds.entries) script.tally.repeats adds.repeats;
        closed = grows_none (count_of is_closed adds.entries) script.tally.closed adds.closed;
      })

  reopened : {IsBegun : Summary → List ℕ → ℕ → List Entry → List Entry → Type 0} (number : ℕ) (text : List ℕ) (x : List Entry) (adds : Adds from.kept x)
      → IsBegun from.anew place.setup moment from.kept x
      → ReopenedBy (Tells (seen b.disk)) place IsBegun h x (step_of number adds.entries text)
  reopened number text x adds came = record {
    kept = from.kept;
    keeps = from.keeps;
    clock = moment;
    set = set;
    until = came;
    by = record { added = adds.is; base = refl; sent = refl };
  }

  carried : (number : ℕ) (p p' : PortSeen) → IsMoment moment
      → StoreStands seen from.anew s' (begun_after from.anew from.kept place.setup moment)
      → LeavesOn seen from.anew mid s' from.kept (begun_after from.anew from.kept place.setup moment)
      → s'.state.sum.text ≡ Some place.setup → (HasFailed seen s' → ⊥) → p'.written ≡ append_known p.written (counted_line s'.state.sum.recorded)
      → CarriedOut seen b place count number h Reopen script.tally script' s' p p'
  carried number p p' fits stands left text up put =
      let x = begun_after from.anew from.kept place.setup moment in
      let adds = adds_begun from.anew place.setup moment from.kept in
      let count_is : s'.state.sum.recorded ≡ from.anew.recorded + length (recorded x) = stands.centre.recorded in
      let said = counted_line (from.anew.recorded + length (recorded x)) in
      record {
        step = step_of number adds.entries said;
        history = x;
        number_is = refl;
        asked_is = refl;
        is = record { whole = reopened number said x adds refl; text = refl };
        text = put ∙ ap (λ (n : ℕ). append_known p.written (counted_line n)) count_is;
        counts = counts number x said adds;
        between = record {
          setup = setup_is;
          limits = anew.limits ∙ between.limits;
          clock = record {
            is = anew.clock ∙ between.clock.is;
            moment = subst (λ (c : Option ℕ). IfSome c IsMoment) (sym anew.clock) between.clock.moment;
            once = (moment, set);
          };
          set = subst (λ (c : Option ℕ). IfSome c (λ last. s'.state.sum.text ≡ Some place.setup))
              (sym (anew.clock ∙ between.clock.is ∙ set)) text;
          taken = taken_anew place.setup (count + length (spelling Reopen)) place.asked script'.lines.items script'.desks.items anew.lines anew.desks;
          store = record {
            stands = stands;
            readable = readable_begun from.anew place.setup moment from.kept fits stands.centre.legal from.readable;
            tells = anew.tells ∙ between.store.tells;
            limits_are = limits_are;
            later = later;
            past_recorded = between.store.past_recorded;
            left = λ told. left (seen b.opened).moment b.past (left_anew told);
          };
          up = subst (λ (c : Option ℕ). IfSome c (λ last. HasFailed seen s' → ⊥)) (sym (anew.clock ∙ between.clock.is ∙ set)) up;
        };
      }

  stopped : (stop : Stop) → AgainStops seen from.anew place.setup moment from.kept stop mid s'
      → StoppedAt seen b place h Reopen stop script.tally script'.tally s'
  stopped stop at =
      let x = at.history in
      let adds = adds_again stop from.anew place.setup moment from.kept x at.came in
      record {
        waiting = [];
        partial = step_of 0 adds.entries [];
        history = x;
        clock = moment;
        came = inl (reopened 0 [] x adds at.came);
        set = set;
        cause = at.cause;
        stands = at.stands;
        limits_are = limits_are;
        later = later;
        left = or_begun_to (LeavesOn seen from.anew mid s' from.kept) (LeavesUpTo seen b s'.journal.disk from.anew)
            (λ event. event ≡ event_of_begin s'.state.sum.text place.setup) s'.state.sum.text from.anew place.setup moment x left_further at.left;
        counts = counts 0 x [] adds;
      }

-- by what beginning the run answered
module _ {D : Type 0} (seen : D → DiskSeen) (script script' : Script) (s mid s' : Stored D) (anew : IsAnew seen script script' s mid s') (moment : ℕ) where
  pub carried_on : (r : Result (Unit {0}) Stop) (p p' : PortSeen) → IsMoment moment
      → OnOk r ((base : Summary) (k : List Entry) → StoreStands seen base mid k
      → StoreStands seen base s' (begun_after base k script'.setup moment))
      → OnOk r ((base : Summary) (k : List Entry) → StoreStands seen base mid k
      → LeavesOn seen base mid s' k (begun_after base k script'.setup moment))
      → OnOk r (s'.state.sum.text ≡ Some script'.setup) → OnOk r (HasFailed seen s' → ⊥)
      → OnOk r (p'.written ≡ append_known p.written (counted_line s'.state.sum.recorded))
      → OnOk r ((b : Begun D) (place : Place) (count number : ℕ) (h : List Entry) → Between seen b place count h script s
      → HoldsRecorded seen s.journal place.base h → clock_of place.asked ≡ Some moment
      → CarriedOut seen b place count number h Reopen script.tally script' s' p p')
  carried_on (Ok done) p p' fits begun left text up put = λ b place count number h between held set.
      let same = anew.setup ∙ between.setup in
      let on = from seen script script' s mid s' anew moment b place count h between held set in
      carried seen script script' s mid s' anew moment b place count h between held set number p p' fits
      (subst (λ (l : List ℕ). StoreStands seen on.anew s' (begun_after on.anew on.kept l moment)) same (begun on.anew on.kept on.stands))
      (subst (λ (l : List ℕ). LeavesOn seen on.anew mid s' on.kept (begun_after on.anew on.kept l moment)) same (left on.anew on.kept on.stands))
      (text ∙ ap Some same) up put
  carried_on (Err stop) p p' fits begun left text up put = tt

  pub stopped_on : (r : Result (Unit {0}) Stop)
      → IfErr r (λ stop. (base : Summary) (k : List Entry) → StoreStands seen base mid k → HoldsRecorded seen mid.journal base k
      → AgainStops seen base script'.setup moment k stop mid s')
      → IfErr r (λ stop. (b : Begun D) (place : Place) (count : ℕ) (h : List Entry) → Between seen b place count h script s
      → HoldsRecorded seen s.journal place.base h → clock_of place.asked ≡ Some moment
      → StoppedAt seen b place h Reopen stop script.tally script'.tally s')
  stopped_on (Ok done) stops = tt
  stopped_on (Err stop) stops = λ b place count h between held set.
      let same = anew.setup ∙ between.setup in
      let on = from seen script script' s mid s' anew moment b place count h between held set in
      let there = held_there seen script script' s mid s' anew moment b place count h between held set in
      stopped seen script script' s mid s' anew moment b place count h between held set stop
      (subst (λ (l : List ℕ). AgainStops seen on.anew l moment on.kept stop mid s') same (stops on.anew on.kept on.stands there))

-- The journal was not opened again.
shut : {D : Type 0} (seen : D → DiskSeen) (script : Script) (s : Stored D) (r : OpenRefused D) → s.at_open ≤ (seen s.journal.disk).faults
    → IfSome (seen s.journal.disk).told (IsRefused r.fault) → HasCounts r.fault (seen s.journal.disk).faults (seen r.disk).faults
    → Becomes (seen s.journal.disk).told (seen r.disk).told GoesOn
    → LeavesOnly (seen s.journal.disk) (seen r.disk) (λ c. (d : Areas) × (seen s.journal.disk).may_leave d × GoesOn d c)
    → (IsOfContent r.fault → IsQuiet (seen s.journal.disk) (seen r.disk)) → IsOpening (seen s.journal.disk) (seen r.disk)
    → (moment : ℕ) (b : Begun D) (place : Place) (count : ℕ) (h : List Entry) → Between seen b place count h script s
    → HoldsRecorded seen s.journal place.base h → clock_of place.asked ≡ Some moment → ShutAt seen b place.base h r.fault r.disk
shut seen script s r later shown counts told any_moment unwritten opening moment b place count h between held set = record {
  closed = s.journal.disk;
  later = (let first = between.store.later in omega (arith, first, later));
  area = recorded_in seen place.base s h s.journal.disk held refl;
  unopened = record { shown = shown; counts = counts; told = told; any_moment = any_moment; unwritten = unwritten };
  left = left_again seen script s b place count h between held moment set (seen b.disk).faults r.disk opening;
}

pub shut_on : {A D : Type 0} (seen : D → DiskSeen) (script : Script) (s : Stored D) (disk : D) (refused : OpenRefused D) (r : Result A (OpenRefused D))
    → r ≡ Err refused → disk ≡ s.journal.disk → s.at_open ≤ (seen s.journal.disk).faults
    → IfSome (seen disk).told (IsRefused refused.fault) → HasCounts refused.fault (seen disk).faults (seen refused.disk).faults
    → Becomes (seen disk).told (seen refused.disk).told GoesOn
    → LeavesOnly (seen disk) (seen refused.disk) (λ c. (d : Areas) × (seen disk).may_leave d × GoesOn d c)
    → (IsOfContent refused.fault → IsQuiet (seen disk) (seen refused.disk)) → IsOpening (seen disk) (seen refused.disk) → (moment : ℕ)
    → IfErr r (λ o. (b : Begun D) (place : Place) (count : ℕ) (h : List Entry) → Between seen b place count h script s
    → HoldsRecorded seen s.journal place.base h → clock_of place.asked ≡ Some moment → ShutAt seen b place.base h o.fault o.disk)
shut_on {A} {D} seen script s disk refused r is disk_is later shown counts told any_moment unwritten opening moment =
    let at = λ (o : OpenRefused D). (b : Begun D) (place : Place) (count : ℕ) (h : List Entry) → Between seen b place count h script s
    → HoldsRecorded seen s.journal place.base h → clock_of place.asked ≡ Some moment → ShutAt seen b place.base h o.fault o.disk in
    subst (λ (q : Result A (OpenRefused D)). IfErr q at) (sym is)
    (shut seen script s refused later
    (subst (λ d. IfSome (seen d).told (IsRefused refused.fault)) disk_is shown)
    (subst (λ d. HasCounts refused.fault (seen d).faults (seen refused.disk).faults) disk_is counts)
    (subst (λ d. Becomes (seen d).told (seen refused.disk).told GoesOn) disk_is told)
    (subst (λ d. LeavesOnly (seen d) (seen refused.disk) (λ c. (e : Areas) × (seen d).may_leave e × GoesOn e c)) disk_is any_moment)
    (subst (λ d. IsOfContent refused.fault → IsQuiet (seen d) (seen refused.disk)) disk_is unwritten)
    (subst (λ (d : D). IsOpening (seen d) (seen refused.disk)) disk_is opening) moment)
