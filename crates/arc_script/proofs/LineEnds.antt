-- A line of a script that was carried out and written, or that ended its script.
use Rattle.std.proofs.Common.{◌≡◌, ◌≤◌, ◌+◌, ◌++◌, ◌∷◌, ℕ, List, [], false, Option, Some, None, Result, Ok, Err, length, refl, sym, ap, subst, ◌∙◌, arith}
use Rattle.std.specs.Prelude.{IfSome}
use Rattle.alarm_rules.specs.Setups.{meaning}
use Rattle.arc_io.specs.Disks.{DiskSeen}
use Rattle.arc_io.specs.Seen.{PortSeen}
use Rattle.arc_io.specs.Told.{Puts}
use Rattle.centre_core.specs.declared.hall.Stop.{Stop}
use Rattle.centre_core.specs.declared.hall.Stop.TheVariants.{Memory}
use Rattle.centre_store.specs.Stores.{Stored, HasFailed}
use Rattle.disk_journal.specs.declared.fault.OpenFault.{OpenFault}
use Rattle.script_lines.specs.Lines.{Asked, Reopen, Asks, spelling}
use Rattle.session_rules.specs.Inputs.{input_limit}
use Rattle.arc_script.specs.Begun.{Begun}
use Rattle.arc_script.specs.Between.{CarriedOut, Carries, CountsSteps, IsClock, MayComeNext, Shuts, SoFar, Stops, size_of}
use Rattle.arc_script.specs.Carrying.{HaveTaken, IsNext}
use Rattle.arc_script.specs.Fed.{clock_of}
use Rattle.arc_script.specs.Halting.{Halts, closing}
use Rattle.arc_script.specs.Leaving.{IsClosed}
use Rattle.arc_script.specs.Playing.{IsAskedAt, moment_at}
use Rattle.arc_script.specs.Steps.{asked_after}
use Rattle.arc_script.specs.Texts.{IsPlayable, is_passed, line_limit}
use Rattle.arc_script.specs.declared.script.Script.{Script}
use Rattle.arc_script.specs.declared.script_end.ScriptEnd.{ScriptEnd}
use Rattle.arc_script.specs.declared.script_end.ScriptEnd.TheVariants.{BadScript, Refused, Stopped, WriteFault}
use Rattle.arc_script.specs.declared.script_end.Tally.{Tally}
use Rattle.arc_script.proofs.Behind.{end_of}
use Rattle.arc_script.proofs.Asking.{asks_played, next_line, playable}
use Rattle.arc_script.proofs.Ended.{bad}
use Rattle.arc_script.proofs.Further.{cut_off, further, shut, stopped}
use Rattle.arc_script.proofs.Wanting.{nothing_done}

-- behind all lines so far that ends the script
abbrev pub HaltsHere : {D : Type 0} → (D → DiskSeen) → Asked → Script → Stored D → PortSeen → ScriptEnd → PortSeen → D → Tally → Type 0
HaltsHere {D} seen a script s p end p' disk tally =
    (b : Begun D) (lines more : List (List ℕ)) (typed : List ℕ) → Asks typed a → MayComeNext lines typed → SoFar seen b lines script s p
    → Halts seen b lines (lines ++ typed ∷ more) end p' disk tally

module _ {D : Type 0} (seen : D → DiskSeen) (script : Script) (s : Stored D) (p : PortSeen) (a : Asked) (moment : ℕ)
    (short : length (spelling a) ≤ line_limit) (set : moment_at script.clock a ≡ Some moment) where
  playable_here : (b : Begun D) (lines : List (List ℕ)) (typed : List ℕ) → Asks typed a → (so : SoFar seen b lines script s p)
      → IsPlayable (asked_after [] so.steps) typed a
  playable_here b lines typed asks so = playable script.clock (asked_after [] so.steps) typed a moment so.between.clock asks short set

  next_here : (b : Begun D) (lines : List (List ℕ)) (typed : List ℕ) → Asks typed a → MayComeNext lines typed → (so : SoFar seen b lines script s p)
      → IsNext (meaning b.setup) moment (size_of lines) (asked_after [] so.steps) a script.lines.items script.desks.items
  next_here b lines typed asks may so = next_line seen b lines script s p typed a moment so asks may set

  -- memory was wanted before anything was done
  pub wanted_halts : (disk : D) (tally : Tally) → IsClosed script s disk tally → HaltsHere seen a script s p (Stopped Memory) p disk tally
  wanted_halts disk tally closed = λ b lines more typed asks may so.
      let there : moment_at (clock_of (asked_after [] so.steps)) a ≡ Some moment =
      ap (λ (c : Option ℕ). moment_at c a) (sym so.between.clock.is) ∙ set in
      stopped seen b lines script s p so typed a (asks_played typed a asks) (playable_here b lines typed asks so) more Memory script s disk tally
      (nothing_done seen b (end_of b so.steps) (size_of lines) so.history a script s moment script.tally there so.between so.held) refl
      closed.disk_is closed.tally_is

  -- it was stopped
  pub stop_halts : (stop : Stop) (script' : Script) (s' : Stored D) (disk : D) (tally : Tally) → Stops seen moment a script script' s s' stop
      → script'.opened_before ≡ script.opened_before → IsClosed script' s' disk tally → HaltsHere seen a script s p (Stopped stop) p disk tally
  stop_halts stop script' s' disk tally stops kept closed = λ b lines more typed asks may so.
      stopped seen b lines script s p so typed a (asks_played typed a asks) (playable_here b lines typed asks so) more stop script' s' disk tally
      (stops b (end_of b so.steps) (size_of lines) so.history so.between (next_here b lines typed asks may so) so.held) kept
      closed.disk_is closed.tally_is

  -- the journal was not opened again
  pub shut_halts : (fault : OpenFault) (disk : D) (tally : Tally) → a ≡ Reopen → Shuts seen moment a script s fault disk
      → tally ≡ closing script.tally script.opened_before s.state.sum → HaltsHere seen a script s p (Refused fault) p disk tally
  shut_halts fault disk tally is shuts tally_is = λ b lines more typed asks may so.
      shut seen b lines script s p so typed a (asks_played typed a asks) (playable_here b lines typed asks so) more fault disk tally is
      (shuts b (end_of b so.steps) (size_of lines) so.history so.between (next_here b lines typed asks may so) so.held) tally_is

  -- It was carried out, with this page.
  module _ (script' : Script) (s' : Stored D) (q q' : PortSeen) (text : List ℕ) (none : q.written ≡ Some []) (page : q'.written ≡ Some text)
      (kept : script'.opened_before ≡ script.opened_before)
      (carries : Carries seen moment a script script' s s' q q') where
    out_here : (b : Begun D) (lines : List (List ℕ)) (typed : List ℕ) → Asks typed a → MayComeNext lines typed → (so : SoFar seen b lines script s p)
        → CarriedOut seen b (end_of b so.steps) (size_of lines) (1 + length lines) so.history a script.tally script' s' q q'
    out_here b lines typed asks may so =
        carries b (end_of b so.steps) (size_of lines) (1 + length lines) so.history so.between (next_here b lines typed asks may so) so.held

    -- and that was written
    pub goes_further : {T E : Type 0} (p' : PortSeen) (done : T) (r : Result T E) → r ≡ Ok done → Puts p p' r text
        → (b : Begun D) (lines : List (List ℕ)) (typed : List ℕ) → Asks typed a → MayComeNext lines typed → SoFar seen b lines script s p
        → SoFar seen b (lines ++ typed ∷ []) script' s' p'
    goes_further {T} {E} p' done r is puts b lines typed asks may so =
        let wrote = subst (λ (k : Result T E). Puts p p' k text) is puts in
        further seen b lines script s p so typed a (asks_played typed a asks) (playable_here b lines typed asks so) script' s' q q' none
        (out_here b lines typed asks may so) kept p' text page wrote.taken wrote.cause.later asks.spelled

    -- or it was cut off
    pub cut_halts : {T E : Type 0} (p' : PortSeen) (fault : E) (r : Result T E) (disk : D) (tally : Tally) → r ≡ Err fault → Puts p p' r text
        → IsClosed script' s' disk tally → HaltsHere seen a script s p WriteFault p' disk tally
    cut_halts {T} {E} p' fault r disk tally is puts closed = λ b lines more typed asks may so.
        let wrote = subst (λ (k : Result T E). Puts p p' k text) is puts in
        cut_off seen b lines script s p so typed a (asks_played typed a asks) (playable_here b lines typed asks so) script' s' q q' none
        (out_here b lines typed asks may so) kept more p' text wrote.taken.0 disk tally page wrote.taken.1 wrote.taken.2 wrote.cause.failed
        closed.disk_is closed.tally_is

-- all of a script but the number of its last line
pub record IsAlike (script script' : Script) : Type 0 where
  pub setup : script'.setup ≡ script.setup
  pub limits : script'.limits ≡ script.limits
  pub lines : script'.lines ≡ script.lines
  pub desks : script'.desks ≡ script.desks
  pub clock : script'.clock ≡ script.clock
  pub opened_before : script'.opened_before ≡ script.opened_before
  pub tally : script'.tally ≡ script.tally

-- that number is of no matter for what was done
pub renumbered : {D : Type 0} (seen : D → DiskSeen) (b : Begun D) (lines : List (List ℕ)) (script script' : Script) (s : Stored D) (p : PortSeen)
    → IsAlike script script' → SoFar seen b lines script s p → SoFar seen b lines script' s p
renumbered seen b lines script script' s p same so =
    let between = so.between in
    let asked = asked_after [] so.steps in
    record {
      steps = so.steps;
      history = so.history;
      of = so.of;
      are = so.are;
      between = record {
        setup = same.setup ∙ between.setup;
        limits = same.limits ∙ between.limits;
        clock = subst (λ (c : Option ℕ). IsClock c asked) (sym same.clock) between.clock;
        set = subst (λ (c : Option ℕ). IfSome c (λ last. s.state.sum.text ≡ Some b.setup)) (sym same.clock) between.set;
        taken = subst (λ l. HaveTaken (meaning b.setup) (size_of lines) asked l.items script'.desks.items) (sym same.lines)
            (subst (λ d. HaveTaken (meaning b.setup) (size_of lines) asked script.lines.items d.items) (sym same.desks) between.taken);
        store = between.store;
        up = subst (λ (c : Option ℕ). IfSome c (λ last. HasFailed seen s → ⊥)) (sym same.clock) between.up;
      };
      held = so.held;
      counts = subst (λ (t : Tally). CountsSteps so.steps t) (sym same.tally) so.counts;
      opened_before = same.opened_before ∙ so.opened_before;
      written = so.written;
      writes = so.writes;
    }

-- a line that asks for nothing
pub bad_halts : {D : Type 0} (seen : D → DiskSeen) (b : Begun D) (lines more : List (List ℕ)) (typed : List ℕ) (script : Script) (number : ℕ)
    (s : Stored D) (p : PortSeen) (end : ScriptEnd) (disk : D) (tally : Tally) → MayComeNext lines typed → SoFar seen b lines script s p
    → script.number ≡ length lines → (script.number ≤ input_limit → number ≡ script.number + 1) → is_passed typed ≡ false
    → IsAskedAt typed script.clock None → end ≡ BadScript number → IsClosed (record script { number = number }) s disk tally
    → Halts seen b lines (lines ++ typed ∷ more) end p disk tally
bad_halts seen b lines more typed script number s p end disk tally may so count grows other none ends closed =
    let within = may.within in
    let next = grows (omega (arith, within, count)) in
    subst (λ (e : ScriptEnd). Halts seen b lines (lines ++ typed ∷ more) e p disk tally) (sym ends)
    (bad seen b lines script s p so disk tally closed.disk_is closed.tally_is typed more number other (omega (arith, next, count)) none)
