-- What a script has done between two of its lines, and what one line more does.
use Rattle.std.specs.Prelude.{◌≡◌, ◌≤◌, ◌+◌, ℕ, List, [], ◌∷◌, false, Option, Some, IfSome, length}
use Rattle.std.specs.Io.KnownBytes.{append_known}
use Rattle.std.specs.List.{list_any}
use Rattle.alarm_rules.specs.Setups.{meaning}
use Rattle.arc_io.specs.Disks.{DiskSeen}
use Rattle.arc_io.specs.Seen.{PortSeen}
use Rattle.arc_text.specs.Lines.{is_feed}
use Rattle.centre_core.specs.declared.hall.Stop.{Stop}
use Rattle.centre_rules.specs.Cases.{opened}
use Rattle.centre_rules.specs.History.{Entry, IsMoment, marks, recorded}
use Rattle.centre_rules.specs.Summary.{Summary}
use Rattle.centre_store.specs.Calls.{LeavesFrom}
use Rattle.centre_store.specs.Given.{HasRecorded, HoldsRecorded}
use Rattle.centre_store.specs.Stores.{Stored, HasFailed, StoreStands}
use Rattle.disk_journal.specs.declared.fault.OpenFault.{OpenFault}
use Rattle.script_lines.specs.Lines.{Asked, spelling}
use Rattle.session_rules.specs.Inputs.{input_limit}
use Rattle.arc_script.specs.Begun.{Begun}
use Rattle.arc_script.specs.Carrying.{CountsMore, HaveTaken, IsNext}
use Rattle.arc_script.specs.Causes.{HasShown, OrBegun, Submits}
use Rattle.arc_script.specs.Ends.{Tells, IsUnopened, CameFor, LeavesUpTo}
use Rattle.arc_script.specs.Fed.{clock_of}
use Rattle.centre_store.specs.StoreHalls.{is_told}
use Rattle.arc_script.specs.Standing.{IsReadable}
use Rattle.arc_script.specs.Steps.{Place, placed, Step, IsStepOf, AreSteps, base_after, place_after, output_of}
use Rattle.arc_script.specs.Tallies.{count_of, entries_of, is_closed, is_repeat, sent_by, told}
use Rattle.arc_script.specs.Texts.{AreOf, counted}
use Rattle.arc_script.specs.declared.script.Script.{Script}
use Rattle.arc_script.specs.declared.script_end.Tally.{Tally}

-- how many bytes lines have, without their ends
abbrev pub size_of : List (List ℕ) → ℕ
size_of [] = 0
size_of (line ∷ lines) = length line + size_of lines

-- a line that may stand behind these in a script: no line feed is in it, and all that was read is within the limit
pub record MayComeNext (lines : List (List ℕ)) (line : List ℕ) : Type 0 where
  pub within : length lines + size_of lines + length line ≤ input_limit
  pub unbroken : list_any is_feed line ≡ false

-- Once a clock was set it stays set.
abbrev pub HasClock : List Asked → Type 0
HasClock [] = Unit {0}
HasClock (asked ∷ before) = (moment : ℕ) × (clock_of (asked ∷ before) ≡ Some moment)

-- the clock is the one that was set last
pub record IsClock (clock : Option ℕ) (before : List Asked) : Type 0 where
  pub is : clock ≡ clock_of before
  pub moment : IfSome clock IsMoment
  pub once : HasClock before

-- a run may go on: the clock is at a moment, and from the first `T` on the setup is in force
pub record IsReady (clock : Option ℕ) (setup : List ℕ) (text : Option (List ℕ)) : Type 0 where
  pub moment : IfSome clock IsMoment
  pub set : IfSome clock (λ last. text ≡ Some setup)

-- The store stands for a history over a summary, from which it can go on. It was opened later, with these limits, over a disk that tells as
-- much, and of which a crash leaves all that the past has recorded, and nothing past the history.
pub record IsStoreSoFar {D : Type 0} (seen : D → DiskSeen) (b : Begun D) (base : Summary) (h : List Entry) (s : Stored D) : Type 0 where
  pub stands : StoreStands seen base s h
  pub readable : IsReadable base h
  pub tells : is_told (seen s.journal.disk).told ≡ is_told (seen b.disk).told
  pub limits_are : s.journal.limits ≡ b.limits
  pub later : (seen b.disk).faults ≤ s.at_open
  pub past_recorded : recorded b.past ≡ b.past
  pub left : Tells (seen b.disk) → LeavesFrom (seen b.opened).moment b.past s.at_open (seen s.journal.disk) base h

-- Where a line stands, behind so many bytes of what was asked so far: lines, desks, the clock and the store. Behind the first `T` its disk
-- has not failed.
pub record Between {D : Type 0} (seen : D → DiskSeen) (b : Begun D) (place : Place) (count : ℕ) (h : List Entry) (script : Script)
    (s : Stored D) : Type 0 where
  pub setup : script.setup ≡ place.setup
  pub limits : script.limits ≡ b.limits
  pub clock : IsClock script.clock place.asked
  pub set : IfSome script.clock (λ last. s.state.sum.text ≡ Some place.setup)
  pub taken : HaveTaken (meaning place.setup) count place.asked script.lines.items script.desks.items
  pub store : IsStoreSoFar seen b place.base h s
  pub up : IfSome script.clock (λ last. HasFailed seen s → ⊥)

-- what was counted over steps so far
pub record CountsSteps (steps : List Step) (t : Tally) : Type 0 where
  pub sent : t.sent ≡ told (sent_by steps)
  pub repeats : t.repeats ≡ told (count_of is_repeat (entries_of steps))
  pub closed : t.closed ≡ told (count_of is_closed (entries_of steps))

-- These lines were carried out, and no more: their steps, the history behind them, which the journal has, and their output.
pub record SoFar {D : Type 0} (seen : D → DiskSeen) (b : Begun D) (lines : List (List ℕ)) (script : Script) (s : Stored D) (p : PortSeen)
    : Type 0 where
  pub steps : List Step
  pub history : List Entry
  pub of : AreOf [] (counted lines) steps
  pub are : AreSteps (Tells (seen b.disk)) (placed b.base b.setup []) b.past history steps
  pub between : Between seen b (place_after (placed b.base b.setup []) steps) (size_of lines) history script s
  pub held : HoldsRecorded seen s.journal (base_after b.base steps) history
  pub counts : CountsSteps steps script.tally
  pub opened_before : script.opened_before ≡ opened b.base (marks b.base b.past)
  pub written : p.written ≡ append_known b.port.written (output_of steps)
  pub writes : b.port.write_faults ≤ p.write_faults

-- A line that asks for this was carried out: its step, and its output on a page.
pub record CarriedOut {D : Type 0} (seen : D → DiskSeen) (b : Begun D) (place : Place) (count number : ℕ) (h : List Entry)
    (asked : Asked)
    (t : Tally) (script : Script) (s : Stored D) (p p' : PortSeen) : Type 0 where
  pub step : Step
  pub history : List Entry
  pub number_is : step.number ≡ number
  pub asked_is : step.asked ≡ asked
  pub is : IsStepOf (Tells (seen b.disk)) place h history step asked
  pub text : p'.written ≡ append_known p.written step.text
  pub counts : CountsMore step t script.tally
  pub between : Between seen b (place_after place (step ∷ [])) (count + length (spelling asked)) history script s

-- It was stopped: how far it came, which is counted, and what the store shows.
pub record StoppedAt {D : Type 0} (seen : D → DiskSeen) (b : Begun D) (place : Place) (h : List Entry) (asked : Asked) (stop : Stop)
    (t t' : Tally) (s : Stored D) : Type 0 where
  pub waiting : List (List ℕ)
  pub partial : Step
  pub history : List Entry
  pub clock : ℕ
  pub came : CameFor stop (Tells (seen b.disk)) place waiting h history partial asked
  pub set : clock_of (asked ∷ place.asked) ≡ Some clock
  pub cause : HasShown seen partial.base s history stop clock (Submits s.state.sum.text place.setup place.asked clock waiting asked)
  pub stands : StoreStands seen partial.base s history
  pub limits_are : s.journal.limits ≡ b.limits
  pub later : (seen b.disk).faults ≤ s.at_open
  pub left : OrBegun (LeavesUpTo seen b s.journal.disk partial.base)
      (Submits s.state.sum.text place.setup place.asked clock waiting asked) s.state.sum.text partial.base place.setup clock history
  pub counts : CountsMore partial t t'

-- The journal was not opened again.
pub record ShutAt {D : Type 0} (seen : D → DiskSeen) (b : Begun D) (base : Summary) (h : List Entry) (fault : OpenFault) (disk : D)
    : Type 0 where
  pub closed : D
  pub later : (seen b.disk).faults ≤ (seen closed).faults
  pub area : HasRecorded (seen closed) base h
  pub unopened : IsUnopened fault (seen closed) (seen disk)
  pub left : LeavesUpTo seen b disk base h

-- behind each script that comes to this line it is carried out
abbrev pub Carries : {D : Type 0} → (D → DiskSeen) → ℕ → Asked → Script → Script → Stored D → Stored D → PortSeen → PortSeen → Type 0
Carries {D} seen moment asked script script' s s' p p' =
    (b : Begun D) (place : Place) (count number : ℕ) (h : List Entry) → Between seen b place count h script s
    → IsNext (meaning place.setup) moment count place.asked asked script.lines.items script.desks.items
    → HoldsRecorded seen s.journal place.base h
    → CarriedOut seen b place count number h asked script.tally script' s' p p'

-- or it is stopped
abbrev pub Stops : {D : Type 0} → (D → DiskSeen) → ℕ → Asked → Script → Script → Stored D → Stored D → Stop → Type 0
Stops {D} seen moment asked script script' s s' stop =
    (b : Begun D) (place : Place) (count : ℕ) (h : List Entry) → Between seen b place count h script s
    → IsNext (meaning place.setup) moment count place.asked asked script.lines.items script.desks.items
    → HoldsRecorded seen s.journal place.base h
    → StoppedAt seen b place h asked stop script.tally script'.tally s'

-- or the journal is not opened again
abbrev pub Shuts : {D : Type 0} → (D → DiskSeen) → ℕ → Asked → Script → Stored D → OpenFault → D → Type 0
Shuts {D} seen moment asked script s fault disk =
    (b : Begun D) (place : Place) (count : ℕ) (h : List Entry) → Between seen b place count h script s
    → IsNext (meaning place.setup) moment count place.asked asked script.lines.items script.desks.items
    → HoldsRecorded seen s.journal place.base h
    → ShutAt seen b place.base h fault disk
