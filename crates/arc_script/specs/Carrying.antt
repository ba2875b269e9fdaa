-- What carrying out one line of a script does: to the store, to the output, to the tally, and to the receiver's lines and desks.
use Rattle.std.specs.Prelude.{◌≡◌, ◌≤◌, ◌+◌, ℕ, List, [], ◌∷◌, false, Some, IfSome, length}
use Rattle.std.specs.Io.KnownBytes.{append_known}
use Rattle.std.specs.List.{list_any, slice_get}
use Rattle.alarm_rules.specs.Setups.{Setup}
use Rattle.arc_io.specs.Disks.{DiskSeen}
use Rattle.arc_io.specs.Seen.{PortSeen}
use Rattle.arc_text.specs.Lines.{is_feed, ended_lines, rest_of}
use Rattle.centre_rules.specs.History.{Entry}
use Rattle.centre_rules.specs.Summary.{Summary}
use Rattle.centre_store.specs.Stores.{Stored, HasFailed, StoreStands}
use Rattle.desk_session.specs.Desks as Desk
use Rattle.line_session.specs.Lines as Line
use Rattle.script_lines.specs.Lines.{Asked, spelling}
use Rattle.session_rules.specs.Inputs.{input_limit}
use Rattle.arc_script.specs.Fed.{clock_of, line_fed, desk_read}
use Rattle.arc_script.specs.Feeding.{TookAt}
use Rattle.arc_script.specs.Playing.{moment_at}
use Rattle.arc_script.specs.Standing.{IsReadable, LeavesOn}
use Rattle.arc_script.specs.Steps.{Step}
pub use Rattle.arc_script.specs.Tallies.{GrowsBy}
use Rattle.arc_script.specs.Tallies.{count_of, is_closed, is_repeat}
use Rattle.arc_script.specs.declared.script_end.Tally.{Tally}

-- The desk read these lines, and nothing of another, in at most so many bytes.
pub record HasRead (setup : Setup) (count : ℕ) (read : List (List ℕ)) (desk : Desk.DeskValue) : Type 0 where
  pub stream : List ℕ
  pub took : Desk.TookStream setup stream desk
  pub ended : ended_lines stream ≡ read
  pub none : rest_of stream ≡ []
  pub few : length stream ≤ count

-- the desk at this place did
abbrev pub ReadAt : Setup → ℕ → List (List ℕ) → List Desk.DeskValue → ℕ → Type 0
ReadAt setup count read desks place = IfSome (slice_get desks place) (HasRead setup count read)

-- By what was asked so far, in at most so many bytes of a script, each line took what it was fed, and each desk what it read. A byte
-- that a line was fed is two digits of the script.
pub record HaveTaken (setup : Setup) (count : ℕ) (before : List Asked) (lines : List Line.LineValue) (desks : List Desk.DeskValue)
    : Type 0 where
  pub fed : (i : ℕ) → TookAt (line_fed (i + 1) before) lines i
  pub few : (n : ℕ) → length (line_fed n before) + length (line_fed n before) ≤ count
  pub read : (i : ℕ) → ReadAt setup count (desk_read (i + 1) before) desks i

-- A line that asks for this is next, at this moment, behind so many bytes of a script: they and the line are no more than a session may
-- take.
pub record IsNext (setup : Setup) (moment count : ℕ) (before : List Asked) (asked : Asked) (lines : List Line.LineValue)
    (desks : List Desk.DeskValue) : Type 0 where
  pub set : moment_at (clock_of before) asked ≡ Some moment
  pub taken : HaveTaken setup count before lines desks
  pub within : count + length (spelling asked) ≤ input_limit
  pub unbroken : list_any is_feed (spelling asked) ≡ false

-- Behind it lines and desks took what it fed to them.
abbrev pub HaveTakenWith : Setup → ℕ → List Asked → Asked → List Line.LineValue → List Desk.DeskValue → Type 0
HaveTakenWith setup count before asked lines desks = HaveTaken setup (count + length (spelling asked)) (asked ∷ before) lines desks

-- one more step is counted
pub record CountsMore (s : Step) (t t' : Tally) : Type 0 where
  pub sent : GrowsBy s.sent t.sent t'.sent
  pub repeats : GrowsBy (count_of is_repeat s.entries) t.repeats t'.repeats
  pub closed : GrowsBy (count_of is_closed s.entries) t.closed t'.closed

-- and no more; what is told of the centre is taken at the end
pub record CountsStep (s : Step) (t t' : Tally) : Type 0 where
  pub more : CountsMore s t t'
  pub rest : t' ≡ record t { sent = t'.sent; repeats = t'.repeats; closed = t'.closed }

-- The line has its step, from a store and a history on: its output was put, it is counted, and the store, whose disk has not failed, stands
-- for the history behind it, and a crash leaves nothing past that.
pub record Carried {D : Type 0} (seen : D → DiskSeen)
    (base : Summary) (old : Stored D) (h : List Entry) (IsStep : List Entry → Step → Type 0) (number : ℕ) (asked : Asked) (t t' : Tally)
    (p p' : PortSeen) (s : Stored D) : Type 0 where
  pub step : Step
  pub history : List Entry
  pub number_is : step.number ≡ number
  pub asked_is : step.asked ≡ asked
  pub is : IsStep history step
  pub stands : StoreStands seen base s history
  pub readable : IsReadable base history
  pub left : LeavesOn seen base old s h history
  pub up : HasFailed seen s → ⊥
  pub text : p'.written ≡ append_known p.written step.text
  pub counts : CountsStep step t t'

-- The line was stopped: it came so far, that is counted, and the store stands for it, and a crash leaves nothing past it.
pub record Halted {D : Type 0} (seen : D → DiskSeen) (base : Summary) (old : Stored D) (h : List Entry)
    (CameTo : List Entry → Step → Type 0) (t t' : Tally) (s : Stored D) : Type 0 where
  pub partial : Step
  pub history : List Entry
  pub came : CameTo history partial
  pub stands : StoreStands seen base s history
  pub readable : IsReadable base history
  pub left : LeavesOn seen base old s h history
  pub counts : CountsStep partial t t'
