-- How a script ended, and what it did.
use Rattle.std.specs.Prelude.{◌≡◌, ◌<◌, ◌≤◌, ◌⊎◌, ◌++◌, ℕ, List, [], ◌∷◌, true, Option, Some, None, IfSome, take, length}
use Rattle.std.specs.Io.KnownBytes.{prepend_known, append_known, IsAtEnd}
use Rattle.arc_data.specs.Digits.{bytes_spelled}
use Rattle.arc_io.specs.Areas.{Areas}
use Rattle.arc_io.specs.Disks.{DiskSeen}
use Rattle.arc_io.specs.Causes.{Rose}
use Rattle.arc_io.specs.Crashes.{Becomes, IsQuiet, LeavesOnly}
use Rattle.arc_io.specs.Seen.{PortSeen}
use Rattle.arc_io.specs.Told.{IsReadOut}
use Rattle.arc_text.specs.Lines.{ended_lines}
use Rattle.centre_core.specs.declared.hall.Stop.{Stop}
use Rattle.centre_core.specs.declared.hall.Stop.TheVariants.{Memory}
use Rattle.centre_rules.specs.History.{Entry}
use Rattle.centre_rules.specs.Summary.{Summary}
use Rattle.centre_store.specs.Begins.{adopted_after, begun_after}
use Rattle.centre_store.specs.Calls.{LeavesFrom}
use Rattle.centre_store.specs.Given.{HasRecorded, BeginsWith, GoesOn}
use Rattle.centre_store.specs.Openings.{IsRefused}
use Rattle.centre_store.specs.Stores.{Stored, StoreStands}
use Rattle.dc09_frame.specs.Frames.{frame_of}
use Rattle.disk_journal.specs.Faults.{IsOfContent, HasCounts}
use Rattle.disk_journal.specs.declared.fault.OpenFault.{OpenFault}
use Rattle.disk_journal.specs.declared.journal.Limits.{Limits}
use Rattle.script_lines.specs.Lines.{Asked, Time, Feed, Message, Command, Reopen}
use Rattle.session_rules.specs.Inputs.{input_limit}
use Rattle.session_rules.specs.Reading.{IsNotAhead, OnlyReadsAndWrites, lines_read}
use Rattle.arc_script.specs.Begun.{Begun}
use Rattle.arc_script.specs.Causes.{HasShown, OrBegun, Submits, IsSentFor}
use Rattle.arc_script.specs.Fed.{clock_of}
use Rattle.arc_script.specs.Steps.{Place, placed, Step, AddedBy, FeedsUntil, ReopenedBy, IsStepOf, AreSteps}
use Rattle.arc_script.specs.Steps.{asked_after, base_after, place_after, output_of}
use Rattle.arc_script.specs.Tallies.{IsTally, no_tally}
use Rattle.arc_script.specs.Texts.{AreOf, IsPlayable, counted}
use Rattle.arc_script.specs.declared.script_end.ScriptEnd.{ScriptEnd}
use Rattle.arc_script.specs.declared.script_end.ScriptEnd.TheVariants.{Done, ReadFault, WriteFault, Spent, BadScript, Refused, Stopped}
use Rattle.arc_script.specs.declared.script_end.ScriptEnded.{ScriptEnded}
use Rattle.arc_script.specs.declared.script_end.Tally.{Tally}

-- the disk tells what it holds
abbrev pub Tells : DiskSeen → Type 0
Tells disk = (areas : Areas) × (disk.told ≡ Some areas)

-- what a disk's areas stand for they stand for still, after a crash at any moment too
abbrev pub KeepsAll : DiskSeen → DiskSeen → Type 0
KeepsAll disk disk' = LeavesOnly disk disk' (λ c. (d : Areas) × disk.may_leave d × GoesOn d c)

-- The journal of a disk was not opened, for this fault: it shows what stands there, or that the disk failed. What the areas stood for
-- they stand for still, after a crash at any moment too.
pub record IsUnopened (fault : OpenFault) (disk disk' : DiskSeen) : Type 0 where
  pub shown : IfSome disk.told (IsRefused fault)
  pub counts : HasCounts fault disk.faults disk'.faults
  pub told : Becomes disk.told disk'.told GoesOn
  pub any_moment : KeepsAll disk disk'
  pub unwritten : IsOfContent fault → IsQuiet disk disk'

-- What a script did, of these lines, over a past: the first of them have their steps, which go on from the past to a history. Those
-- behind were not carried out.
pub record Played {D : Type 0} (seen : D → DiskSeen) (b : Begun D) (lines : List (ℕ × List ℕ)) : Type 0 where
  pub front : List (ℕ × List ℕ)
  pub behind : List (ℕ × List ℕ)
  pub steps : List Step
  pub history : List Entry
  pub split : lines ≡ front ++ behind
  pub of : AreOf [] front steps
  pub are : AreSteps (Tells (seen b.disk)) (placed b.base b.setup []) b.past history steps

-- Where the disk tells what it holds: a crash at any moment since the journal was opened leaves all that the past has recorded, and of the
-- entries behind it some first ones, up to this history. Where the disk has failed, one more may be left, with which it can go on.
abbrev pub LeavesUpTo : {D : Type 0} → (D → DiskSeen) → Begun D → D → Summary → List Entry → Type 0
LeavesUpTo seen b disk' base x =
    Tells (seen b.disk) → LeavesFrom (seen b.opened).moment b.past (seen b.disk).faults (seen disk') base x

-- What is left of what was played: this text is the output, and the closed disk's area stands for the history's recorded entries; the tally
-- of the steps, and what a crash leaves.
pub record IsLeft {D : Type 0} {lines : List (ℕ × List ℕ)} (seen : D → DiskSeen) (b : Begun D) (played : Played seen b lines)
    (text : List ℕ) (closed : D) (p' : PortSeen) (disk' : D) (tally : Tally) : Type 0 where
  pub output : p'.written ≡ append_known b.port.written text
  pub area : HasRecorded (seen closed) (base_after b.base played.steps) played.history
  pub counts : IsTally b.base b.past played.steps played.history tally
  pub any_moment : LeavesUpTo seen b disk' (base_after b.base played.steps) played.history

-- all lines have their steps, and the output is theirs
pub record IsWhole {D : Type 0} {lines : List (ℕ × List ℕ)} (seen : D → DiskSeen) (b : Begun D) (played : Played seen b lines)
    (p' : PortSeen) (disk' : D) (tally : Tally) : Type 0 where
  pub none_behind : played.behind ≡ []
  pub left : IsLeft seen b played (output_of played.steps) disk' p' disk' tally

-- the next line, of this number, asks for nothing; the output is that of the lines before it
pub record IsBad {D : Type 0} {lines : List (ℕ × List ℕ)} (seen : D → DiskSeen) (b : Begun D) (played : Played seen b lines)
    (number : ℕ) (p' : PortSeen) (disk' : D) (tally : Tally) : Type 0 where
  pub line : List ℕ
  pub more : List (ℕ × List ℕ)
  pub next : played.behind ≡ (number, line) ∷ more
  pub wrong : (asked : Asked) → IsPlayable (asked_after [] played.steps) line asked → ⊥
  pub left : IsLeft seen b played (output_of played.steps) disk' p' disk' tally

-- the output of the last step was cut short: it lacks a byte at least. All that the step recorded stands.
pub record IsCutOff {D : Type 0} {lines : List (ℕ × List ℕ)} (seen : D → DiskSeen) (b : Begun D) (played : Played seen b lines)
    (p' : PortSeen) (disk' : D) (tally : Tally) : Type 0 where
  pub front : List Step
  pub last : Step
  pub count : ℕ
  pub split : played.steps ≡ front ++ last ∷ []
  pub short : count < length last.text
  pub left : IsLeft seen b played (output_of front ++ take count last.text) disk' p' disk' tally

-- how far the beginning of a run came, which may have adopted its setup, or ended; none begins where a clock was set before
abbrev pub BegunUntil : Option ℕ → Summary → List ℕ → ℕ → List Entry → List Entry → Type 0
BegunUntil None base setup moment h x = (x ≡ h) ⊎ (x ≡ adopted_after base h setup moment) ⊎ (x ≡ begun_after base h setup moment)
BegunUntil (Some last) base setup moment h x = x ≡ h

-- how far the beginning of a run over a journal that was opened again came; where it ended, memory was wanted for the line's output
abbrev pub BegunAgain : Stop → Summary → List ℕ → ℕ → List Entry → List Entry → Type 0
BegunAgain stop base setup moment h x =
    (x ≡ h) ⊎ (x ≡ adopted_after base h setup moment) ⊎ ((stop ≡ Memory) × (x ≡ begun_after base h setup moment))

-- How far a line came that was stopped: the history that it left, from h on. A `T` may have begun the run, or adopted its setup, before; so
-- may an `X`, but over what the journal keeps, for it has closed the store, and it has begun the run only where memory was wanted; of a
-- line those frames have their turns that came before the one that was stopped. That one is the first that waits.
abbrev pub CameTo : Stop → Type 0 → Place → List (List ℕ) → List Entry → List Entry → Step → Asked → Type 0
CameTo stop Told place waiting h x s (Time moment) =
    BegunUntil (clock_of place.asked) place.base place.setup moment h x × AddedBy place.base h x s
CameTo stop Told place waiting h x s (Feed line digits) = FeedsUntil place line (bytes_spelled digits) waiting (IsSentFor stop) h x s
CameTo stop Told place waiting h x s (Message line body) = FeedsUntil place line (frame_of body) waiting (IsSentFor stop) h x s
CameTo stop Told place waiting h x s (Command desk text) = (x ≡ h) × AddedBy place.base h x s
CameTo stop Told place waiting h x s Reopen = ReopenedBy Told place (BegunAgain stop) h x s

-- How far it came that was stopped for this. Where memory was wanted it may have done nothing yet, as an `X` that has not closed the store,
-- or all but its output.
abbrev pub CameFor : Stop → Type 0 → Place → List (List ℕ) → List Entry → List Entry → Step → Asked → Type 0
CameFor stop Told place waiting h x s asked =
    CameTo stop Told place waiting h x s asked
    ⊎ ((stop ≡ Memory) × (((x ≡ h) × AddedBy place.base h x s) ⊎ IsStepOf Told place h x s asked))

-- The next line was stopped. It has no output, and what it recorded before stands: the store that showed the stop, for an event of this
-- line at the moment that is set, stands for it, and its disk is handed back. So the area stands for it, and after a fault of the disk for
-- it with that event, which met the fault, or without. Only where memory was wanted for a message though the disk has failed is not said
-- which event met the fault.
pub record IsHalted {D : Type 0} {lines : List (ℕ × List ℕ)} (seen : D → DiskSeen) (b : Begun D) (played : Played seen b lines)
    (stop : Stop) (p' : PortSeen) (disk' : D) (tally : Tally) : Type 0 where
  pub line : ℕ × List ℕ
  pub more : List (ℕ × List ℕ)
  pub asked : Asked
  pub waiting : List (List ℕ)
  pub partial : Step
  pub history : List Entry
  pub clock : ℕ
  pub last : Stored D
  pub next : played.behind ≡ line ∷ more
  pub asks : IsPlayable (asked_after [] played.steps) line.1 asked
  pub came : CameFor stop (Tells (seen b.disk)) (place_after (placed b.base b.setup []) played.steps) waiting played.history history
      partial asked
  pub set : clock_of (asked ∷ asked_after [] played.steps) ≡ Some clock
  pub cause : HasShown seen partial.base last history stop clock
      (Submits last.state.sum.text b.setup (asked_after [] played.steps) clock waiting asked)
  pub stands : StoreStands seen partial.base last history
  pub limits_are : last.journal.limits ≡ b.limits
  pub later : (seen b.disk).faults ≤ last.at_open
  pub handed : disk' ≡ last.journal.disk
  pub output : p'.written ≡ append_known b.port.written (output_of played.steps)
  pub counts : IsTally b.base b.past (played.steps ++ partial ∷ []) history tally
  pub any_moment : OrBegun (LeavesUpTo seen b disk' partial.base)
      (Submits last.state.sum.text b.setup (asked_after [] played.steps) clock waiting asked) last.state.sum.text partial.base b.setup clock
      history

-- Memory was wanted before the script was read: nothing was done, just as where no line is to be played.
abbrev pub IsUnread : {D : Type 0} → (D → DiskSeen) → Begun D → PortSeen → D → Tally → Type 0
IsUnread seen b p' disk' tally = (p' ≡ b.port) × ((played : Played seen b []) × IsWhole seen b played p' disk' tally)

-- The next line, an `X`, could not open the journal again.
pub record IsShut {D : Type 0} {lines : List (ℕ × List ℕ)} (seen : D → DiskSeen) (b : Begun D) (played : Played seen b lines)
    (fault : OpenFault) (p' : PortSeen) (disk' : D) (tally : Tally) : Type 0 where
  pub line : ℕ × List ℕ
  pub more : List (ℕ × List ℕ)
  pub next : played.behind ≡ line ∷ more
  pub asks : IsPlayable (asked_after [] played.steps) line.1 Reopen
  pub closed : D
  pub later : (seen b.disk).faults ≤ (seen closed).faults
  pub unopened : IsUnopened fault (seen closed) (seen disk')
  pub left : IsLeft seen b played (output_of played.steps) closed p' disk' tally

-- What a script's end says of what was played, of the bytes that were read.
abbrev pub EndsAs : {D : Type 0} {lines : List (ℕ × List ℕ)} (seen : D → DiskSeen) (b : Begun D) → List ℕ → Played seen b lines
    → ScriptEnd → PortSeen → D → Tally → Type 0
EndsAs seen b read played Done p' disk' tally = IsReadOut p' × (length read < input_limit) × IsWhole seen b played p' disk' tally
EndsAs seen b read played ReadFault p' disk' tally =
    Rose b.port.read_faults p'.read_faults × (length read < input_limit) × IsWhole seen b played p' disk' tally
EndsAs seen b read played Spent p' disk' tally = (length read ≡ input_limit) × IsWhole seen b played p' disk' tally
EndsAs seen b read played WriteFault p' disk' tally = Rose b.port.write_faults p'.write_faults × IsCutOff seen b played p' disk' tally
EndsAs seen b read played (BadScript number) p' disk' tally = IsBad seen b played number p' disk' tally
EndsAs seen b read played (Stopped stop) p' disk' tally = IsHalted seen b played stop p' disk' tally
EndsAs seen b read played (Refused fault) p' disk' tally = IsShut seen b played fault p' disk' tally

-- Of a script that a line ended: all lines but those that end in the last bytes read were carried out. No input can foresee that end, so
-- one that reads further ahead than this, or reads on, is none.
abbrev pub ReadsNoFurther : ScriptEnd → List ℕ → List (ℕ × List ℕ) → Type 0
ReadsNoFurther Done read carried = Unit {0}
ReadsNoFurther ReadFault read carried = Unit {0}
ReadsNoFurther Spent read carried = Unit {0}
ReadsNoFurther end read carried = IsNotAhead (λ early. counted (ended_lines early)) read carried

-- The transcript of a script over a past, of the bytes that were read of the port: their lines and what was played of them. Where a read
-- has met the input's end, that is all of it. All but what is about reading and writing stayed.
pub record IsTranscript {D : Type 0} (seen : D → DiskSeen) (b : Begun D) (end : ScriptEnd) (p' : PortSeen) (disk' : D)
    (tally : Tally) : Type 0 where
  pub read : List ℕ
  pub taken : b.port.left ≡ prepend_known read p'.left
  pub out : p'.ended ≡ true → IsAtEnd p'.left
  pub most : length read ≤ input_limit
  pub played : Played seen b (counted (lines_read p'.ended read))
  pub ends : EndsAs seen b read played end p' disk' tally
  pub ahead : ReadsNoFurther end read played.front
  pub others : OnlyReadsAndWrites b.port p'

-- What a script did over a disk: the journal was not opened, and nothing was read or written; or the areas stood for a past, and stand for
-- it behind the opening, and the script is a transcript over it, or memory was wanted before it was read.
abbrev pub IsScript : {D : Type 0} → (D → DiskSeen) → List ℕ → Limits → PortSeen → PortSeen → D → ScriptEnded D → Type 0
IsScript {D} seen setup limits p p' disk ended =
    ((fault : OpenFault) × (ended.end ≡ Refused fault) × IsUnopened fault (seen disk) (seen ended.disk) × (p' ≡ p)
    × (ended.tally ≡ no_tally))
    ⊎ ((base : Summary) × (past : List Entry) × (opened : D) × BeginsWith (seen disk) base past × KeepsAll (seen disk) (seen opened)
    × HasRecorded (seen opened) base past
    × (let b : Begun D = record { disk = disk; setup = setup; limits = limits; base = base; past = past; port = p; opened = opened } in
    IsTranscript seen b ended.end p' ended.disk ended.tally
    ⊎ ((ended.end ≡ Stopped Memory) × IsUnread seen b p' ended.disk ended.tally)))
