-- What the runner does for one line.
use Rattle.std.specs.Prelude.{◌≡◌, ◌≤◌, ◌⊎◌, ◌++◌, ℕ, List, [], ◌∷◌, Option, Some, None, codes, length}
use Rattle.std.specs.Io.KnownBytes.{append_known}
use Rattle.arc_data.specs.declared.event.Event.{Event}
use Rattle.arc_data.specs.declared.event.Event.TheVariants.{Tick}
use Rattle.arc_io.specs.Disks.{DiskSeen}
use Rattle.arc_io.specs.Seen.{PortSeen}
use Rattle.centre_core.specs.declared.hall.Stop.{Stop}
use Rattle.centre_core.specs.declared.hall.Stop.TheVariants.{Memory}
use Rattle.centre_rules.specs.History.{Entry}
use Rattle.centre_rules.specs.Summary.{Summary}
use Rattle.centre_store.specs.Begins.{adopted_after, event_of_begin}
use Rattle.centre_store.specs.Calls.{entry_after}
use Rattle.centre_store.specs.Stores.{Stored, HasFailed, StoreStands}
use Rattle.alarm_rules.specs.Setups.{Setup}
use Rattle.desk_session.specs.Desks.{DeskValue, TookStream}
use Rattle.desk_wire.specs.Replies.{line_of}
use Rattle.script_lines.specs.Lines.{Asked, Time, Asks}
use Rattle.script_lines.specs.Reading.{asked}
use Rattle.script_lines.specs.declared.line.ScriptLine.{ScriptLine}
use Rattle.arc_script.specs.Causes.{HasShown, IsOfTime, OrBegun}
use Rattle.arc_script.specs.Ends.{BegunUntil, BegunAgain}
use Rattle.arc_script.specs.Standing.{LeavesOn}
use Rattle.arc_script.specs.Steps.{ticked_after}
use Rattle.arc_script.specs.Texts.{line_limit}

-- the moment of a line, by the one that was set before: its own, or that one
abbrev pub moment_at : Option ℕ → Asked → Option ℕ
moment_at clock (Time moment) = Some moment
moment_at clock asked = clock

-- a line asks for something at a moment, or nothing can be done for it
abbrev pub IsAskedAt : List ℕ → Option ℕ → Option (ScriptLine × ℕ) → Type 0
IsAskedAt line clock (Some read) = (length line ≤ line_limit) × Asks line (asked read.0) × (moment_at clock (asked read.0) ≡ Some read.1)
IsAskedAt line clock None = (a : Asked) (moment : ℕ) → length line ≤ line_limit → Asks line a → moment_at clock a ≡ Some moment → ⊥

-- a desk that was made anew: under each setup it took no byte
pub record IsNewDesk (desk : DeskValue) : Type 0 where
  pub took : (setup : Setup) → TookStream setup [] desk

-- It was stopped at a moment for one of these events, from a store and a history on: the store stands for a history to which this came,
-- and shows the stop. A crash leaves nothing past that history, or of a beginning nothing past its end.
pub record StopsAt {D : Type 0} (seen : D → DiskSeen) (base : Summary) (CameTo : List Entry → Type 0) (IsOne : Event → Type 0)
    (setup : List ℕ) (moment : ℕ) (h : List Entry) (stop : Stop) (old s : Stored D) : Type 0 where
  pub history : List Entry
  pub came : CameTo history
  pub stands : StoreStands seen base s history
  pub cause : HasShown seen base s history stop moment IsOne
  pub left : OrBegun (LeavesOn seen base old s h) IsOne s.state.sum.text base setup moment history

-- a run was to begin and was stopped: before its Adopt, or before its Start
abbrev pub BeginStops : {D : Type 0} → (D → DiskSeen) → Summary → List ℕ → ℕ → List Entry → Stop → Stored D → Stored D → Type 0
BeginStops seen base setup moment h stop old s =
    StopsAt seen base (λ x. (x ≡ h) ⊎ (x ≡ adopted_after base h setup moment)) (λ event. event ≡ event_of_begin s.state.sum.text setup)
    setup moment h stop old s

-- likewise where it was to begin again; or, where memory was wanted for the output, behind its beginning
abbrev pub AgainStops : {D : Type 0} → (D → DiskSeen) → Summary → List ℕ → ℕ → List Entry → Stop → Stored D → Stored D → Type 0
AgainStops seen base setup moment h stop old s =
    StopsAt seen base (BegunAgain stop base setup moment h) (λ event. event ≡ event_of_begin s.state.sum.text setup) setup moment h stop
    old s

-- how far a `T` came that was stopped: to its Tick; or, where memory was wanted for its output, behind it
abbrev pub TickCame : Option ℕ → Summary → List ℕ → ℕ → List Entry → Stop → List Entry → Type 0
TickCame clock base setup moment h stop x =
    BegunUntil clock base setup moment h x
    ⊎ ((stop ≡ Memory) × (x ≡ ticked_after clock base setup moment h))

abbrev pub TickStops : {D : Type 0} → (D → DiskSeen) → Option ℕ → Summary → List ℕ → ℕ → List Entry → Stop → Stored D → Stored D → Type 0
TickStops seen clock base setup moment h stop old s =
    StopsAt seen base (TickCame clock base setup moment h stop) (IsOfTime s.state.sum.text clock setup) setup moment h stop old s

-- the store, whose disk has not failed, stands for the history with the Tick, whose reply was put behind the letter
pub record Ticked {D : Type 0} (seen : D → DiskSeen) (base : Summary) (before : List Entry) (moment : ℕ) (s : Stored D)
    (p p' : PortSeen) : Type 0 where
  pub stands : StoreStands seen base s (entry_after base before Tick moment ∷ before)
  pub up : HasFailed seen s → ⊥
  pub text : p'.written ≡ append_known p.written (codes "T " ++ line_of (entry_after base before Tick moment).reply)
