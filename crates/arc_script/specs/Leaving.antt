-- What a line of a script leaves to be done with the whole store.
use Rattle.std.specs.Prelude.{◌≡◌, ◌++◌, ◌∷◌, ℕ, List, Option, Some}
use Rattle.arc_io.specs.Disks.{DiskSeen}
use Rattle.arc_io.specs.Seen.{PortSeen}
use Rattle.centre_store.specs.Stores.{Stored}
use Rattle.script_lines.specs.Lines.{Asks, Reopen as Again}
use Rattle.arc_script.specs.Begun.{Begun}
use Rattle.arc_script.specs.Between.{IsReady, MayComeNext, SoFar}
use Rattle.arc_script.specs.Halting.{Halts, closing}
use Rattle.arc_script.specs.declared.play.Left.{Left}
use Rattle.arc_script.specs.declared.play.Left.TheVariants.{Ended, Reopen}
use Rattle.arc_script.specs.declared.script.Script.{Script}
use Rattle.arc_script.specs.declared.script_end.ScriptEnd.{ScriptEnd}
use Rattle.arc_script.specs.declared.script_end.Tally.{Tally}

-- a store that was closed with the script's last tally
pub record IsClosed {D : Type 0} (script : Script) (s : Stored D) (disk : D) (tally : Tally) : Type 0 where
  pub disk_is : disk ≡ s.journal.disk
  pub tally_is : tally ≡ closing script.tally script.opened_before s.state.sum

-- this line ended the script behind these, once the store is closed
abbrev pub EndsHere : {D : Type 0} → (D → DiskSeen) → Begun D → List (List ℕ) → List ℕ → Script → Stored D → PortSeen → ScriptEnd → Type 0
EndsHere {D} seen b lines typed script s p end =
    (more : List (List ℕ)) (disk : D) (tally : Tally) → IsClosed script s disk tally
    → Halts seen b lines (lines ++ typed ∷ more) end p disk tally

-- it ended the script, or it is an `X` for which nothing was done yet
abbrev pub Leaves : {D : Type 0} → (D → DiskSeen) → Begun D → List (List ℕ) → List ℕ → Script → Stored D → PortSeen → Left → Type 0
Leaves seen b lines typed script s p (Ended end) = EndsHere seen b lines typed script s p end
Leaves seen b lines typed script s p (Reopen moment) = Asks typed Again × MayComeNext lines typed × SoFar seen b lines script s p

-- An `X` may be carried out, at the moment that was set last.
abbrev pub MayBeLeft : Option ℕ → List ℕ → Option (List ℕ) → Left → Type 0
MayBeLeft clock setup text (Ended end) = Unit {0}
MayBeLeft clock setup text (Reopen moment) = IsReady clock setup text × (clock ≡ Some moment)
