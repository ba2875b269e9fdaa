-- How a script is ended by one of its lines, or by the end of what is read.
use Rattle.std.specs.Prelude.{◌≡◌, ◌⊎◌, ◌++◌, ◌-◌, ℕ, List, length}
use Rattle.arc_io.specs.Causes.{Rose}
use Rattle.arc_io.specs.Disks.{DiskSeen}
use Rattle.arc_io.specs.Seen.{PortSeen}
use Rattle.centre_rules.specs.Summary.{Summary}
use Rattle.arc_script.specs.Begun.{Begun}
use Rattle.arc_script.specs.Ends.{Played, IsWhole, IsBad, IsCutOff, IsHalted, IsShut}
use Rattle.arc_script.specs.Texts.{counted}
use Rattle.arc_script.specs.declared.script_end.ScriptEnd.{ScriptEnd}
use Rattle.arc_script.specs.declared.script_end.ScriptEnd.TheVariants.{Done, WriteFault, BadScript, Refused, Stopped}
use Rattle.arc_script.specs.declared.script_end.Tally.{Tally}

-- a tally at the end: what is told of the centre is taken then
abbrev pub closing : Tally → ℕ → Summary → Tally
closing t opened_before sum = record t {
  recorded = sum.recorded;
  opened = sum.opened - opened_before;
  total = length sum.incidents;
}

-- the ends that one of the lines brings
abbrev pub HaltsAs : {D : Type 0} {lines : List (ℕ × List ℕ)} (seen : D → DiskSeen) (b : Begun D) → Played seen b lines
    → ScriptEnd → PortSeen → D → Tally → Type 0
HaltsAs seen b played WriteFault p disk tally = Rose b.port.write_faults p.write_faults × IsCutOff seen b played p disk tally
HaltsAs seen b played (BadScript number) p disk tally = IsBad seen b played number p disk tally
HaltsAs seen b played (Stopped stop) p disk tally = IsHalted seen b played stop p disk tally
HaltsAs seen b played (Refused fault) p disk tally = IsShut seen b played fault p disk tally
HaltsAs seen b played end p disk tally = ⊥

-- A line behind these ended the script, of all these lines.
pub record Halts {D : Type 0} (seen : D → DiskSeen) (b : Begun D) (before all : List (List ℕ)) (end : ScriptEnd) (p : PortSeen) (disk : D)
    (tally : Tally) : Type 0 where
  pub played : Played seen b (counted all)
  pub ends : HaltsAs seen b played end p disk tally
  pub more : List (ℕ × List ℕ)
  pub front : played.front ≡ counted before ++ more

-- all these lines were carried out
pub record Whole {D : Type 0} (seen : D → DiskSeen) (b : Begun D) (all : List (List ℕ)) (p : PortSeen) (disk : D)
    (tally : Tally) : Type 0 where
  pub played : Played seen b (counted all)
  pub whole : IsWhole seen b played p disk tally

-- the one at the end of what is read, or the other
abbrev pub Finishes : {D : Type 0} → (D → DiskSeen) → Begun D → List (List ℕ) → List (List ℕ) → ScriptEnd → PortSeen → D → Tally → Type 0
Finishes seen b before all end p disk tally = ((end ≡ Done) × Whole seen b all p disk tally) ⊎ Halts seen b before all end p disk tally
