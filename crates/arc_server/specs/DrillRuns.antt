-- What a run of `drill` did.
use Rattle.std.specs.Prelude.{◌≡◌, ◌⊎◌, ℕ, ◌++◌, List, [], codes, decimal, Result}
use Rattle.std.specs.Str.Lines.{lines}
use Rattle.arc_drill.specs.Texts.{drill_text, drill_setup}
use Rattle.arc_io.specs.Seen.{PortSeen}
use Rattle.arc_io.specs.Told.{Puts}
use Rattle.arc_io.specs.declared.traits.Failed.{Failed}
use Rattle.arc_script.specs.Steps.{placed, Step, AreSteps}
use Rattle.arc_script.specs.Tallies.{IsTally}
use Rattle.arc_script.specs.Texts.{AreOf, counted}
use Rattle.arc_script.specs.declared.script_end.Tally.{Tally}
use Rattle.centre_rules.specs.History.{Entry}
use Rattle.centre_rules.specs.Summary.{nothing}
use Rattle.arc_server.specs.Made.{status_of_text}
use Rattle.arc_server.specs.declared.status.Status.{Status}
use Rattle.arc_server.specs.declared.status.Status.TheVariants.{Memory}

-- the line that a drill of so many messages tells
unfoldable pub drill_line : ℕ → Tally → List ℕ
drill_line n t =
    codes "drill " ++ decimal n ++ codes ": sent " ++ decimal t.sent ++ codes ", repeats " ++ decimal t.repeats
    ++ codes ", recorded " ++ decimal t.recorded ++ codes ", opened " ++ decimal t.opened ++ codes ", closed " ++ decimal t.closed
    ++ codes ", open " ++ decimal t.total ++ codes "\n"

-- The tally of the drill's script, under the drill's setup, over a journal that has nothing: all its lines have their steps.
pub record IsDrilled (n : ℕ) (t : Tally) : Type 0 where
  pub steps : List Step
  pub history : List Entry
  pub of : AreOf [] (counted (lines (drill_text n))) steps
  pub are : AreSteps (Unit {0}) (placed nothing drill_setup []) [] history steps
  pub counts : IsTally nothing [] steps history t

-- the line of the drill's tally was written, or a front of it, and nothing else was done to the port
pub record TellsDrill (n : ℕ) (status : Status) (p p' : PortSeen) : Type 0 where
  pub tally : Tally
  pub drilled : IsDrilled n tally
  pub written : Result (Unit {0}) Failed
  pub puts : Puts p p' written (drill_line n tally)
  pub status_is : status ≡ status_of_text written p p'

-- What such a run did; or memory was wanted, and the port was not touched.
abbrev pub IsDrillRun : ℕ → Status → PortSeen → PortSeen → Type 0
IsDrillRun n status p p' = ((status ≡ Memory) × (p' ≡ p)) ⊎ TellsDrill n status p p'
