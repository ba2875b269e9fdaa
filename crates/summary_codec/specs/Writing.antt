-- What a writer can spell: steps are written as bytes.
use Rattle.std.specs.Prelude.{◌≡◌, List, true}
use Rattle.arc_data.specs.Steps.{is_step}
use Rattle.arc_data.specs.declared.incident.Incident.{Incident}
use Rattle.arc_data.specs.declared.step.Acted.{Acted}
use Rattle.arc_data.specs.declared.step.Step.{Step}
use Rattle.summary_rules.specs.Lists.{Every}

-- they are steps
abbrev pub AreGood : List Step → Type 0
AreGood steps = Every (λ s. is_step s ≡ true) steps

-- they are of steps
abbrev pub AreActsGood : List Acted → Type 0
AreActsGood acts = Every (λ a. is_step a.step ≡ true) acts

-- the steps and acts of each incident are of steps
abbrev pub HaveGoodSteps : List Incident → Type 0
HaveGoodSteps is = Every (λ i. AreGood i.steps × AreActsGood i.acts) is
