-- A table of open incidents after marks.
use Rattle.std.specs.Prelude.{◌≡◌, ◌≤◌, ◌<◌, ◌^◌, ◌+◌, ℕ, List, true, length, Some}
use Rattle.arc_data.specs.Incidents.{Each}
use Rattle.arc_data.specs.Steps.{same_step}
use Rattle.arc_data.specs.declared.incident.Incident.{Incident}
use Rattle.arc_data.specs.declared.step.Acted.{Acted}
use Rattle.arc_data.specs.declared.step.Step.{Step}
use Rattle.alarm_rules.specs.Plans.{left, expected_step}
use Rattle.centre_rules.specs.Desks.{numbered, holds}
use Rattle.centre_rules.specs.Marks.{Mark}
use Rattle.centre_rules.specs.Tables.{opened_after, table_after}
use Rattle.incidents.specs.Tables.{TableValue}

abbrev pub marked_table : Mark → TableValue → TableValue
marked_table m t = record t { opened = opened_after m t.opened t.incidents; incidents = table_after m t.opened t.incidents }

-- each incident may have a signal more
abbrev pub HasFew : List Incident → Type 0
HasFew is = Each (λ i. i.signals < 2 ^ 62) is

-- at most so many were opened, and each has at most so many signals
pub record IsFew (bound count : ℕ) (is : List Incident) : Type 0 where
  pub opened : count ≤ bound
  pub signals : Each (λ i. i.signals ≤ bound) is

-- each has room for an act of each step that is not met
abbrev pub HasActRoom : Incident → Type 0
HasActRoom i = length i.acts + left i.steps i.acts ≤ 10

abbrev pub HaveActRoom : List Incident → Type 0
HaveActRoom is = Each HasActRoom is

-- the act is of the first step that is not met of an open incident, by its claimer
pub record FitsAct (number : ℕ) (acted : Acted) (is : List Incident) : Type 0 where
  pub incident : Incident
  pub wanted : Step
  pub found : numbered number is ≡ Some incident
  pub holder : holds acted.operator incident ≡ true
  pub first : expected_step incident.steps incident.acts ≡ Some wanted
  pub same : same_step acted.step wanted ≡ true
