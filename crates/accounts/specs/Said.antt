-- What is kept of a line, and what that says.
use Rattle.std.specs.Prelude.{◌≤◌, ◌<◌}
use Rattle.alarm_rules.specs.SetupLines.{Said, Nothing, OfAccount, OfHours, OfKeyholder, OfPlan, OfOperator, OfLapse}
use Rattle.alarm_rules.specs.SetupLines.{AccountLine, HoursLine, KeyholderLine, PlanLine, Operator}
use Rattle.arc_data.specs.declared.window.Window.{Window}
use Rattle.accounts.specs.declared.line.AccountLine.{AccountLine as KeptAccount}
use Rattle.accounts.specs.declared.line.HoursLine.{HoursLine as KeptHours}
use Rattle.accounts.specs.declared.line.KeyholderLine.{KeyholderLine as KeptKeyholder}
use Rattle.accounts.specs.declared.line.Line.{Line}
use Rattle.accounts.specs.declared.line.Line.TheVariants.{Skipped, Account, Hours, Keyholder, Plan, Operator as AnOperator, Lapse}
use Rattle.accounts.specs.declared.line.PlanLine.{PlanLine as KeptPlan}
use Rattle.accounts.specs.declared.operator.Operator.{Operator as KeptOperator}

abbrev pub said_account : KeptAccount → AccountLine
said_account line = record { number = line.number; key = line.key; beat = line.beat; zone = line.zone }

abbrev pub said_hours : KeptHours → HoursLine
said_hours line = record { account = line.account; window = line.window }

abbrev pub said_keyholder : KeptKeyholder → KeyholderLine
said_keyholder line = record { account = line.account; name = line.name }

abbrev pub said_plan : KeptPlan → PlanLine
said_plan line = record { account = line.account; class = line.class; words = line.plan }

abbrev pub said_operator : KeptOperator → Operator
said_operator operator = record { name = operator.name; pin = operator.pin }

abbrev pub said : Line → Said
said Skipped = Nothing
said (Account line) = OfAccount (said_account line)
said (Hours line) = OfHours (said_hours line)
said (Keyholder line) = OfKeyholder (said_keyholder line)
said (Plan line) = OfPlan (said_plan line)
said (AnOperator operator) = OfOperator (said_operator operator)
said (Lapse seconds) = OfLapse seconds

-- a window that a week takes
pub record IsValidWindow (window : Window) : Type 0 where
  pub weekday : window.weekday ≤ 6
  pub order : window.from < window.to
  pub end : window.to ≤ 1440

-- the line can be taken up: a window lies within a day
abbrev pub IsValid : Line → Type 0
IsValid Skipped = Unit {0}
IsValid (Account line) = Unit {0}
IsValid (Hours line) = IsValidWindow line.window
IsValid (Keyholder line) = Unit {0}
IsValid (Plan line) = Unit {0}
IsValid (AnOperator operator) = Unit {0}
IsValid (Lapse seconds) = Unit {0}
