-- For whom a desk acts behind lines.
use Rattle.std.proofs.Common.{◌≡◌, ◌∷◌, ◌++◌, ℕ, List, [], Bool, true, false, cond, Option, Some, None, refl, sym}
use Rattle.std.specs.Prelude.{is_some, IfSome}
use Rattle.arc_data.specs.Digits.{is_name}
use Rattle.alarm_rules.specs.Setups.{Setup, operator_of}
use Rattle.alarm_rules.specs.SetupLines.{Operator}
use Rattle.desk_wire.specs.Commands.{command_of}
use Rattle.desk_wire.specs.Laws.{IsCommand}
use Rattle.desk_wire.proofs.CommandLaws.{read_is_spelled}
use Rattle.desk_wire.specs.declared.command.Command.{Command}
use Rattle.desk_wire.specs.declared.command.Command.TheVariants.{Login, Quit, Next, Claim, Act, Release, Close, Show, List as Rows}
use Rattle.desk_session.specs.Events.{command_in, has_pin, is_by_pin, acts_after, acts_over, is_known, is_named}

module _ (setup : Setup) where
  pub acts_over-append : (operator : Option (List ℕ)) (xs ys : List (List ℕ)) → acts_over setup operator (xs ++ ys) ≡ acts_over setup (acts_over setup operator xs) ys
  acts_over-append operator [] ys = refl
  acts_over-append operator (x ∷ xs) ys = acts_over-append (acts_after setup operator (command_in x)) xs ys

  -- who has a PIN is an operator of the setup
  pin_step : (o : Option Operator) (pin : List ℕ) → is_by_pin pin o ≡ true → is_some o ≡ true
  pin_step None pin is = is
  pin_step (Some x) pin is = refl

  login_known : (operator : Option (List ℕ)) (name pin : List ℕ) (t : Bool) → has_pin setup name pin ≡ t → is_known setup operator ≡ true → is_known setup (cond t (Some name) operator) ≡ true
  login_known operator name pin true has known = pin_step (operator_of setup name) pin has
  login_known operator name pin false has known = known

  pub after_known : (operator : Option (List ℕ)) (command : Option Command) → is_known setup operator ≡ true → is_known setup (acts_after setup operator command) ≡ true
  after_known operator None known = known
  after_known operator (Some (Login name pin)) known = login_known operator name pin (has_pin setup name pin) refl known
  after_known operator (Some Quit) known = known
  after_known operator (Some Next) known = known
  after_known operator (Some (Claim number)) known = known
  after_known operator (Some (Act number step outcome)) known = known
  after_known operator (Some (Release number)) known = known
  after_known operator (Some (Close number code)) known = known
  after_known operator (Some (Show number)) known = known
  after_known operator (Some Rows) known = known

  pub over_known : (operator : Option (List ℕ)) (lines : List (List ℕ)) → is_known setup operator ≡ true → is_known setup (acts_over setup operator lines) ≡ true
  over_known operator [] known = known
  over_known operator (line ∷ lines) known = over_known (acts_after setup operator (command_in line)) lines (after_known operator (command_in line) known)

  login_named : (operator : Option (List ℕ)) (name : List ℕ) (t : Bool) → is_name name ≡ true → is_named operator ≡ true → is_named (cond t (Some name) operator) ≡ true
  login_named operator name true is named = is
  login_named operator name false is named = named

  pub after_named : (operator : Option (List ℕ)) (command : Option Command) → IfSome command IsCommand → is_named operator ≡ true → is_named (acts_after setup operator command) ≡ true
  after_named operator None ranges named = named
  after_named operator (Some (Login name pin)) ranges named = login_named operator name (has_pin setup name pin) ranges.named named
  after_named operator (Some Quit) ranges named = named
  after_named operator (Some Next) ranges named = named
  after_named operator (Some (Claim number)) ranges named = named
  after_named operator (Some (Act number step outcome)) ranges named = named
  after_named operator (Some (Release number)) ranges named = named
  after_named operator (Some (Close number code)) ranges named = named
  after_named operator (Some (Show number)) ranges named = named
  after_named operator (Some Rows) ranges named = named

-- what a line is read as is in its ranges
pub read_ranges : (line : List ℕ) (o : Option Command) → o ≡ command_of line → IfSome o IsCommand
read_ranges line None is = tt
read_ranges line (Some command) is = (read_is_spelled line command (sym is)).ranges
