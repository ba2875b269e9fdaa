-- What a sitting at a screen is: its turns, the newest first.
use Rattle.std.specs.Prelude.{ℕ, List, Bool, true, false, Option, is_some, if◌then◌else◌}
use Rattle.desk_wire.specs.declared.command.Command.{Command}
use Rattle.desk_said.specs.Lines.{said_of}
use Rattle.desk_said.specs.declared.said.Said.{Said}
use Rattle.desk_said.specs.declared.said.Said.TheVariants.{Strange}
use Rattle.desk_screen.specs.declared.order.Order.{Order}

-- what comes to the screen: a key, a line of the desk without its end, a second that passed, a connection that was made, and one that
-- was lost
pub data Input : Type 0 where
  Key : ℕ → Input
  Answer : List ℕ → Input
  Second : Input
  Made : Input
  Lost : Input

-- one turn: what came, which command it asked for, what was sent to the desk, and whether the bell rang
pub record Turn : Type 0 where
  pub input : Input
  pub asked : Option Command
  pub sent : Option Order
  pub rung : Bool

-- a sitting is a list of turns, the newest first
abbrev pub Sitting : Type 0
Sitting = List Turn

-- a connection begins or ends
abbrev pub is_break : Input → Bool
is_break (Key key) = false
is_break (Answer line) = false
is_break Second = false
is_break Made = true
is_break Lost = true

abbrev pub is_second : Input → Bool
is_second (Key key) = false
is_second (Answer line) = false
is_second Second = true
is_second Made = false
is_second Lost = false

abbrev pub is_answer : Input → Bool
is_answer (Key key) = false
is_answer (Answer line) = true
is_answer Second = false
is_answer Made = false
is_answer Lost = false

-- What a line says, where a command waits for it. A line that nobody asked for says nothing.
abbrev pub news : Input → Option Order → Said
news (Key key) way = Strange
news (Answer line) way = if is_some way then said_of line else Strange
news Second way = Strange
news Made way = Strange
news Lost way = Strange
