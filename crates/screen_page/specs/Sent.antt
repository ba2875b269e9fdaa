-- What the desk is sent.
use Rattle.std.specs.Prelude.{ℕ, List}
use Rattle.desk_wire.specs.Laws.{spelling}
use Rattle.desk_wire.specs.declared.command.Command.TheVariants.{Show, List as Rows}
use Rattle.desk_screen.specs.declared.order.Order.{Order}
use Rattle.desk_screen.specs.declared.order.Order.TheVariants.{Typed, Polled}
use Rattle.desk_screen.specs.declared.order.Poll.TheVariants.{Whole, One}

-- An order as a line of the desk, without its end: a command of the operator's, or a look by `list` or `show`.
abbrev pub order_line : Order → List ℕ
order_line (Typed command) = spelling command
order_line (Polled Whole) = spelling Rows
order_line (Polled (One number)) = spelling (Show number)
