-- Text that may be shown on a terminal.
use Rattle.std.specs.Prelude.{ℕ, List, [], ◌∷◌, Bool, Option, Some, None, map, take, if◌then◌else◌}
use Rattle.arc_data.specs.Digits.{is_between}
use Rattle.desk_screen.specs.Inputs.{Input, Key, Answer, Second, Made, Lost, Sitting}
use Rattle.desk_screen.specs.Orders.{way}
use Rattle.desk_screen.specs.declared.order.Order.{Order}
use Rattle.desk_screen.specs.declared.order.Order.TheVariants.{Typed, Polled}
use Rattle.desk_screen.specs.declared.deed.Deed.{Deed}

-- a printable byte of ASCII
abbrev pub is_plain : ℕ → Bool
is_plain b = is_between 32 126 b

-- a byte as it is shown: any other than a printable one as a question mark
abbrev pub plain_byte : ℕ → ℕ
plain_byte b = if is_plain b then b else 63

-- at most 160 bytes of a text as they are shown
abbrev pub plain : List ℕ → List ℕ
plain text = map plain_byte (take 160 text)

-- an answer to a command of the operator's, beside that command
abbrev pub answered_after : Input → Option Order → Option Deed → Option Deed
answered_after (Key key) way before = before
answered_after (Answer line) None before = before
answered_after (Answer line) (Some (Typed command)) before = Some (record { command = command; answer = plain line })
answered_after (Answer line) (Some (Polled poll)) before = before
answered_after Second way before = before
answered_after Made way before = before
answered_after Lost way before = before

-- The operator's last command that was answered, and its answer.
unfoldable pub answered : Sitting → Option Deed
answered [] = None
answered (t ∷ s) = answered_after t.input (way s) (answered s)
