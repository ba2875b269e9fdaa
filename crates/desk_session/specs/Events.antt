-- What a line of a desk asks for.
use Rattle.std.specs.Prelude.{ℕ, List, [], ◌∷◌, Bool, true, false, if◌then◌else◌, Option, Some, None, nat_le, length, codes}
use Rattle.std.specs.List.{list_any}
use Rattle.std.specs.Str.{bytes_eq}
use Rattle.arc_data.specs.Digits.{is_name}
use Rattle.arc_data.specs.declared.event.Event.{Event}
use Rattle.arc_data.specs.declared.event.Event.TheVariants.{Next as TheNext, Claim as TheClaim, Act as TheAct, Release as TheRelease}
use Rattle.arc_data.specs.declared.event.Event.TheVariants.{Close as TheClose, Show as TheShow, List as TheList}
use Rattle.alarm_rules.specs.SetupLines.{Operator}
use Rattle.alarm_rules.specs.Setups.{Setup, has_operator, operator_of}
use Rattle.desk_wire.specs.Commands.{command_of}
use Rattle.desk_wire.specs.Replies.{welcome_of}
use Rattle.desk_wire.specs.declared.command.Command.{Command}
use Rattle.desk_wire.specs.declared.command.Command.TheVariants.{Login, Quit, Next, Claim, Act, Release, Close, Show, List as Rows}

-- how many bytes a line has at most
abbrev pub line_limit : ℕ
line_limit = 1024

-- the command that a line spells; none where it is longer, or spells none
abbrev pub command_in : List ℕ → Option Command
command_in line = if nat_le (length line) line_limit then command_of line else None

-- Who is logged in.

-- there is an operator, with this PIN
abbrev pub is_by_pin : List ℕ → Option Operator → Bool
is_by_pin pin None = false
is_by_pin pin (Some operator) = bytes_eq operator.pin pin

-- the setup has an operator of this name, with this PIN
abbrev pub has_pin : Setup → List ℕ → List ℕ → Bool
has_pin setup name pin = is_by_pin pin (operator_of setup name)

-- for whom a session acts after a command: a login with a name and its PIN changes that, and nothing else does
abbrev pub acts_after : Setup → Option (List ℕ) → Option Command → Option (List ℕ)
acts_after setup operator (Some (Login name pin)) = if has_pin setup name pin then Some name else operator
acts_after setup operator other = operator

-- and after some lines
abbrev pub acts_over : Setup → Option (List ℕ) → List (List ℕ) → Option (List ℕ)
acts_over setup operator [] = operator
acts_over setup operator (line ∷ lines) = acts_over setup (acts_after setup operator (command_in line)) lines

-- What is submitted.

-- the event of a command, for an operator
abbrev pub event_by : List ℕ → Command → Option Event
event_by operator Next = Some (TheNext operator)
event_by operator (Claim number) = Some (TheClaim operator number)
event_by operator (Act number step outcome) = Some (TheAct operator number step outcome)
event_by operator (Release number) = Some (TheRelease operator number)
event_by operator (Close number code) = Some (TheClose operator number code)
event_by operator (Show number) = Some (TheShow number)
event_by operator Rows = Some TheList
event_by operator command = None

-- for the operator for whom the session acts; nothing where it acts for nobody
abbrev pub event_of : Option (List ℕ) → Option Command → Option Event
event_of (Some operator) (Some command) = event_by operator command
event_of operator command = None

-- What is answered without asking the hall.

abbrev pub login_text : Bool → List ℕ → List ℕ
login_text true name = welcome_of name
login_text false name = codes "denied\n"

-- The line that answers a line which submits nothing: what is no command; a login; the end; and a command of a session that acts
-- for nobody.
abbrev pub text_of : Setup → Option Command → List ℕ
text_of setup None = codes "what\n"
text_of setup (Some (Login name pin)) = login_text (has_pin setup name pin) name
text_of setup (Some Quit) = codes "bye\n"
text_of setup (Some other) = codes "denied\n"

-- The end.

abbrev pub ends : Option Command → Bool
ends (Some Quit) = true
ends other = false

abbrev pub is_quit : List ℕ → Bool
is_quit line = ends (command_in line)

-- one of the lines ends the session
abbrev pub quits : List (List ℕ) → Bool
quits lines = list_any is_quit lines

-- the lines up to the first that ends the session, that one included
abbrev pub up_to_quit : List (List ℕ) → List (List ℕ)
up_to_quit [] = []
up_to_quit (line ∷ lines) = if is_quit line then line ∷ [] else line ∷ up_to_quit lines

-- whom a session acts for has a name, where it acts for someone
abbrev pub is_named : Option (List ℕ) → Bool
is_named None = true
is_named (Some operator) = is_name operator

-- and is an operator of the setup
abbrev pub is_known : Setup → Option (List ℕ) → Bool
is_known setup None = true
is_known setup (Some operator) = has_operator setup operator
