-- Which command is on the way, which one waits to be sent, and what is sent next.
use Rattle.std.specs.Prelude.{ℕ, List, [], ◌∷◌, Bool, true, false, Option, Some, None, if◌then◌else◌, codes}
use Rattle.std.specs.Option.{option_map, option_or}
use Rattle.desk_wire.specs.declared.command.Command.{Command}
use Rattle.desk_wire.specs.declared.command.Command.TheVariants.{Login, Quit, Next, Claim, Act, Release, Close, Show, List as Rows}
use Rattle.desk_said.specs.declared.said.Said.{Said}
use Rattle.desk_said.specs.declared.said.Said.TheVariants.{Welcome, Denied}
use Rattle.desk_screen.specs.Inputs.{Input, Key, Answer, Second, Made, Lost, Sitting, is_break, news}
use Rattle.desk_screen.specs.declared.order.Order.{Order}
use Rattle.desk_screen.specs.declared.order.Order.TheVariants.{Typed, Polled}
use Rattle.desk_screen.specs.declared.order.Poll.TheVariants.{Whole, One}

-- a command as it may be shown: without the digits of a PIN
abbrev pub masked : Command → Command
masked (Login name pin) = Login name (codes "****")
masked Quit = Quit
masked Next = Next
masked (Claim number) = Claim number
masked (Act number step outcome) = Act number step outcome
masked (Release number) = Release number
masked (Close number code) = Close number code
masked (Show number) = Show number
masked Rows = Rows

abbrev pub masked_order : Order → Order
masked_order (Typed command) = Typed (masked command)
masked_order (Polled poll) = Polled poll

-- the command of an operator's own
abbrev pub typed_of : Option Order → Option Command
typed_of None = None
typed_of (Some (Typed command)) = Some command
typed_of (Some (Polled poll)) = None

-- what of a command on the way is still there behind an input: an answer ends it, and so does a connection that is lost
abbrev pub way_left : Input → Option Order → Option Order
way_left (Key key) before = before
way_left (Answer line) before = None
way_left Second before = before
way_left Made before = None
way_left Lost before = None

abbrev pub way_sent : Option Order → Option Order → Option Order
way_sent None left = left
way_sent (Some order) left = Some (masked_order order)

-- The command on the way, which has no answer yet.
unfoldable pub way : Sitting → Option Order
way [] = None
way (t ∷ s) = way_sent t.sent (way_left t.input (way s))

-- what waits to be sent, behind what a key asked; a connection that is lost takes it along
abbrev pub wish_asked : Input → Option Command → Option Command → Option Command
wish_asked input asked before = if is_break input then None else option_or asked before

abbrev pub wish_left : Option Order → Option Command → Option Command
wish_left None wish = wish
wish_left (Some (Typed command)) wish = None
wish_left (Some (Polled poll)) wish = wish

-- The command that a key asked for and that was not sent yet.
unfoldable pub wish : Sitting → Option Command
wish [] = None
wish (t ∷ s) = wish_left t.sent (wish_asked t.input t.asked (wish s))

-- Whether there is a connection.
abbrev pub connected_after : Input → Bool → Bool
connected_after (Key key) before = before
connected_after (Answer line) before = before
connected_after Second before = before
connected_after Made before = true
connected_after Lost before = false

unfoldable pub is_connected : Sitting → Bool
is_connected [] = false
is_connected (t ∷ s) = connected_after t.input (is_connected s)

-- Whom the session acts for, as the desk told it last.
abbrev pub logged : Said → Option (List ℕ) → Option (List ℕ)
logged (Welcome name) before = Some name
logged Denied before = None
logged other before = before

abbrev pub user_after : Input → Said → Option (List ℕ) → Option (List ℕ)
user_after input said before = if is_break input then None else logged said before

unfoldable pub user : Sitting → Option (List ℕ)
user [] = None
user (t ∷ s) = user_after t.input (news t.input (way s)) (user s)

-- the command that was lost with its connection: that on the way, or else the one that waited to be sent
abbrev pub undone_lost : Input → Option Order → Option Command → Option Command → Option Command
undone_lost input way wish before =
    if is_break input then option_or (typed_of way) (option_or (option_map masked wish) before) else before

abbrev pub is_login : Command → Bool
is_login (Login name pin) = true
is_login Quit = false
is_login Next = false
is_login (Claim number) = false
is_login (Act number step outcome) = false
is_login (Release number) = false
is_login (Close number code) = false
is_login (Show number) = false
is_login Rows = false

abbrev pub undone_asked : Option Command → Option Command → Option Command
undone_asked None before = before
undone_asked (Some command) before = if is_login command then before else None

-- The command that is shown as not done, until the operator asks for another one than a login.
unfoldable pub undone : Sitting → Option Command
undone [] = None
undone (t ∷ s) = undone_asked t.asked (undone_lost t.input (way s) (wish s) (undone s))

-- Whether the list, or the operator's own incident, is to be looked at again: since the last second, or the last answer to a command of
-- the operator's.
abbrev pub owed_told : Option Order → Bool → Bool
owed_told None before = before
owed_told (Some (Typed command)) before = true
owed_told (Some (Polled poll)) before = before

abbrev pub owed_after : Input → Option Order → Bool → Bool
owed_after (Key key) way before = before
owed_after (Answer line) way before = owed_told way before
owed_after Second way before = true
owed_after Made way before = before
owed_after Lost way before = before

abbrev pub list_paid : Option Order → Bool → Bool
list_paid None owed = owed
list_paid (Some (Typed command)) owed = owed
list_paid (Some (Polled Whole)) owed = false
list_paid (Some (Polled (One number))) owed = owed

abbrev pub show_paid : Option Order → Bool → Bool
show_paid None owed = owed
show_paid (Some (Typed command)) owed = owed
show_paid (Some (Polled Whole)) owed = owed
show_paid (Some (Polled (One number))) owed = false

unfoldable pub list_owed : Sitting → Bool
list_owed [] = false
list_owed (t ∷ s) = list_paid t.sent (owed_after t.input (way s) (list_owed s))

unfoldable pub show_owed : Sitting → Bool
show_owed [] = false
show_owed (t ∷ s) = show_paid t.sent (owed_after t.input (way s) (show_owed s))

-- what the screen asks by itself: an incident of the operator's own of which it was not told enough, and then the list
abbrev pub polled : Option ℕ → Bool → Option Order
polled (Some number) list = Some (Polled (One number))
polled None true = Some (Polled Whole)
polled None false = None

-- What is sent: nothing without a connection or while a command is on the way; else what the operator asked for; else, where somebody
-- is logged in, a look.
abbrev pub due_order : Bool → Option Order → Option Command → Option (List ℕ) → Option ℕ → Bool → Option Order
due_order false way wish user number list = None
due_order true (Some order) wish user number list = None
due_order true None (Some command) user number list = Some (Typed command)
due_order true None None None number list = None
due_order true None None (Some name) number list = polled number list
