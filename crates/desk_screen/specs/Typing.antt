-- What was typed.
use Rattle.std.specs.Prelude.{ℕ, ◌==◌, ◌||◌, ◌&&◌, List, [], ◌∷◌, ◌++◌, Bool, true, false, Option, Some, None, is_none, nat_le, length}
use Rattle.std.specs.Prelude.{if◌then◌else◌}
use Rattle.arc_data.specs.Digits.{is_digit, is_name_byte, is_name}
use Rattle.alarm_rules.specs.SetupWords.{is_pin, word_that}
use Rattle.desk_said.specs.declared.said.Said.{Said}
use Rattle.desk_said.specs.declared.said.Said.TheVariants.{Welcome, Denied}
use Rattle.desk_screen.specs.Inputs.{Input, Key, Answer, Second, Made, Lost, Sitting, news}
use Rattle.desk_screen.specs.Orders.{user, way}
use Rattle.desk_screen.specs.Owning.{own, own_number, same_number}

abbrev pub is_enter : ℕ → Bool
is_enter key = key == 13 || key == 10

-- Which keys are text: the bytes of names while nobody is logged in, and digits at work. Where a name was typed to log in with, and its PIN
-- is still awaited at work, digits are meant for that PIN, and no text.
abbrev pub is_text : Option (List ℕ) → Option (List ℕ) → ℕ → Bool
is_text None name key = is_name_byte key
is_text (Some user) name key = is_none name && is_digit key

-- as many bytes as the longest name has, or the longest number
abbrev pub room : Option (List ℕ) → ℕ
room None = 16
room (Some user) = 20

-- a byte more, of at most so many
abbrev pub longer : ℕ → List ℕ → ℕ → List ℕ
longer most text key = if nat_le most (length text) then text else text ++ key ∷ []

-- A login is answered, or a command of somebody who is not logged in. What was typed until then was meant for another moment: digits of a
-- PIN are no number of an incident.
abbrev pub tells_login : Said → Bool
tells_login (Welcome name) = true
tells_login Denied = true
tells_login other = false

abbrev pub typed_after : Input → Said → Option (List ℕ) → Option (List ℕ) → List ℕ → List ℕ
typed_after (Key key) said user name before = if is_text user name key then longer (room user) before key else []
typed_after (Answer line) said user name before = if tells_login said then [] else before
typed_after Second said user name before = before
typed_after Made said user name before = []
typed_after Lost said user name before = []

-- an enter ends the name, and another one the PIN; behind what can be no PIN, that is asked for again
abbrev pub named : List ℕ → Option (List ℕ) → Option (List ℕ)
named typed None = word_that is_name typed
named typed (Some name) = if is_pin typed then None else Some name

-- an escape gives the name up; at work each key that is no digit does
abbrev pub name_key : Option (List ℕ) → ℕ → List ℕ → Option (List ℕ) → Option (List ℕ)
name_key (Some user) key typed before = if is_digit key then before else None
name_key None key typed before = if is_enter key then named typed before else if key == 27 then None else before

-- No line of the desk and no connection ends the typing of a PIN: its digits are no name and no number, whatever comes between them.
abbrev pub name_after : Input → Option (List ℕ) → List ℕ → Option (List ℕ) → Option (List ℕ)
name_after (Key key) user typed before = name_key user key typed before
name_after (Answer line) user typed before = before
name_after Second user typed before = before
name_after Made user typed before = before
name_after Lost user typed before = before

unfoldable mutual
  -- The text typed since the last other key: the number of an incident, or a name or a PIN.
  pub typed : Sitting → List ℕ
  typed [] = []
  typed (t ∷ s) = typed_after t.input (news t.input (way s)) (user s) (name s) (typed s)

  -- The name that was typed to log in with, while its PIN is awaited.
  pub name : Sitting → Option (List ℕ)
  name [] = None
  name (t ∷ s) = name_after t.input (user s) (typed s) (name s)

abbrev pub last_after : Input → Said → Bool → Option ℕ → Option ℕ
last_after (Key key) said same before = Some key
last_after (Answer line) said same before = if tells_login said then None else if same then before else None
last_after Second said same before = before
last_after Made said same before = None
last_after Lost said same before = None

-- The newest key of the connection, since a login was answered and since the same incident is the operator's own.
unfoldable pub last_key : Sitting → Option ℕ
last_key [] = None
last_key (t ∷ s) =
    last_after t.input (news t.input (way s)) (same_number (own_number (own s)) (own_number (own (t ∷ s)))) (last_key s)
