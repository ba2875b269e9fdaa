-- The line that a desk prints for each reply of the centre.
use Rattle.std.specs.Prelude.{ℕ, ◌++◌, List, [], ◌∷◌, Bool, if◌then◌else◌, Option, codes, decimal}
use Rattle.std.specs.List.{flat_map}
use Rattle.std.specs.Option.{option_map_or, unwrap_or}
use Rattle.arc_data.specs.Classes.{name_of}
use Rattle.arc_data.specs.declared.listing.Listing.{Listing}
use Rattle.arc_data.specs.declared.listing.Row.{Row}
use Rattle.arc_data.specs.declared.listing.View.{View}
use Rattle.arc_data.specs.declared.reply.Reply.{Reply}
use Rattle.arc_data.specs.declared.reply.Reply.TheVariants.{Adopted, Started, Taken, Repeat, Heard, Raised, Claimed, Recorded}
use Rattle.arc_data.specs.declared.reply.Reply.TheVariants.{Released, Closed, Shown, Listed, NotOpen, HeldBy, BusyWith, NotYours}
use Rattle.arc_data.specs.declared.reply.Reply.TheVariants.{Expected, Missing, NoneWaiting, Unknown}
use Rattle.arc_data.specs.declared.signal.Class.{Class}
use Rattle.arc_data.specs.declared.step.Step.{Step}
use Rattle.desk_wire.specs.Names.{step_name}

abbrev pub step_or_none : Option Step → List ℕ
step_or_none step = option_map_or step_name step (codes "none")

abbrev pub yes_or_no : Bool → List ℕ
yes_or_no answer = if answer then codes "yes" else codes "no"

-- the name of a line, or `-` where no line is named
abbrev pub line_or_dash : List ℕ → List ℕ
line_or_dash [] = codes "-"
line_or_dash (byte ∷ bytes) = byte ∷ bytes

-- a text, and the end of the line
abbrev pub ended : List ℕ → List ℕ
ended text = text ++ codes "\n"

-- a text, a number and the end of the line
abbrev pub numbered : List ℕ → ℕ → List ℕ
numbered text number = ended (text ++ decimal number)

abbrev pub claimed : ℕ → Class → List ℕ → List ℕ
claimed number class account =
    ended (codes "claimed " ++ decimal number ++ codes " " ++ name_of class ++ codes " " ++ account)

abbrev pub recorded : ℕ → ℕ → List ℕ
recorded number left = ended (codes "recorded " ++ decimal number ++ codes " left " ++ decimal left)

-- one incident of a list
abbrev pub row_text : Row → List ℕ
row_text r =
    codes " " ++ decimal r.number ++ codes "/" ++ name_of r.class ++ codes "/" ++ r.account ++ codes "/" ++ unwrap_or r.holder (codes "-")

abbrev pub listed : Listing → List ℕ
listed l = ended (codes "list " ++ decimal l.total ++ flat_map row_text l.rows)

-- one incident: what it is and when it opened, and then what has become of it, and by which line it came
abbrev pub opened : View → List ℕ
opened v =
    codes "incident " ++ decimal v.number ++ codes " " ++ name_of v.class ++ codes " " ++ v.account ++ codes " code " ++ v.code
    ++ codes " opened " ++ decimal v.at

abbrev pub since : List ℕ → View → List ℕ
since text v =
    ended (text ++ codes " signals " ++ decimal v.signals ++ codes " restored " ++ yes_or_no v.restored
    ++ codes " holder " ++ unwrap_or v.holder (codes "none") ++ codes " next " ++ step_or_none v.expected
    ++ codes " via " ++ line_or_dash v.via)

abbrev pub shown : View → List ℕ
shown v = since (opened v) v

abbrev pub held : List ℕ → List ℕ
held operator = ended (codes "held by " ++ operator)

abbrev pub expected : Option Step → List ℕ
expected step = ended (codes "expected " ++ step_or_none step)

abbrev pub missing : Step → List ℕ
missing step = ended (codes "missing " ++ step_name step)

-- the line, which ends with a line feed
unfoldable pub line_of : Reply → List ℕ
line_of Adopted = ended (codes "adopted")
line_of Started = ended (codes "started")
line_of Taken = ended (codes "taken")
line_of (Repeat first) = ended (codes "repeat")
line_of Heard = ended (codes "heard")
line_of (Raised count) = numbered (codes "raised ") count
line_of (Claimed number class account) = claimed number class account
line_of (Recorded number left) = recorded number left
line_of (Released number) = numbered (codes "released ") number
line_of (Closed number) = numbered (codes "closed ") number
line_of (Shown view) = shown view
line_of (Listed listing) = listed listing
line_of (NotOpen number) = numbered (codes "not open ") number
line_of (HeldBy operator) = held operator
line_of (BusyWith number) = numbered (codes "busy with ") number
line_of (NotYours number) = numbered (codes "not yours ") number
line_of (Expected step) = expected step
line_of (Missing step) = missing step
line_of NoneWaiting = ended (codes "none waiting")
line_of Unknown = ended (codes "unknown")

-- the answer to a login: the name of the operator, as the setup has it
unfoldable pub welcome_of : List ℕ → List ℕ
welcome_of name = ended (codes "ok " ++ name)
