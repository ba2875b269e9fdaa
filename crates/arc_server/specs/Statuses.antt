-- Numbers and texts of the statuses.
use Rattle.std.specs.Prelude.{ℕ, ◌++◌, List, [], codes, decimal}
use Rattle.arc_data.specs.declared.setup_fault.LineKind.{LineKind}
use Rattle.arc_data.specs.declared.setup_fault.LineKind.TheVariants.{Form, BadZone, NoAccount}
use Rattle.arc_data.specs.declared.setup_fault.SetupFault.{SetupFault}
use Rattle.arc_data.specs.declared.setup_fault.SetupFault.TheVariants.{TooLarge, BadLine, TwoSame, TooMany, Memory as NoMemory}
use Rattle.disk_journal.specs.declared.fault.OpenFault.{OpenFault}
use Rattle.disk_journal.specs.declared.fault.OpenFault.TheVariants as Open
use Rattle.arc_serving.specs.declared.side.Side.{Side}
use Rattle.arc_serving.specs.declared.side.Side.TheVariants.{Lines, Desks}
use Rattle.arc_server.specs.declared.status.Status.{Status}
use Rattle.arc_server.specs.declared.status.Status.TheVariants.{Done, Usage, SetupBad, ReadFault, WriteFault, DiskFault, Journal, Full}
use Rattle.arc_server.specs.declared.status.Status.TheVariants.{BadScript, DoorFault, Memory, Spent, Worn, Behind, Strange}
use Rattle.arc_server.specs.declared.status.Which.{Which}
use Rattle.arc_server.specs.declared.status.Which.TheVariants.{Setup, Input, Mail}

-- what a program's run ends with
abbrev pub number_of : Status → ℕ
number_of Done = 0
number_of Usage = 1
number_of (SetupBad fault) = 2
number_of (ReadFault which before now) = 3
number_of (WriteFault before now) = 4
number_of (DiskFault before now) = 5
number_of (Journal fault) = 6
number_of (Full used need records) = 7
number_of (BadScript line) = 8
number_of (DoorFault door before now) = 9
number_of Memory = 10
number_of Spent = 11
number_of (Worn count) = 12
number_of (Behind have count) = 14
number_of (Strange after) = 15

-- a number and what is counted
abbrev pub counted : ℕ → List ℕ → List ℕ
counted number what = decimal number ++ what

-- where in an area or in a text something stands
abbrev pub at_place : List ℕ → ℕ → List ℕ
at_place text place = text ++ counted place (codes "\n")

-- what is wrong with a line of the setup
abbrev pub at_line : ℕ → List ℕ → List ℕ
at_line line text = codes "setup: line " ++ counted line text

abbrev pub kind_text : LineKind → List ℕ
kind_text Form = codes ": not a setup line\n"
kind_text BadZone = codes ": no such zone rule\n"
kind_text NoAccount = codes ": no such account\n"

abbrev pub setup_text : SetupFault → List ℕ
setup_text TooLarge = codes "setup: too large\n"
setup_text (BadLine line kind) = at_line line (kind_text kind)
setup_text (TwoSame line first) = at_line line (at_place (codes ": same as line ") first)
setup_text (TooMany line limit) = at_line line (at_place (codes ": more than ") limit)
setup_text NoMemory = codes "out of memory\n"

abbrev pub read_text : Which → List ℕ
read_text Setup = codes "read fault on setup\n"
read_text Input = codes "read fault on input\n"
read_text Mail = codes "read fault on mail\n"

abbrev pub door_text : Side → List ℕ
door_text Lines = codes "door fault on lines\n"
door_text Desks = codes "door fault on desks\n"

abbrev pub journal_text : OpenFault → List ℕ
journal_text (Open.NotJournal byte) = at_place (codes "journal: not a journal at byte ") byte
journal_text (Open.WrongVersion found) = codes "journal: wrong version\n"
journal_text (Open.Damaged place) = at_place (codes "journal: damaged at ") place
journal_text (Open.TooWide size) = codes "journal: too wide\n"
journal_text (Open.DiskFault before now) = codes "disk fault\n"
journal_text Open.Memory = codes "out of memory\n"

abbrev pub full_text : ℕ → ℕ → ℕ → List ℕ
full_text used need records =
    codes "journal full: " ++ counted used (codes " used, ") ++ counted need (codes " needed, ") ++ counted records (codes " records\n")

abbrev pub behind_text : ℕ → ℕ → List ℕ
behind_text have count = codes "mirror behind: " ++ counted have (at_place (codes " of ") count)

-- the line that it writes on standard error, or nothing
unfoldable pub text_of_status : Status → List ℕ
text_of_status Done = []
text_of_status Usage =
    codes "usage: line | desk | script | report | drill N | serve LINES DESKS SESSIONS | panel ACCOUNT | feed | mirror | udp N "
    ++ codes "| gather LINES DESKS SESSIONS\n"
text_of_status (SetupBad fault) = setup_text fault
text_of_status (ReadFault which before now) = read_text which
text_of_status (WriteFault before now) = codes "write fault\n"
text_of_status (DiskFault before now) = codes "disk fault\n"
text_of_status (Journal fault) = journal_text fault
text_of_status (Full used need records) = full_text used need records
text_of_status (BadScript line) = at_place (codes "script: line ") line
text_of_status (DoorFault door before now) = door_text door
text_of_status Memory = codes "out of memory\n"
text_of_status Spent = codes "input too long\n"
text_of_status (Worn count) = codes "count spent\n"
text_of_status (Behind have count) = behind_text have count
text_of_status (Strange after) = at_place (codes "strange message after ") after
