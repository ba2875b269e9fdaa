-- How a book ends, and what is written then.
use Rattle.std.specs.Prelude.{◌≡◌, ℕ, List, [], ◌++◌, Option, IfSome, codes, decimal}
use Rattle.std.specs.Io.KnownBytes.{append_known}
use Rattle.arc_io.specs.Seen.{PortSeen}
use Rattle.arc_io.specs.Told.{OnlyReads, OnlyWrites}
use Rattle.book_lines.specs.declared.options.Options.{Options}
use Rattle.disk_journal.specs.declared.fault.OpenFault.{OpenFault}
use Rattle.disk_journal.specs.declared.fault.OpenFault.TheVariants as Open
use Rattle.arc_book.specs.Compiled.{IsEnd, IsFrontWritten, HasCauses}
use Rattle.arc_book.specs.Portions.{Portion, area_book}
use Rattle.arc_book.specs.declared.status.Status.{Status}
use Rattle.arc_book.specs.declared.status.Status.TheVariants.{Done, Usage, ReadFault, WriteFault, Journal, Memory, Spent}

-- the line that tells why an area is refused; the disk, memory and a summary that is too wide have none, since they refuse no area
abbrev pub fault_text : OpenFault → List ℕ
fault_text (Open.NotJournal byte) = codes "journal: not a journal at byte " ++ decimal byte ++ codes "\n"
fault_text (Open.WrongVersion found) = codes "journal: wrong version\n"
fault_text (Open.Damaged place) = codes "journal: damaged at " ++ decimal place ++ codes "\n"
fault_text (Open.DiskFault was is) = []
fault_text (Open.TooWide size) = []
fault_text Open.Memory = []

-- the line of a status on standard error
unfoldable pub text_of_status : Status → List ℕ
text_of_status Done = []
text_of_status Usage =
    codes "usage: arc-book [since PLACE] [until PLACE] [account NUMBER] [incident NUMBER] "
    ++ codes "[operator NAME] [offset MINUTES | zone RULE] [tabs]\n"
text_of_status ReadFault = codes "read fault on input\n"
text_of_status WriteFault = codes "write fault\n"
text_of_status (Journal fault) = fault_text fault
text_of_status Memory = codes "out of memory\n"
text_of_status Spent = codes "input too long\n"

-- the number that the program ends with
abbrev pub number_of : Status → ℕ
number_of Done = 0
number_of Usage = 1
number_of ReadFault = 3
number_of WriteFault = 4
number_of (Journal fault) = 6
number_of Memory = 10
number_of Spent = 11

-- what stands behind the lines of the records: of an area that is refused a line that says so
abbrev pub last_line : Status → List ℕ
last_line (Journal fault) = fault_text fault
last_line status = []

-- what the area's bytes are; where a write failed, nothing is said of them
abbrev pub IsOfArea : {version : ℕ} → Status → Portion version → List ℕ → Type 0
IsOfArea {version} WriteFault told bytes = Unit {0}
IsOfArea {version} status told bytes = IsEnd status told bytes

-- The book and its last line are written, and where a write failed, a front of them.
abbrev pub IsWritten : Status → Option (List ℕ) → Option (List ℕ) → List ℕ → Type 0
IsWritten WriteFault before after book = (other : Status) × IsFrontWritten before after (book ++ last_line other)
IsWritten status before after book = after ≡ append_known before (book ++ last_line status)

-- The book of an area, from a source to a sink: what is written is the book of a portion of it, as the options ask for it, which is read in
-- one version. Done is answered where that is the whole area, and a refusal where the area is the one of no history.
pub record IsTold (options : Options) (status : Status) (all : Option (List ℕ)) (s s' k k' : PortSeen) : Type 0 where
  pub version : ℕ
  pub told : Portion version
  pub area : IfSome all (IsOfArea status told)
  pub written : IsWritten status k.written k'.written (area_book options told)
  pub causes : HasCauses status s s' k k'
  pub reads : OnlyReads s s'
  pub writes : OnlyWrites k k'
