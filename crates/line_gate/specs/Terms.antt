-- What the name of a gate says.
use Rattle.std.specs.Prelude.{◌≡◌, ◌+◌, ◌++◌, ℕ, List, [], Bool, false, Some, All, length}
use Rattle.atomic_table.specs.Seated.{TableId}
use Rattle.alarm_rules.specs.Setups.{meaning}
use Rattle.centre_rules.specs.Summary.{Summary}
use Rattle.centre_rules.specs.Marks.{force}
use Rattle.centre_rules.specs.History.{marks}
use Rattle.centre_rules.specs.Answers.{IsLegal}
use Rattle.centre_core.specs.Runs.{IsSubmitted}
use Rattle.disk_journal.specs.declared.journal.Limits.{Limits}
use Rattle.line_gate.specs.Entries.{Entry}

-- Its table; the count of the disk's faults when the store was opened, and the limits of its journal; how many entries the store had when
-- the gate was made; the text of the setup in force; and whether callers may submit events together at it. A base is a history for which
-- the store stood then: the name has the relation that says for which it did, and what is said of a gate is said for each of them.
pub record Terms : Type 1 where
  pub table : TableId
  pub at_open : ℕ
  pub limits : Limits
  pub entries : ℕ
  pub text : List ℕ
  pub groups : Bool
  pub stood : Summary → List Entry → Type 0

-- the table of no gate
abbrev no_table : TableId
no_table = record { words = 0; slots = 0; views_name = 0; atom = 0; block = 0; offset = 0; slot_names = [] }

-- the name of no gate
abbrev pub no_terms : Terms
no_terms = record {
  table = no_table;
  at_open = 0;
  limits = record { bytes = 0; records = 0 };
  entries = 0;
  text = [];
  groups = false;
  stood = λ b base. ⊥;
}

-- the history is legal over the summary, and the gate's setup is in force after it
pub record IsHistory (t : Terms) (b : Summary) (h : List Entry) : Type 0 where
  pub legal : IsLegal b h
  pub in_force : force b (marks b h) ≡ Some (meaning t.text)

-- of events that callers submit: no Adopt and no Start
abbrev pub AreSubmitted : List Entry → Type 0
AreSubmitted since = All (λ e. IsSubmitted e.event) since

-- the history is this base and, past it, entries of events that callers submit
pub record IsPastBase (base h : List Entry) : Type 0 where
  pub since : List Entry
  pub is : h ≡ since ++ base
  pub submitted : AreSubmitted since

-- What was seen since the gate was made is the end of a history of the gate, over each base, and was submitted by callers; and all bases
-- over one summary have one length.
pub record IsOfGate (t : Terms) (since : List Entry) : Type 0 where
  pub long : (b : Summary) (base : List Entry) → t.stood b base → t.entries ≡ b.recorded + length base
  pub over : (b : Summary) (base : List Entry) → t.stood b base → IsHistory t b (since ++ base)
  pub submitted : AreSubmitted since
