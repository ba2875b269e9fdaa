-- A gate before it has its name.
use Rattle.std.specs.Prelude.{◌≡◌, ℕ, List, [], Bool, Some}
use Rattle.atomic_table.specs.Seated.{TableId}
use Rattle.atomic_table.specs.Table.{Me}
use Rattle.arc_io.specs.Disks.{DiskSeen}
use Rattle.centre_rules.specs.Summary.{Summary}
use Rattle.centre_core.specs.Setting.{IsSetting}
use Rattle.centre_store.specs.Stores.{Stored, StoreStands}
use Rattle.line_gate.specs.Entries.{Entry}
use Rattle.line_gate.specs.declared.view.View.{View}
use Rattle.line_gate.specs.Views.{first_view, counting, pass_of, settled}
use Rattle.line_gate.specs.Terms.{Terms}

-- its table, its store, and the text of the setup in force
pub record BlankSeen (D : Type 0) : Type 0 where
  pub table : TableId
  pub store : Stored D
  pub text : List ℕ

-- it has the book's seat and that of the first pass, and nobody has made a step
pub record IsBlank {D : Type 0} (table from first_from : TableId) (book first : Me (Unit {0}) View) (s : Stored D) (text : List ℕ)
    : Type 0 where
  pub words : table.words ≡ 2
  pub book_at : from ≡ table
  pub book_is : book ≡ (counting first_view, [])
  pub first_at : first_from ≡ table
  pub first_is : first ≡ (settled (pass_of first_view), [])
  pub text_is : Some text ≡ s.state.sum.text
  pub setting : IsSetting s.state.sum.text

-- The name is the gate's. Its bases are histories for which the store stands.
pub record Names {D : Type 0} (seen : D → DiskSeen) (t : Terms) (b : BlankSeen D) : Type 0 where
  pub table : b.table ≡ t.table
  pub at_open : b.store.at_open ≡ t.at_open
  pub limits : b.store.journal.limits ≡ t.limits
  pub entries : b.store.state.entries ≡ t.entries
  pub text : b.text ≡ t.text
  pub stood : (s : Summary) (base : List Entry) → t.stood s base → StoreStands seen s b.store base

-- the name of the gate that a blank will be, with groups or without: its bases are all histories for which the store stands
abbrev pub terms_of : {D : Type 0} → Bool → (D → DiskSeen) → BlankSeen D → Terms
terms_of groups seen b = record {
  table = b.table;
  at_open = b.store.at_open;
  limits = b.store.journal.limits;
  entries = b.store.state.entries;
  text = b.text;
  groups = groups;
  stood = λ s base. StoreStands seen s b.store base;
}
