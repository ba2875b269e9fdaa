-- What lies under the lock.
use Rattle.std.specs.Prelude.{◌≡◌, ◌≤◌, ◌⊎◌, ◌+◌, ℕ, List, [], ◌++◌, true, Some, length}
use Rattle.atomic_table.specs.Seated.{TableId}
use Rattle.atomic_table.specs.Table.{Me}
use Rattle.arc_io.specs.Disks.{DiskSeen}
use Rattle.centre_core.specs.Setting.{IsSetting}
use Rattle.centre_rules.specs.Summary.{Summary}
use Rattle.centre_store.specs.Stores.{Stored, HasFailed, StoreStands}
use Rattle.line_gate.specs.Entries.{Entry}
use Rattle.line_gate.specs.declared.view.View.{View}
use Rattle.line_gate.specs.Terms.{Terms, IsOfGate}

-- the book's view, and the store
pub record UnderLock (D : Type 0) : Type 0 where
  pub book : View
  pub store : Stored D

-- a seat that is the book, names nothing, and holds no slot
pub record IsBookSeat (t : Terms) (table : TableId) (me : Me (Unit {0}) View) : Type 0 where
  pub table_is : table ≡ t.table
  pub carries : me.1 ≡ []
  pub is_book : me.0.book ≡ true
  pub free : me.0.named ≡ []

-- over each base the store stands for what the book has seen since
pub record StandsSince {D : Type 0} (seen : D → DiskSeen) (t : Terms) (since : List Entry) (s : Stored D) : Type 0 where
  pub stands : (b : Summary) (base : List Entry) → t.stood b base → StoreStands seen b s (since ++ base)
  pub entries : s.state.entries ≡ t.entries + length since

-- Events were submitted together, and the disk failed: nothing is said of the store but that it answers Down from then on.
pub record IsBroken {D : Type 0} (seen : D → DiskSeen) (t : Terms) (s : Stored D) : Type 0 where
  pub groups : t.groups ≡ true
  pub failed : HasFailed seen s

-- Over each base the store stands for what the book has seen since, unless it is broken. That is the end of a history of the gate, and
-- what was told is at most the disk's count.
pub record IsKept {D : Type 0} (seen : D → DiskSeen) (t : Terms) (since : List Entry) (most : ℕ) (s : Stored D) : Type 0 where
  pub stands : StandsSince seen t since s ⊎ IsBroken seen t s
  pub of_gate : IsOfGate t since
  pub most_told : most ≤ (seen s.journal.disk).faults
  pub at_open : s.at_open ≡ t.at_open
  pub limits : s.journal.limits ≡ t.limits
  pub text : s.state.sum.text ≡ Some t.text
  pub setting : IsSetting s.state.sum.text

-- what is so of the locked value whenever the lock is free
pub record IsUnderLock {D : Type 0} (seen : D → DiskSeen)
    (t : Terms) (count : ℕ) (table : TableId) (me : Me (Unit {0}) View) (s : Stored D) : Type 0 where
  pub seat : IsBookSeat t table me
  pub count_is : me.0.count ≡ count
  pub kept : IsKept seen t me.0.seen me.0.told s

-- the book after entries were entered: its seat is as before, and it has seen them
pub record IsEntered (es : List Entry) (table from : TableId) (me was : Me (Unit {0}) View) : Type 0 where
  pub table_is : table ≡ from
  pub carries : me.1 ≡ was.1
  pub is_book : me.0.book ≡ true
  pub free : me.0.named ≡ []
  pub seen : me.0.seen ≡ es ++ was.0.seen
  pub count : me.0.count ≡ was.0.count
  pub told : me.0.told ≡ was.0.told
