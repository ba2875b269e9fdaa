-- What a script goes on from: a summary that areas give, and a history over it that can be read again; and what a crash leaves there.
use Rattle.std.specs.Prelude.{ℕ, List}
use Rattle.arc_io.specs.Disks.{DiskSeen}
use Rattle.centre_rules.specs.History.{Entry}
use Rattle.centre_rules.specs.Summary.{Summary}
use Rattle.centre_store.specs.Calls.{LeavesFrom}
use Rattle.centre_store.specs.Given.{IsGiven}
use Rattle.centre_store.specs.StoreHalls as Store
use Rattle.centre_store.specs.Stores.{Stored}

abbrev pub IsReadable : Summary → List Entry → Type 0
IsReadable base h = IsGiven base × Store.IsReadable base h

-- Where a crash leaves of one store, since whatever moment, nothing past a history, it leaves of another one nothing past this.
abbrev pub LeavesOn : {D : Type 0} → (D → DiskSeen) → Summary → Stored D → Stored D → List Entry → List Entry → Type 0
LeavesOn seen base old new h x =
    (t : ℕ) (k : List Entry) → LeavesFrom t k old.at_open (seen old.journal.disk) base h
    → LeavesFrom t k new.at_open (seen new.journal.disk) base x
