-- For which history the areas of the disk stand at the end of a run.
use Rattle.std.specs.Prelude.{◌⊎◌, ℕ, List}
use Rattle.arc_io.specs.Causes.{Rose}
use Rattle.arc_io.specs.Disks.{DiskSeen}
use Rattle.centre_rules.specs.Summary.{Summary}
use Rattle.centre_rules.specs.History.{Entry}
use Rattle.disk_journal.specs.declared.journal.Limits.{Limits}
use Rattle.centre_store.specs.Given.{HasRecorded}
use Rattle.centre_store.specs.Stores.{IsTorn}

-- how much a journal may hold as it is shipped
abbrev pub shipped : Limits
shipped = record { bytes = 268_435_456; records = 1_000_000 }

-- The areas at a run's end, after this history over a summary, of a disk that had so many faults at the run's entry: they stand for the
-- recorded entries; or the disk has failed since then, and they stand for these, or for these with the record of one more, with which the
-- history can go on.
abbrev pub EndsWith : ℕ → DiskSeen → Summary → List Entry → Type 0
EndsWith entry disk base h = HasRecorded disk base h ⊎ (Rose entry disk.faults × IsTorn disk base h)
