-- How a script began.
use Rattle.std.specs.Prelude.{ℕ, List}
use Rattle.arc_io.specs.Seen.{PortSeen}
use Rattle.centre_rules.specs.History.{Entry}
use Rattle.centre_rules.specs.Summary.{Summary}
use Rattle.disk_journal.specs.declared.journal.Limits.{Limits}

-- over which disk, with which setup and limits, over which summary and past, and what its port told; and the disk behind the opening of
-- its journal
pub record Begun (D : Type 0) : Type 0 where
  pub disk : D
  pub setup : List ℕ
  pub limits : Limits
  pub base : Summary
  pub past : List Entry
  pub port : PortSeen
  pub opened : D
