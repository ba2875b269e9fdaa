-- Reading the body of a record again.
use Rattle.std.specs.Prelude.{◌<◌, ◌^◌, ℕ, List, length, Option, IfSome}
use Rattle.arc_io.specs.Areas.{Areas}
use Rattle.arc_io.specs.declared.disk.Area.{Area}
use Rattle.disk_journal.specs.Standing.{all_of, size_of}
use Rattle.disk_journal.specs.Journal.{HasBodies, IsGateBehind}

-- These bodies of a version stand in the area, that of a summary, or none, first, and the gate of record i stands at the place.
pub record HasRecordAt (told : Option Areas) (area : Area) (version : ℕ) (summary : Option (List ℕ)) (bodies : List (List ℕ))
    (i place : ℕ) : Type 0 where
  pub below : i < length bodies
  pub few : size_of summary bodies < 2 ^ 64
  pub gate : IsGateBehind told summary bodies i place
  pub file : IfSome told (HasBodies area version (all_of summary bodies))
