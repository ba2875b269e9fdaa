-- What a run is handed, as its clauses see it.
use Rattle.std.specs.Prelude.{◌⊎◌}
use Rattle.arc_io.specs.Seen.{PortSeen}

-- what the setup's source and the port tell, and the disk
pub record Handed (D : Type 0) : Type 0 where
  pub setup : PortSeen
  pub port : PortSeen
  pub disk : D

-- one of two things is so of what it is handed and of what it hands back
abbrev pub Either : {D : Type 0} → (Handed D → Handed D → Type 0) → (Handed D → Handed D → Type 0) → Handed D → Handed D → Type 0
Either A B r r' = A r r' ⊎ B r r'
