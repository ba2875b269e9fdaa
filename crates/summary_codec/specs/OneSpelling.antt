-- No bytes spell two summaries in one version.
use Rattle.std.specs.Prelude.{◌≡◌, ℕ, List}
use Rattle.centre_rules.specs.Summary.{Summary}
use Rattle.summary_rules.specs.Conditions.{IsSpelling}

-- they are of one generation and one summary
pub record AreOne (generation : ℕ) (s : Summary) (other : ℕ) (t : Summary) : Type 0 where
  pub generations : generation ≡ other
  pub summaries : s ≡ t

abbrev pub SpellsOne : Type 0
SpellsOne = (version : ℕ) (bytes : List ℕ) (generation other : ℕ) (s t : Summary)
    → IsSpelling version generation s bytes → IsSpelling version other t bytes → AreOne generation s other t
