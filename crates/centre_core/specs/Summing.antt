-- What a centre's summary is written of.
use Rattle.std.specs.Prelude.{ℕ}
use Rattle.centre_rules.specs.Summary.{Summary}
use Rattle.event_codec.specs.Spelling.{IsVersion}
use Rattle.summary_rules.specs.Fields.{HasFields}
use Rattle.summary_rules.specs.Conditions.{IsSummary}

-- it has a spelling in some version, of some generation; so has the empty one
pub record IsSpelled (s : Summary) : Type 0 where
  pub version : ℕ
  pub known : IsVersion version
  pub generation : ℕ
  pub fields : HasFields generation s
  pub besides : IsSummary version generation s
