use Rattle.civil_time.specs.Stamp.{stamp}
use Rattle.civil_time.proofs.StampLemmas.{stamp_time-stamp}
use Rattle.book_lines.specs.Asked.{moment_at}
use Rattle.book_lines.proofs.laws.law_moments_are_read.Goals as goal

pub returns : goal.returns
unfolding stamp moment_at
returns c = λ last t moment. stamp_time-stamp t moment
