use Rattle.book_lines.proofs.MomentLemmas.{moment_read}
use Rattle.book_lines.proofs.laws.law_other_words_are_not_read.Goals as goal

pub returns : goal.returns
returns c = moment_read
