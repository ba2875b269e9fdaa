use Rattle.book_lines.proofs.WordLemmas.{words_ask}
use Rattle.book_lines.proofs.laws.law_words_ask.Goals as goal

pub returns : goal.returns
returns c = words_ask
