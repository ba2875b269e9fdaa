use Rattle.book_lines.proofs.BookLemmas.{goes_on}
use Rattle.book_lines.proofs.laws.law_books_go_on.Goals as goal

pub returns : goal.returns
returns c = goes_on
