-- Books that go on from one another.
use Rattle.std.specs.Prelude.{◌≡◌, ℕ, ◌+◌, ◌++◌, List, Some, None}
use Rattle.centre_rules.specs.History.{Entry}
use Rattle.centre_rules.specs.Summary.{Summary}
use Rattle.book_lines.specs.Books.{book_of}
use Rattle.book_lines.specs.declared.options.Options.{Options}
use Rattle.book_lines.specs.declared.options.Place.TheVariants.{Number}

-- the options without places, up to a record, and from a record on

abbrev pub whole : Options → Options
whole o = record o { since = None; until = None }

abbrev pub ending : ℕ → Options → Options
ending n o = record o { since = None; until = Some (Number n) }

abbrev pub beginning : ℕ → Options → Options
beginning n o = record o { since = Some (Number n); until = None }

-- A book up to a record, and behind it the book from the next one on, are the whole book.
abbrev pub BooksGoOn : Type 0
BooksGoOn =
    (o : Options) (base : Summary) (n : ℕ) (h : List Entry)
    → book_of (ending n o) base h ++ book_of (beginning (n + 1) o) base h ≡ book_of (whole o) base h
