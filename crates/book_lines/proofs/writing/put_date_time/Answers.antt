use Rattle.civil_time.specs.Stamp.{stamp}
use Rattle.std.proofs.Common.{refl}
use Rattle.book_lines.specs.Dates.{date_time}
use Rattle.book_lines.proofs.writing.put_date_time.Goals as goal

pub returns-clause-text : goal.returns-clause-text
unfolding stamp date_time
returns-clause-text c = rw (c.put.ensures.text, c.stamp_of-stamp.ensures) refl
