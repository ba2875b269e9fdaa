use Rattle.std.proofs.Common.{◌≡◌, ◌+◌, ◌++◌, length, take, map}
use Rattle.book_lines.specs.Lines.{printed}
use Rattle.book_lines.proofs.words.put_printed.Given as goal

-- the bytes so far are put
abbrev pub invariant-loop-b : goal.invariant-loop-b
invariant-loop-b l = record {
  put : l.page ≡ l.fn.page ++ map printed (take l.b-index l.bytes);
  size : length l.page ≡ length l.fn.page + l.b-index;
}
