use Rattle.std.proofs.Common.{◌≡◌, ◌≤◌, ◌+◌, ◌*◌, ◌++◌, length, take}
use Rattle.std.specs.List.{flat_map}
use Rattle.book_lines.specs.Fields.{raised_field}
use Rattle.book_lines.proofs.fields.put_raised_fields.Given as goal

-- the signals so far are put, and each takes at most 45 bytes
abbrev pub invariant-loop-x : goal.invariant-loop-x
invariant-loop-x l = record {
  put : l.page ≡ l.fn.page ++ flat_map raised_field (take l.x-index l.carried);
  short : length l.page ≤ length l.fn.page + 45 * l.x-index;
}
