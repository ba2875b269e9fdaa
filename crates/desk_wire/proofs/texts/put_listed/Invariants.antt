use Rattle.std.proofs.Common.{◌≡◌, ◌≤◌, ◌+◌, ◌*◌, ◌++◌, length, take}
use Rattle.std.specs.Prelude.{codes, decimal}
use Rattle.std.specs.List.{flat_map}
use Rattle.desk_wire.specs.Replies.{row_text}
use Rattle.desk_wire.proofs.texts.put_listed.Given as goal

-- the rows so far are printed, and each takes at most 99 bytes
abbrev pub invariant-loop-i : goal.invariant-loop-i
invariant-loop-i l = record {
  printed : l.line ≡ codes "list " ++ decimal l.listing.total ++ flat_map row_text (take l.i l.listing.rows);
  short : length l.line ≤ 25 + 99 * l.i;
  few : l.i-end ≤ 16;
}
