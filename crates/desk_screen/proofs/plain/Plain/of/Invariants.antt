use Rattle.std.proofs.Common.{◌≡◌, ◌≤◌, length, take}
use Rattle.std.specs.Prelude.{map}
use Rattle.desk_screen.specs.Plain.{plain_byte}
use Rattle.desk_screen.proofs.plain.Plain.of.Given as goal

-- the bytes so far are shown, and there are 160 at most
abbrev pub invariant-loop-byte : goal.invariant-loop-byte
invariant-loop-byte l = record {
  shown : l.plain ≡ map plain_byte (take l.byte-index l.front);
  short : length l.front ≤ 160;
}
