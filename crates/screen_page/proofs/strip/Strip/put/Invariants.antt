use Rattle.std.proofs.Common.{◌≡◌, ◌≤◌, ◌+◌, ◌++◌, length, take}
use Rattle.std.specs.Prelude.{map}
use Rattle.desk_screen.specs.Plain.{plain_byte}
use Rattle.screen_page.proofs.strip.Strip.put.Given as goal

-- the bytes so far are shown, and there is room for all of them
abbrev pub invariant-loop-byte : goal.invariant-loop-byte
invariant-loop-byte l = record {
  shown : l.self ≡ l.fn.self ++ map plain_byte (take l.byte-index l.front);
  room : length l.fn.self + length l.front ≤ 160;
}
