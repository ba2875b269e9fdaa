-- What was read of an input, and what reading and writing leaves of a port.
use Rattle.std.specs.Prelude.{◌≡◌, ◌≤◌, ◌++◌, ℕ, List, Bool, if◌then◌else◌, length}
use Rattle.std.specs.Str.Lines.{lines}
use Rattle.arc_io.specs.Seen.{PortSeen}
use Rattle.arc_text.specs.Lines.{ended_lines}

-- The lines that were read: where the input ended, what stands behind its last line feed is a line too, if it is not empty; what a
-- failed read or the limit cut short is none.
abbrev pub lines_read : Bool → List ℕ → List (List ℕ)
lines_read ended read = if ended then lines read else ended_lines read

-- Not far ahead: of what is cut out of the bytes that were read, all was done but what ends in the last bytes, at most 4,096 of them.
pub record IsNotAhead {A : Type 0} (cut : List ℕ → List A) (read : List ℕ) (done : List A) : Type 0 where
  pub early : List ℕ
  pub last : List ℕ
  pub more : List A
  pub parts : read ≡ early ++ last
  pub short : length last ≤ 4096
  pub before : done ≡ cut early ++ more

-- of a port all but what is about reading and writing stayed
pub record OnlyReadsAndWrites (p p' : PortSeen) : Type 0 where
  pub rest : p' ≡ record p {
    left = p'.left;
    ended = p'.ended;
    read_faults = p'.read_faults;
    written = p'.written;
    write_faults = p'.write_faults;
  }
