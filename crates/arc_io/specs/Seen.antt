-- What an object of the outside tells at one moment.
use Rattle.std.specs.Prelude.{ℕ, List, Bool, false, Option, None}

-- All that clauses know of it. A list that it does not tell is None, before and after each call.
pub record PortSeen : Type 0 where
  -- the bytes that are left to read
  pub left : Option (List ℕ)
  -- a read has met the end of the input
  pub ended : Bool
  -- how often a read has failed
  pub read_faults : ℕ
  -- the bytes that were written
  pub written : Option (List ℕ)
  -- how often a write has failed
  pub write_faults : ℕ
  -- the readings that the clock gave
  pub readings : Option (List ℕ)
  -- the bytes that the noise gave
  pub noise : Option (List ℕ)
  -- the datagrams that are left to receive
  pub datagrams : Option (List (List ℕ))
  -- the datagrams that were sent in reply
  pub replies : Option (List (List ℕ))

-- of an object that tells nothing
abbrev pub untold : PortSeen
untold = record {
  left = None;
  ended = false;
  read_faults = 0;
  written = None;
  write_faults = 0;
  readings = None;
  noise = None;
  datagrams = None;
  replies = None;
}
