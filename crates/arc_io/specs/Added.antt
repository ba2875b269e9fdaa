-- What sessions add to what a port tells.
use Rattle.std.specs.Prelude.{◌≡◌, ◌≤◌, ◌++◌, ℕ, List}
use Rattle.std.specs.Io.KnownBytes.{append_known}
use Rattle.arc_io.specs.Causes.{Rose}
use Rattle.arc_io.specs.Seen.{PortSeen}

-- bytes that were written, readings that were taken, and bytes of noise that were taken
pub record Added : Type 0 where
  pub text : List ℕ
  pub readings : List ℕ
  pub noise : List ℕ

-- first one, then the other
abbrev pub both : Added → Added → Added
both a c = record { text = a.text ++ c.text; readings = a.readings ++ c.readings; noise = a.noise ++ c.noise }

-- These were added to what the port tells. But for what is about reading and for the count of failed writes, all else stayed.
pub record Adds (p p' : PortSeen) (a : Added) : Type 0 where
  pub told : p' ≡ record p {
    left = p'.left;
    ended = p'.ended;
    read_faults = p'.read_faults;
    written = append_known p.written a.text;
    write_faults = p'.write_faults;
    readings = append_known p.readings a.readings;
    noise = append_known p.noise a.noise;
  }

-- What answering does to a port, whatever else is known: it writes, takes readings and takes noise, and leaves all else alone.
-- Where it failed to write, the count of failed writes rose.
pub record Answers (failed : Type 0) (p p' : PortSeen) : Type 0 where
  pub rest : p' ≡ record p {
    written = p'.written;
    write_faults = p'.write_faults;
    readings = p'.readings;
    noise = p'.noise;
  }
  pub later : p.write_faults ≤ p'.write_faults
  pub rose : failed → Rose p.write_faults p'.write_faults
