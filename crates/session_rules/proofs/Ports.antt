-- Ports that are only read and written, one call behind another.
use Rattle.std.proofs.Common.{◌≤◌, ℕ, refl, sym, ap, ◌∙◌, arith}
use Rattle.arc_io.specs.Causes.{Rose}
use Rattle.arc_io.specs.Seen.{PortSeen}
use Rattle.arc_io.specs.Told.{OnlyReads, OnlyWrites}
use Rattle.session_rules.specs.Reading.{OnlyReadsAndWrites}

-- a count that rose has risen since all earlier moments
pub rose_since : (before mid now : ℕ) → before ≤ mid → Rose mid now → Rose before now
rose_since before mid now later rose = omega (arith, later, rose)

pub ports_none : (p : PortSeen) → OnlyReadsAndWrites p p
ports_none p = record { rest = refl }

pub ports_more : {p q r : PortSeen} → OnlyReadsAndWrites p q → OnlyReadsAndWrites q r → OnlyReadsAndWrites p r
ports_more {p} {q} {r} first next = record {
  rest = next.rest ∙ ap (λ (x : PortSeen). record x {
    left = r.left;
    ended = r.ended;
    read_faults = r.read_faults;
    written = r.written;
    write_faults = r.write_faults;
  }) first.rest;
}

pub of_reads : {p q : PortSeen} → OnlyReads p q → OnlyReadsAndWrites p q
of_reads {p} {q} only = record {
  rest = only.rest ∙ ap (λ (x : PortSeen). record p {
    left = q.left;
    ended = q.ended;
    read_faults = q.read_faults;
    written = x.written;
    write_faults = x.write_faults;
  }) (sym only.rest);
}

pub of_writes : {p q : PortSeen} → OnlyWrites p q → OnlyReadsAndWrites p q
of_writes {p} {q} only = record {
  rest = only.rest ∙ ap (λ (x : PortSeen). record p {
    left = x.left;
    ended = x.ended;
    read_faults = x.read_faults;
    written = q.written;
    write_faults = q.write_faults;
  }) (sym only.rest);
}
