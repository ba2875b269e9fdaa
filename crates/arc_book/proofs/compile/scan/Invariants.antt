use Rattle.std.proofs.Common.{◌≡◌, ◌-◌, ◌≤◌, ◌++◌, ◌^◌, ℕ, List, Option, false}
use Rattle.arc_io.specs.Told.{OnlyReads}
use Rattle.arc_book.specs.Tapes.{ahead, IsReadTo}
use Rattle.arc_book.proofs.compile.scan.Given as goal

-- so many records more were read
abbrev pub invariant-records : goal.invariant-records
invariant-records g l = record {
  read : (all : Option (List ℕ)) (bodies : List (List ℕ)) → IsReadTo l.version all bodies l.initial.tape.gate l.initial.tape.at (ahead l.initial.tape.intake (g.S.Ends.seen l.initial.source).left)
      → (behind : List (List ℕ)) × IsReadTo l.version all (bodies ++ behind) l.tape.gate l.tape.at (ahead l.tape.intake (g.S.Ends.seen l.source).left);
  not_ended : (g.S.Ends.seen l.source).ended ≡ false;
  faults : (g.S.Ends.seen l.initial.source).read_faults ≤ (g.S.Ends.seen l.source).read_faults;
  others : OnlyReads (g.S.Ends.seen l.initial.source) (g.S.Ends.seen l.source);
}

abbrev pub decreases-records : goal.decreases-records
decreases-records g l = 2 ^ 40 - l.tape.at
