use Rattle.std.proofs.Common.{◌≡◌, ◌-◌, ◌≤◌, ◌^◌, ℕ, List, [], Option, false, length}
use Rattle.arc_io.specs.Told.{OnlyReads, OnlyWrites}
use Rattle.arc_book.specs.Tapes.{ahead, IsReadTo}
use Rattle.arc_book.proofs.Walks.{Walks}
use Rattle.arc_book.proofs.compile.walk.Given as goal

abbrev pub invariant-records : goal.invariant-records
invariant-records g l = record {
  walks : (all : Option (List ℕ)) → IsReadTo l.version all [] l.initial.tape.gate l.initial.tape.at (ahead l.initial.tape.intake (g.S.Ends.seen l.initial.source).left)
      → Walks l.version l.options all l.tape.gate l.tape.at (ahead l.tape.intake (g.S.Ends.seen l.source).left) (g.K.Ends.seen l.initial.sink) (g.K.Ends.seen l.sink) l.centre l.page;
  short : length l.page ≤ 65536;
  not_ended : (g.S.Ends.seen l.source).ended ≡ false;
  read_faults : (g.S.Ends.seen l.initial.source).read_faults ≤ (g.S.Ends.seen l.source).read_faults;
  write_faults : (g.K.Ends.seen l.initial.sink).write_faults ≤ (g.K.Ends.seen l.sink).write_faults;
  reads : OnlyReads (g.S.Ends.seen l.initial.source) (g.S.Ends.seen l.source);
  writes : OnlyWrites (g.K.Ends.seen l.initial.sink) (g.K.Ends.seen l.sink);
}

abbrev pub decreases-records : goal.decreases-records
decreases-records g l = 2 ^ 40 - l.tape.at
