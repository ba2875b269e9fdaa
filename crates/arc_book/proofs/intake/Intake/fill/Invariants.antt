use Rattle.std.proofs.Common.{◌≡◌, ◌-◌, ◌≤◌, false, vec_len}
use Rattle.std.specs.Io.KnownBytes.{prepend_known}
use Rattle.arc_io.specs.Told.{OnlyReads}
use Rattle.arc_book.specs.Tapes.{ahead}
use Rattle.arc_book.proofs.intake.Intake.fill.Given as goal

-- what stands in `out` was taken from the bytes ahead
abbrev pub invariant-pieces : goal.invariant-pieces
invariant-pieces g l = record {
  within : vec_len l.out ≤ l.count;
  read : ahead l.initial.self (g.S.Ends.seen l.initial.source).left ≡ prepend_known l.out.items (ahead l.self (g.S.Ends.seen l.source).left);
  not_ended : (g.S.Ends.seen l.source).ended ≡ false;
  faults : (g.S.Ends.seen l.initial.source).read_faults ≤ (g.S.Ends.seen l.source).read_faults;
  others : OnlyReads (g.S.Ends.seen l.initial.source) (g.S.Ends.seen l.source);
}

abbrev pub decreases-pieces : goal.decreases-pieces
decreases-pieces g l = l.count - vec_len l.out
