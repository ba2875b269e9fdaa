use Rattle.std.proofs.Common.{◌≡◌, ◌-◌, ◌≤◌, false, vec_len}
use Rattle.std.specs.Io.KnownBytes.{prepend_known}
use Rattle.arc_io.specs.Told.{OnlyReads}
use Rattle.arc_io.proofs.whole.read_all.Given as goal

abbrev pub invariant-loop-piece : goal.invariant-loop-piece
invariant-loop-piece g l = record {
  within : vec_len l.bytes ≤ l.limit;
  read : (g.S.Ends.seen l.initial.source).left ≡ prepend_known l.bytes.items (g.S.Ends.seen l.source).left;
  not_ended : (g.S.Ends.seen l.source).ended ≡ false;
  faults : (g.S.Ends.seen l.initial.source).read_faults ≤ (g.S.Ends.seen l.source).read_faults;
  others : OnlyReads (g.S.Ends.seen l.initial.source) (g.S.Ends.seen l.source);
}

abbrev pub decreases-loop-piece : goal.decreases-loop-piece
decreases-loop-piece g l = l.limit - vec_len l.bytes
