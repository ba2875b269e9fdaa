use Rattle.std.proofs.Common.{◌≡◌, ◌+◌, ◌-◌, ◌≤◌, false, vec_len}
use Rattle.std.specs.Io.KnownBytes.{prepend_known}
use Rattle.arc_io.specs.Told.{OnlyReads}
use Rattle.session_rules.specs.Inputs.{input_limit}
use Rattle.mirror_centre.proofs.intake.read_next.Given as goal

abbrev pub invariant-pieces : goal.invariant-pieces
invariant-pieces g l = record {
  within : vec_len l.bytes ≤ l.count;
  fits : l.taken + vec_len l.bytes ≤ input_limit;
  read : (g.P.Ends.seen l.initial.port).left ≡ prepend_known l.bytes.items (g.P.Ends.seen l.port).left;
  not_ended : (g.P.Ends.seen l.port).ended ≡ false;
  faults : (g.P.Ends.seen l.initial.port).read_faults ≤ (g.P.Ends.seen l.port).read_faults;
  others : OnlyReads (g.P.Ends.seen l.initial.port) (g.P.Ends.seen l.port);
}

abbrev pub decreases-pieces : goal.decreases-pieces
decreases-pieces g l = l.count - vec_len l.bytes
