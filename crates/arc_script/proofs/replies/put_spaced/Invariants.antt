use Rattle.std.proofs.Common.{◌≡◌, ◌≤◌, ◌-◌, length, take}
use Rattle.std.specs.Io.KnownBytes.{append_known}
use Rattle.arc_io.specs.Told.{OnlyWrites}
use Rattle.arc_script.specs.Pages.{spaced}
use Rattle.arc_script.proofs.replies.put_spaced.Given as goal

-- the bytes so far were put, and nothing but writing was done
abbrev pub invariant-loop-at : goal.invariant-loop-at
invariant-loop-at g l = record {
  within : l.at ≤ length l.frames;
  put : (g.K.Ends.seen l.out).written ≡ append_known (g.K.Ends.seen l.initial.out).written (spaced (take l.at l.frames));
  only : OnlyWrites (g.K.Ends.seen l.initial.out) (g.K.Ends.seen l.out);
}

abbrev pub decreases-loop-at : goal.decreases-loop-at
decreases-loop-at g l = length l.frames - l.at
