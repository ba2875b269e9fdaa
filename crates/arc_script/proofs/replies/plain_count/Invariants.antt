use Rattle.std.proofs.Common.{◌≡◌, ◌≤◌, ◌-◌, length, take}
use Rattle.arc_script.specs.Pages.{spaced}
use Rattle.arc_script.proofs.replies.plain_count.Given as goal

-- the bytes so far are put as they stand
abbrev pub invariant-loop-count : goal.invariant-loop-count
invariant-loop-count l = record {
  within : l.count ≤ length l.bytes;
  plain : spaced (take l.count l.bytes) ≡ take l.count l.bytes;
}

abbrev pub decreases-loop-count : goal.decreases-loop-count
decreases-loop-count l = length l.bytes - l.count
