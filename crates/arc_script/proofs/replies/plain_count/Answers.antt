use Rattle.std.proofs.Common.{arith}
use Rattle.arc_script.proofs.Spaced.{plain_next}
use Rattle.arc_script.proofs.replies.plain_count.Goals as goal

pub loop-count-preserved : goal.loop-count-preserved
loop-count-preserved c = record {
  within = omega arith;
  plain = plain_next c.args.bytes.now c.loop-count.count c.loop-count-test.true c.if-bytes-count-ne10.true c.if-bytes-count-ne13.true
      c.loop-count.invariant.plain;
}
