use Rattle.std.proofs.Common.{◌+◌, ◌≤◌, length, arith, sym, ◌∙◌}
use Rattle.dc09_message.proofs.BlockLaws.{block_shorter, further_step, further_none}
use Rattle.dc09_message.proofs.blocks.after_further.Goals as goal

pub loop-later-smaller : goal.loop-later-smaller
loop-later-smaller c =
    let s : length c.in-Some.later.now + 2 ≤ length c.loop-later.rest.now = block_shorter c.loop-later.rest.now (c.in-Some.field-0-0.now, c.in-Some.later.now) c.in-Some.ensures in
    omega (arith, s)

pub loop-later-preserved : goal.loop-later-preserved
loop-later-preserved c =
    let s : length c.in-Some.later.now + 2 ≤ length c.loop-later.rest.now = block_shorter c.loop-later.rest.now (c.in-Some.field-0-0.now, c.in-Some.later.now) c.in-Some.ensures in
    record {
      same = sym (further_step c.loop-later.rest.now (c.in-Some.field-0-0.now, c.in-Some.later.now) c.in-Some.ensures) ∙ c.loop-later.invariant.same;
      within = omega (arith, s, c.loop-later.invariant.within);
    }

pub returns-clause-value : goal.returns-clause-value
returns-clause-value c = sym (further_none c.loop-later.rest.now c.in_default.ensures) ∙ c.loop-later.invariant.same
