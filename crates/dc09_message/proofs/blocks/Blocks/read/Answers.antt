use Rattle.std.proofs.Common.{◌+◌, ◌≤◌, length, arith}
use Rattle.dc09_message.proofs.BlockLaws.{content_shorter}
use Rattle.dc09_message.proofs.KeptLemmas.{parts_read, parts_none}
use Rattle.dc09_message.proofs.blocks.Blocks.read.Goals as goal

pub returns-in_err-first : goal.returns-in_err-first
returns-in_err-first c = rw c.from_residual.ensures (parts_none c.args.bytes.now c.in_err-first.ensures)

pub slice_bounds-inside-count : goal.slice_bounds-inside-count
slice_bounds-inside-count c =
    let s : length c.in_ok-first.rest.now + 1 ≤ length c.args.bytes.now = content_shorter c.args.bytes.now (c.in_ok-first.first.now, c.in_ok-first.rest.now) c.in_ok-first.ensures in
    omega (arith, c.after_further-tail.ensures.within)

pub returns : goal.returns
returns c = rw c.after_further-tail.ensures.value (parts_read c.args.bytes.now c.in_ok-first.first.now c.in_ok-first.rest.now c.in_ok-first.ensures)

pub overflow_sub-inside : goal.overflow_sub-inside
overflow_sub-inside c =
    let s : length c.in_ok-first.rest.now + 1 ≤ length c.args.bytes.now = content_shorter c.args.bytes.now (c.in_ok-first.first.now, c.in_ok-first.rest.now) c.in_ok-first.ensures in
    omega (arith, c.after_further-tail.ensures.within)
