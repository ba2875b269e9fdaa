use Rattle.std.proofs.Common.{◌+◌, length, sym, ap, ◌∙◌, arith}
use Rattle.std.proofs.lemmas.List.{take_all}
use Rattle.disk_journal.specs.Records.{need_of_all}
use Rattle.disk_journal.proofs.Further.{need_few, need_next, need_part}
use Rattle.centre_store.proofs.gather.need_of.Goals as goal

pub overflow_add-need-in-loop-i : goal.overflow_add-need-in-loop-i
overflow_add-need-in-loop-i c =
    let all = c.args.bodies.now in
    let i = c.loop-i.i in
    omega (
      arith,
      c.loop-i.invariant,
      need_next all i c.at.result.now (omega (arith, c.loop-i-test.true, c.count-i-end.ensures)) c.at.ensures,
      need_part all (i + 1),
      need_few all c.requires.many c.requires.sizes,
    )

pub loop-i-preserved : goal.loop-i-preserved
loop-i-preserved c =
    ap (λ n. n + (5 + length c.at.result.now)) c.loop-i.invariant
    ∙ sym (need_next c.args.bodies.now c.loop-i.i c.at.result.now (omega (arith, c.loop-i-test.true, c.count-i-end.ensures)) c.at.ensures)

pub returns : goal.returns
returns c =
    c.loop-i.invariant ∙ ap need_of_all (take_all c.loop-i.i c.args.bodies.now (omega (arith, c.loop-i-test.false, c.count-i-end.ensures)))
