use Rattle.std.proofs.Common.{sym, ◌∙◌, arith}
use Rattle.disk_journal.proofs.Opens.{dead_gate, dead_tag, dead_head, found_live, found_generation}
use Rattle.disk_journal.proofs.open.found_in.Goals as goal

pub returns-then-front-ne1 : goal.returns-then-front-ne1
returns-then-front-ne1 c bytes same = dead_gate bytes c.args.front.now same c.if-front-ne1.true

pub returns-then-front-ne-TAG : goal.returns-then-front-ne-TAG
returns-then-front-ne-TAG c bytes same = dead_tag bytes c.args.front.now same c.if-front-ne-TAG.true

pub returns-in-None : goal.returns-in-None
returns-in-None c bytes same =
    dead_head bytes c.args.front.now same (λ version known headed. c.in-None.ensures version known (c.split_at.ensures.front ∙ headed))

pub returns-in-Some : goal.returns-in-Some
returns-in-Some c bytes same = (
  found_live bytes c.args.front.now c.in-Some.field-0 same (omega arith) c.if-front-ne1.false c.if-front-ne-TAG.false c.in-Some.ensures.0
      (sym c.split_at.ensures.front ∙ c.in-Some.ensures.1),
  found_generation bytes c.args.front.now c.number_at_22.result same c.number_at_22.ensures,
)
