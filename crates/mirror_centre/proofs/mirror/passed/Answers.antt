use Rattle.std.proofs.Common.{◌∙◌, ap, arith}
use Rattle.mirror_centre.specs.Sayings.{made_of}
use Rattle.mirror_centre.proofs.Taking.{made}
use Rattle.mirror_centre.proofs.mirror.passed.Goals as goal

pub returns : goal.returns
returns c =
    made c.args.have c.args.message.now c.made.result (λ i. omega (arith, c.type_inv.message i)) (c.made.ensures ∙ ap (made_of c.args.have) c.read_answer.ensures)
