use Rattle.arc_data.specs.Digits.{AreBytes}
use Rattle.arc_data.proofs.ByteLemmas.{are_bytes}
use Rattle.dc09_message.proofs.GoodVerdicts.{good_message}
use Rattle.dc09_message.proofs.verdicts.message_from.Goals as goal

pub returns-clause-good : goal.returns-clause-good
returns-clause-good c =
    let bytes : AreBytes c.args.content.now = are_bytes c.args.content.now (λ k. (c.type_inv.content k).fits) in
    rw (c.requires.account, c.sequence_of.ensures, c.in_ok-of.ensures) (good_message c.args.token c.args.header.now c.args.content.now c.requires.header c.requires.size bytes)
