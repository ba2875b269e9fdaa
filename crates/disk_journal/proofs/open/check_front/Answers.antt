use Rattle.std.proofs.Common.{arith}
use Rattle.disk_journal.proofs.Pieces.{no_journal, other_version}
use Rattle.disk_journal.proofs.open.check_front.Goals as goal

pub returns-in-Some-first_other-clause-shown : goal.returns-in-Some-first_other-clause-shown
returns-in-Some-first_other-clause-shown c bytes long is =
    no_journal bytes c.args.front.now c.split_at.result.0.now c.in-Some-first_other.byte long is c.split_at.ensures.front c.in-Some-first_other.ensures

pub returns-in-None-clause-shown : goal.returns-in-None-clause-shown
returns-in-None-clause-shown c bytes long is =
    other_version bytes c.args.front.now c.split_at.result.0.now c.split_at.result.1.now long is (omega arith) c.split_at.ensures.front c.in-None.ensures
    c.split_at.ensures.back c.in_default.ensures
