use Rattle.dc09_crypt.proofs.OpenedAcks.{ack_opens}
use Rattle.dc09_crypt.proofs.laws.law_acks_open_again.Goals as goal

pub returns : goal.returns
returns c key noise t k ten moment = ack_opens key noise t k ten moment
