use Rattle.dc09_message.proofs.DigitLemmas.{capital_run}
use Rattle.dc09_message.proofs.verdicts.by_blocks.Goals as goal

pub returns-in-Heartbeat-clause-good : goal.returns-in-Heartbeat-clause-good
returns-in-Heartbeat-clause-good c = (c.requires.header, rw c.requires.account (capital_run 3 16 c.args.header.now.account c.requires.header.account))
