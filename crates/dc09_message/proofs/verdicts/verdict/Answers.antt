use Rattle.alarm_rules.specs.Setups.{meaning}
use Rattle.dc09_message.specs.Contents.{kind_of}
use Rattle.dc09_message.proofs.GoodVerdicts.{keyed_result, known_result}
use Rattle.dc09_message.proofs.verdicts.verdict.Goals as goal

pub returns-in-Some-clause-keyed : goal.returns-in-Some-clause-keyed
returns-in-Some-clause-keyed c = keyed_result (meaning c.args.setup.now) c.args.now c.in-Some.header _ (kind_of c.in-Some.header.token) c.by_token.result c.by_token.ensures.exact

pub returns-in-Some-clause-known : goal.returns-in-Some-clause-known
returns-in-Some-clause-known c = known_result (meaning c.args.setup.now) c.args.now c.in-Some.header _ (kind_of c.in-Some.header.token) c.by_token.result c.by_token.ensures.exact
