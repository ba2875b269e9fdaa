use Rattle.dc09_message.proofs.ContentLaws.{content_written}
use Rattle.dc09_message.proofs.laws.law_content_is_written.Goals as goal

pub returns : goal.returns
returns c kind h bytes content e = content_written kind h bytes content e
