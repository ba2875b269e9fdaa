use Rattle.dc09_message.proofs.ContentLaws.{content_again}
use Rattle.dc09_message.proofs.laws.law_written_content_is_read.Goals as goal

pub returns : goal.returns
returns c kind h bytes content w = content_again kind h bytes content w
