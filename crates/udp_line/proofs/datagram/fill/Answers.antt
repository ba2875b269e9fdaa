use Rattle.std.proofs.Common.{rules}
use Rattle.udp_line.proofs.Mailed.{feeds_same}
use Rattle.udp_line.proofs.datagram.fill.Goals as goal

pub returns-clause-fed : goal.returns-clause-fed
returns-clause-fed g c b h s = feeds_same _ _ _ _ _ _ (search rules) (search rules) (search rules) (c.feed.ensures.fed b h s)
