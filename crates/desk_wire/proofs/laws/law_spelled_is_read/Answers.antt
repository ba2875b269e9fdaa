use Rattle.desk_wire.proofs.CommandLaws.{spelled_is_read}
use Rattle.desk_wire.proofs.laws.law_spelled_is_read.Goals as goal

pub returns : goal.returns
returns c command ranges = spelled_is_read command ranges
