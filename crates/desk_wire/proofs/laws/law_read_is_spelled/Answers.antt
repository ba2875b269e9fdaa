use Rattle.desk_wire.proofs.CommandLaws.{read_is_spelled}
use Rattle.desk_wire.proofs.laws.law_read_is_spelled.Goals as goal

pub returns : goal.returns
returns c line command is = read_is_spelled line command is
