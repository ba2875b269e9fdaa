use Rattle.desk_session.proofs.Acting.{read_ranges}
use Rattle.desk_session.proofs.lines.command_in.Goals as goal

pub returns-in-Whole-clause-ranges : goal.returns-in-Whole-clause-ranges
returns-in-Whole-clause-ranges c = read_ranges c.args.line.now c.read.result c.read.ensures
