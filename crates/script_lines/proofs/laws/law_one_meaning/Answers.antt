use Rattle.script_lines.proofs.Asking.{one_meaning}
use Rattle.script_lines.proofs.laws.law_one_meaning.Goals as goal

pub returns : goal.returns
returns c line a other one two = one_meaning line a other one two
