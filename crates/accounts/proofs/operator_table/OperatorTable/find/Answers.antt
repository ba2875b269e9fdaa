use Rattle.std.proofs.Common.{ap, ◌∙◌}
use Rattle.accounts.specs.Entries.{operator_name, find_name}
use Rattle.accounts.proofs.TableLemmas.{lookup-keyed}
use Rattle.accounts.proofs.operator_table.OperatorTable.find.Goals as goal

pub returns : goal.returns
returns c = c.get.ensures.value ∙ lookup-keyed operator_name c.args.name.now _ _ c.self.invariant.named ∙ ap (find_name c.args.name.now) c.self.view_is
