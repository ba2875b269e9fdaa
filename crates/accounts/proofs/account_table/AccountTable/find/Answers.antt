use Rattle.std.proofs.Common.{ap, ◌∙◌}
use Rattle.accounts.specs.Entries.{entry_number, find_number}
use Rattle.accounts.proofs.TableLemmas.{lookup-keyed}
use Rattle.accounts.proofs.account_table.AccountTable.find.Goals as goal

pub returns : goal.returns
returns c =
    c.get.ensures.value ∙ lookup-keyed entry_number c.args.number.now _ _ c.self.invariant.named ∙ ap (find_number c.args.number.now) c.self.view_is
