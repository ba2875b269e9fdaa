use Rattle.accounts.specs.Entries.{entry_number, with_window}
use Rattle.accounts.proofs.ChangeLemmas.{keyed-set, wrote-where-true}
use Rattle.accounts.proofs.account_table.AccountTable.add_window.Goals as goal

pub invariant_of-self : goal.invariant_of-self
invariant_of-self c =
    keyed-set entry_number _ c.args.place c.index_mut-entry.result.now _ c.self.invariant c.index_mut-entry.ensures.value c.add_window.ensures.number

pub returns-clause-added : goal.returns-clause-added
returns-clause-added c =
    wrote-where-true entry_number (with_window c.args.window) _ _ c.args.place c.index_mut-entry.result.now _ c.self.invariant c.self.view_is
    c.index_mut-entry.ensures.value c.add_window.result c.add_window.ensures.added
