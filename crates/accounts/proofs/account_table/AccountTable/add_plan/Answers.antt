use Rattle.accounts.specs.Entries.{entry_number, with_plan}
use Rattle.accounts.proofs.ChangeLemmas.{keyed-set, wrote-where-ok}
use Rattle.accounts.proofs.account_table.AccountTable.add_plan.Goals as goal

pub invariant_of-self : goal.invariant_of-self
invariant_of-self c =
    keyed-set entry_number _ c.args.place c.index_mut-entry.result.now _ c.self.invariant c.index_mut-entry.ensures.value c.add_plan.ensures.number

pub returns : goal.returns
returns c =
    wrote-where-ok entry_number (with_plan c.args.plan) _ _ c.args.place c.index_mut-entry.result.now _ c.self.invariant c.self.view_is
    c.index_mut-entry.ensures.value c.add_plan.result c.add_plan.ensures.added
