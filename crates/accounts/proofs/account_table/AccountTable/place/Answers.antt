use Rattle.std.proofs.Common.{ap, ◌∙◌}
use Rattle.std.specs.List.{position}
use Rattle.accounts.specs.Entries.{entry_number, is_numbered}
use Rattle.accounts.proofs.StandLemmas.{place-there}
use Rattle.accounts.proofs.TableLemmas.{position-keyed}
use Rattle.accounts.proofs.account_table.AccountTable.place.Goals as goal

pub returns-clause-place : goal.returns-clause-place
returns-clause-place c =
    c.get_index_of.ensures.index ∙ position-keyed entry_number c.args.number.now _ _ c.self.invariant.named
    ∙ ap (λ entries. position (is_numbered c.args.number.now) entries) c.self.view_is

pub returns-clause-there : goal.returns-clause-there
returns-clause-there c = place-there (is_numbered c.args.number.now) c.args.self.now c.get_index_of.result (returns-clause-place c)
