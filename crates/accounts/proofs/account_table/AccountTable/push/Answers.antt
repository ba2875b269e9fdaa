use Rattle.std.proofs.Common.{◌≡◌, ap, ◌∙◌, ◌++◌, ◌∷◌, [], None}
use Rattle.std.specs.Str.{bytes_eq}
use Rattle.indexmap.proofs.CallerLemmas.{insert_entry-new}
use Rattle.indexmap.specs.IndexMap.{get}
use Rattle.accounts.specs.Entries.{entry_number, find_number}
use Rattle.accounts.proofs.TableLemmas.{lookup-keyed, values-pushed, keyed-pushed}
use Rattle.accounts.proofs.account_table.AccountTable.push.Goals as goal

pub invariant_of-self-2 : goal.invariant_of-self-2
invariant_of-self-2 c =
    let number = c.args.entry.account.number in
    let absent : get bytes_eq c.self.inside.by_number number ≡ None =
    lookup-keyed entry_number number _ _ c.self.invariant.named ∙ ap (find_number number) c.self.view_is ∙ c.requires in
    keyed-pushed entry_number _ _ c.args.entry (rw c.number.ensures at c.in_ok-insert.ensures.entries ∙ insert_entry-new bytes_eq c.self.inside.by_number number _ absent) c.self.invariant c.in_ok-insert.ensures.unique

pub returns : goal.returns
returns c =
    let number = c.args.entry.account.number in
    let absent : get bytes_eq c.self.inside.by_number number ≡ None =
    lookup-keyed entry_number number _ _ c.self.invariant.named ∙ ap (find_number number) c.self.view_is ∙ c.requires in
    values-pushed entry_number _ _ c.args.entry (rw c.number.ensures at c.in_ok-insert.ensures.entries ∙ insert_entry-new bytes_eq c.self.inside.by_number number _ absent)
    ∙ ap (λ entries. entries ++ c.args.entry ∷ []) c.self.view_is
