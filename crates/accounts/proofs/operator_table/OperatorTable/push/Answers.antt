use Rattle.std.proofs.Common.{◌≡◌, ap, ◌∙◌, ◌++◌, ◌∷◌, [], None}
use Rattle.std.specs.Str.{bytes_eq}
use Rattle.indexmap.proofs.CallerLemmas.{insert_entry-new}
use Rattle.indexmap.specs.IndexMap.{get}
use Rattle.accounts.specs.Entries.{operator_name, find_name}
use Rattle.accounts.proofs.TableLemmas.{lookup-keyed, values-pushed, keyed-pushed}
use Rattle.accounts.proofs.operator_table.OperatorTable.push.Goals as goal

pub invariant_of-self-2 : goal.invariant_of-self-2
invariant_of-self-2 c =
    let name = c.args.operator.name in
    let absent : get bytes_eq c.self.inside.by_name name ≡ None =
    lookup-keyed operator_name name _ _ c.self.invariant.named ∙ ap (find_name name) c.self.view_is ∙ c.requires in
    keyed-pushed operator_name _ _ (record { operator = c.args.operator; line = c.args.line })
    (c.in_ok-insert.ensures.entries ∙ insert_entry-new bytes_eq c.self.inside.by_name name _ absent) c.self.invariant c.in_ok-insert.ensures.unique

pub returns : goal.returns
returns c =
    let name = c.args.operator.name in
    let absent : get bytes_eq c.self.inside.by_name name ≡ None =
    lookup-keyed operator_name name _ _ c.self.invariant.named ∙ ap (find_name name) c.self.view_is ∙ c.requires in
    values-pushed operator_name _ _ (record { operator = c.args.operator; line = c.args.line })
    (c.in_ok-insert.ensures.entries ∙ insert_entry-new bytes_eq c.self.inside.by_name name _ absent)
    ∙ ap (λ entries. entries ++ (record { operator = c.args.operator; line = c.args.line }) ∷ []) c.self.view_is
