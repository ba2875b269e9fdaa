-- The account has no entry yet, so one more stands last.
use Rattle.std.proofs.Common.{◌≡◌, ◌++◌, ◌∷◌, [], None, false, map, ap, ◌∙◌, sym}
use Rattle.std.specs.Str.{bytes_eq}
use Rattle.std.proofs.lemmas.List.{map-append}
use Rattle.indexmap.proofs.CallerLemmas.{insert_entry-new}
use Rattle.indexmap.specs.IndexMap.{get}
use Rattle.centre_rules.specs.Marks.{has_row}
use Rattle.known_accounts.specs.Rows.{RowsValue, row_at}
use Rattle.known_accounts.proofs.Found.{has_is}
use Rattle.known_accounts.proofs.Written.{none_of}
use Rattle.known_accounts.proofs.account_rows.AccountRows.put.Goals as goal

pub returns-in-Ok-clause-rows : goal.returns-in-Ok-clause-rows
returns-in-Ok-clause-rows c =
    let rows = c.self.inside.by_account in
    let account = c.args.account in
    let lacks : has_row (map row_at rows.entries) account ≡ false = rw (← c.self.view_is) at c.requires in
    let absent : get bytes_eq rows account ≡ None = none_of _ (sym (has_is rows.entries account) ∙ lacks) in
    ap (map row_at) (c.in-Ok.ensures.entries ∙ insert_entry-new bytes_eq rows account c.args.row absent)
    ∙ map-append row_at rows.entries ((account, c.args.row) ∷ [])
    ∙ ap (λ (v : RowsValue). v.rows ++ row_at (account, c.args.row) ∷ []) c.self.view_is
