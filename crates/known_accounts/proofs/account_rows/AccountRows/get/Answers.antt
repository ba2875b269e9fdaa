-- What the map has at the account.
use Rattle.std.proofs.Common.{ap, ◌∙◌, sym}
use Rattle.std.specs.Prelude.{is_some}
use Rattle.centre_rules.specs.Marks.{has_row}
use Rattle.known_accounts.specs.Rows.{RowsValue, row_in}
use Rattle.known_accounts.proofs.Found.{from_row, known_is, has_is}
use Rattle.known_accounts.proofs.account_rows.AccountRows.get.Goals as goal

pub returns-in-Some-clause-found : goal.returns-in-Some-clause-found
returns-in-Some-clause-found c =
    let a = c.args.account.now in
    ap is_some c.in-Some.ensures.value ∙ sym (has_is c.self.inside.by_account.entries a) ∙ ap (λ (v : RowsValue). has_row v.rows a) c.self.view_is

pub returns-in-Some-clause-row : goal.returns-in-Some-clause-row
returns-in-Some-clause-row c =
    let a = c.args.account.now in
    let start = c.self.inside.start in
    sym (ap (from_row start a) c.in-Some.ensures.value ∙ sym (known_is start c.self.inside.by_account.entries a) ∙ ap (λ (v : RowsValue). row_in v a) c.self.view_is)

pub returns-in-None-clause-found : goal.returns-in-None-clause-found
returns-in-None-clause-found c =
    let a = c.args.account.now in
    ap is_some c.in-None.ensures.value ∙ sym (has_is c.self.inside.by_account.entries a) ∙ ap (λ (v : RowsValue). has_row v.rows a) c.self.view_is
