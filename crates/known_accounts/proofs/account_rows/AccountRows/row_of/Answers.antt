-- Its row stands where the map has the account.
use Rattle.std.proofs.Common.{subst}
use Rattle.known_accounts.specs.Rows.{RowsValue, IsRowOf}
use Rattle.known_accounts.proofs.Numbered.{row_found}
use Rattle.known_accounts.proofs.account_rows.AccountRows.row_of.Goals as goal

pub returns : goal.returns
returns c =
    subst (λ (v : RowsValue). IsRowOf c.args.account.now c.get_index_of.result v.rows) c.self.view_is
    (row_found c.self.inside.by_account.entries c.args.account.now c.get_index_of.result c.get_index_of.ensures.index c.get_index_of.ensures.found)
