-- The accounts are those of the map.
use Rattle.std.proofs.Common.{ℕ, List, ap, ◌∙◌}
use Rattle.std.specs.List.{list_any}
use Rattle.std.specs.Str.{bytes_eq}
use Rattle.centre_rules.specs.Marks.{has_row}
use Rattle.known_accounts.specs.Rows.{RowsValue}
use Rattle.known_accounts.proofs.Found.{any_key}
use Rattle.known_accounts.proofs.account_rows.AccountRows.accounts.Goals as goal

pub returns-clause-all : goal.returns-clause-all
returns-clause-all c a =
    c.in_order.ensures.same a ∙ ap (λ (xs : List (List ℕ)). list_any (λ x. bytes_eq x a) xs) c.in_ok-accounts.ensures.all
    ∙ any_key c.self.inside.by_account.entries a ∙ ap (λ (v : RowsValue). has_row v.rows a) c.self.view_is
