use Rattle.std.proofs.Common.{◌≡◌, ap, ◌∙◌, sym, subst}
use Rattle.centre_rules.specs.Summary.{AccountRow}
use Rattle.known_accounts.specs.declared.row.Known.{Known}
use Rattle.known_accounts.specs.Rows.{RowsValue, StandsAt, row_at, row_in}
use Rattle.known_accounts.proofs.Numbered.{told_at}
use Rattle.known_accounts.proofs.account_rows.AccountRows.known_at.Goals as goal

pub returns : goal.returns
returns c a stands =
    let at : StandsAt a c.args.place _ = subst (λ (v : RowsValue). StandsAt a c.args.place v.rows) (sym c.self.view_is) stands in
    let whole : row_at (a, c.in-Some.row.now) ≡ row_in c.args.self.now a =
    sym (told_at c.self.inside.start c.self.inside.by_account.entries c.args.place a _ c.in-Some.row.now at (sym c.in-Some.ensures.entry) c.in-Some.ensures.value)
    ∙ ap (λ (v : RowsValue). row_in v a) c.self.view_is in
    record {
      heard = ap (λ (k : Known). k.heard) c.known.ensures ∙ ap (λ (x : AccountRow). x.heard) whole;
      failed = ap (λ (k : Known). k.failed) c.known.ensures ∙ ap (λ (x : AccountRow). x.failed) whole;
      opening = ap (λ (k : Known). k.opening) c.known.ensures ∙ ap (λ (x : AccountRow). x.opening) whole;
    }
