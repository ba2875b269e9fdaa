use Rattle.std.proofs.Common.{◌≡◌, ap, ◌∙◌, sym}
use Rattle.centre_rules.specs.Summary.{AccountRow}
use Rattle.known_accounts.specs.declared.row.Known.{Known}
use Rattle.known_accounts.specs.Rows.{RowsValue, row_at, row_in}
use Rattle.known_accounts.proofs.Found.{from_row, known_is}
use Rattle.known_accounts.proofs.account_rows.AccountRows.known.Goals as goal

pub returns-in-Some : goal.returns-in-Some
returns-in-Some c =
    let a = c.args.account.now in
    let start = c.self.inside.start in
    let whole : row_at (a, c.in-Some.row.now) ≡ row_in c.args.self.now a =
    ap (from_row start a) c.in-Some.ensures.value ∙ sym (known_is start c.self.inside.by_account.entries a) ∙ ap (λ (v : RowsValue). row_in v a) c.self.view_is in
    record {
      heard = ap (λ (k : Known). k.heard) c.known.ensures ∙ ap (λ (x : AccountRow). x.heard) whole;
      failed = ap (λ (k : Known). k.failed) c.known.ensures ∙ ap (λ (x : AccountRow). x.failed) whole;
      opening = ap (λ (k : Known). k.opening) c.known.ensures ∙ ap (λ (x : AccountRow). x.opening) whole;
    }

pub returns-in-None : goal.returns-in-None
returns-in-None c =
    let a = c.args.account.now in
    let start = c.self.inside.start in
    let whole = ap (from_row start a) c.in-None.ensures.value ∙ sym (known_is start c.self.inside.by_account.entries a) ∙ ap (λ (v : RowsValue). row_in v a) c.self.view_is in
    record {
      heard = ap (λ (x : AccountRow). x.heard) whole;
      failed = ap (λ (x : AccountRow). x.failed) whole;
      opening = ap (λ (x : AccountRow). x.opening) whole;
    }
