-- The row is written through.
use Rattle.std.proofs.Common.{ap, ◌∙◌, sym, subst, refl}
use Rattle.known_accounts.specs.Rows.{RowsValue, StandsAt}
use Rattle.known_accounts.proofs.Numbered.{writes_at, numbers_kept}
use Rattle.known_accounts.proofs.Written.{sent_marked}
use Rattle.known_accounts.proofs.account_rows.AccountRows.send.Goals as goal

pub returns-clause-marked : goal.returns-clause-marked
returns-clause-marked c =
    let m = c.self.inside.by_account in
    let account = c.args.message.account in
    let at : StandsAt account c.args.place _ = subst (λ (v : RowsValue). StandsAt account c.args.place v.rows) (sym c.self.view_is) c.requires in
    rw (← c.self.view_is, c.send.ensures)
    (sent_marked c.args.message c.args.at c.self.inside.start c.in-Some.row.now m.entries _ _ _
    (writes_at m c.args.place account c.in-Some.row.now _ c.get_index_mut.ensures.unique at (sym c.in-Some.ensures.value)))

pub returns-clause-kept : goal.returns-clause-kept
returns-clause-kept c =
    rw (← c.self.view_is)
    (record { rows = numbers_kept c.self.inside.by_account.entries c.args.place _; room = refl })
