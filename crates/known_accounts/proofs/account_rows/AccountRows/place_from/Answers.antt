-- Its row is there, or is made behind the others.
use Rattle.std.proofs.Common.{◌≡◌, ◌++◌, ◌∷◌, [], map, ap, ◌∙◌, sym, subst, false, arith}
use Rattle.std.specs.Prelude.{is_some, IfSome}
use Rattle.centre_rules.specs.Marks.{has_row}
use Rattle.known_accounts.specs.Rows.{RowsValue, StandsAt, blank, row_at}
use Rattle.known_accounts.proofs.Found.{has_is}
use Rattle.known_accounts.proofs.Numbered.{stands_last, made_none, made_last, lacks_one}
use Rattle.known_accounts.proofs.account_rows.AccountRows.place_from.Goals as goal

pub returns-in-Some-clause-there : goal.returns-in-Some-clause-there
returns-in-Some-clause-there c = subst (λ o. IfSome o (λ place. StandsAt c.args.account.now place c.args.self.now.rows)) c.in-Some.is c.requires.row.there

pub returns-in-Some-clause-made : goal.returns-in-Some-clause-made
returns-in-Some-clause-made c = made_none c.args.self.now c.args.account.now (sym c.requires.row.found ∙ ap is_some c.in-Some.is)

pub make_row-requires-clause-some : goal.make_row-requires-clause-some
make_row-requires-clause-some c =
    let a = c.args.account.now in
    let none : has_row c.args.self.now.rows a ≡ false = sym c.requires.row.found ∙ ap is_some c.in-None.is in
    omega (arith, c.requires.room, lacks_one c.args.self.now a none, ap (λ (v : RowsValue). v.room) c.self.view_is)

pub make_row-requires-clause-none : goal.make_row-requires-clause-none
make_row-requires-clause-none c =
    sym (has_is c.self.inside.by_account.entries c.args.account.now) ∙ ap (λ (v : RowsValue). has_row v.rows c.args.account.now) c.self.view_is
    ∙ sym c.requires.row.found ∙ ap is_some c.in-None.is

pub returns-in-None-clause-there : goal.returns-in-None-clause-there
returns-in-None-clause-there c =
    let a = c.args.account.now in
    let es = c.self.inside.by_account.entries in
    let start = c.self.inside.start in
    rw (c.make_row.ensures.entries)
    (subst (λ n. StandsAt a n (map row_at (es ++ (a, blank start) ∷ []))) (sym c.len-place.ensures.len) (stands_last es a (blank start)))

pub returns-in-None-clause-made : goal.returns-in-None-clause-made
returns-in-None-clause-made c =
    let a = c.args.account.now in
    let none : has_row (map row_at c.self.inside.by_account.entries) a ≡ false =
    ap (λ (v : RowsValue). has_row v.rows a) c.self.view_is ∙ sym c.requires.row.found ∙ ap is_some c.in-None.is in
    rw (← c.self.view_is, c.make_row.ensures.entries)
    (made_last c.self.inside.start c.self.inside.by_account.entries a _ _ none c.make_row.ensures.room)
