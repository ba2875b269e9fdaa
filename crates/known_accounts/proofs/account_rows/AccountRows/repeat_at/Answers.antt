-- The messages are those of the row that stands there; an account without a row has none.
use Rattle.std.proofs.Common.{◌≡◌, ℕ, take, ap, ◌∙◌, sym, subst, Option, None}
use Rattle.std.specs.Prelude.{is_some, IfSome}
use Rattle.std.specs.List.{find}
use Rattle.std.specs.Map.{lookup}
use Rattle.std.specs.Option.{option_map}
use Rattle.std.specs.Str.{bytes_eq}
use Rattle.centre_rules.specs.Answers.{repeats}
use Rattle.centre_rules.specs.Marks.{has_row}
use Rattle.centre_rules.specs.Summary.{AccountRow, Past}
use Rattle.known_accounts.specs.declared.row.Row.{Row}
use Rattle.known_accounts.specs.Rows.{RowsValue, StandsAt, row_in}
use Rattle.known_accounts.proofs.Found.{from_row, known_is, has_is}
use Rattle.known_accounts.proofs.Numbered.{told_at}
use Rattle.known_accounts.proofs.Written.{none_of}
use Rattle.known_accounts.proofs.account_rows.AccountRows.repeat_at.Goals as goal

pub returns-in-Some-get_index : goal.returns-in-Some-get_index
returns-in-Some-get_index c =
    let m = c.args.message.now in
    let told : AccountRow → Option ℕ = λ r. option_map (λ (p : Past). p.at) (find (repeats m c.args.at) (take 32 r.messages)) in
    let there : StandsAt m.account c.in-Some.place c.args.self.now.rows =
    subst (λ o. IfSome o (λ place. StandsAt m.account place c.args.self.now.rows)) c.in-Some.is c.requires.there in
    let at : StandsAt m.account c.in-Some.place _ = subst (λ (v : RowsValue). StandsAt m.account c.in-Some.place v.rows) (sym c.self.view_is) there in
    c.holds.ensures
    ∙ ap told (sym (told_at c.self.inside.start c.self.inside.by_account.entries c.in-Some.place m.account _ c.in-Some-get_index.row.now at (sym c.in-Some-get_index.ensures.entry) c.in-Some-get_index.ensures.value))
    ∙ ap (λ (v : RowsValue). told (row_in v m.account)) c.self.view_is

pub returns-in-None : goal.returns-in-None
returns-in-None c =
    let m = c.args.message.now in
    let start = c.self.inside.start in
    let es = c.self.inside.by_account.entries in
    let told : AccountRow → Option ℕ = λ r. option_map (λ (p : Past). p.at) (find (repeats m c.args.at) (take 32 r.messages)) in
    let none : lookup (bytes_eq m.account) es ≡ None =
    none_of _ (sym (has_is es m.account) ∙ ap (λ (v : RowsValue). has_row v.rows m.account) c.self.view_is ∙ sym c.requires.found ∙ ap is_some c.in-None.is) in
    ap (λ (o : Option Row). told (from_row start m.account o)) (sym none)
    ∙ ap told (sym (known_is start es m.account)) ∙ ap (λ (v : RowsValue). told (row_in v m.account)) c.self.view_is
