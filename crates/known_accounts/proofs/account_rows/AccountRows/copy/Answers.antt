-- Each row is put of an account that has none in the copy yet.
use Rattle.std.proofs.Common.{◌≡◌, ◌≤◌, ℕ, List, ◌++◌, ◌∷◌, [], Some, length, map, take, ap, ◌∙◌, sym, arith, false, subst}
use Rattle.std.specs.Prelude.{slice_get}
use Rattle.std.proofs.lemmas.List.{take_all, length-map}
use Rattle.centre_rules.specs.Summary.{AccountRow}
use Rattle.centre_rules.specs.Marks.{has_row}
use Rattle.known_accounts.specs.declared.row.Row.{Row}
use Rattle.known_accounts.specs.Rows.{RowsValue, row_at}
use Rattle.known_accounts.proofs.Copied.{rows_more, none_before}
use Rattle.known_accounts.proofs.account_rows.AccountRows.copy.Goals as goal

pub put-requires : goal.put-requires
put-requires c =
    let es = c.self.inside.by_account.entries in
    let i = c.loop-place.place in
    let kept : take i c.args.self.now.rows ≡ take i (map row_at es) = ap (λ (v : RowsValue). take i v.rows) (sym c.self.view_is) in
    ap (λ (rs : List AccountRow). has_row rs c.in-Some.account.now) (c.loop-place.invariant.rows ∙ kept)
    ∙ none_before es i (c.in-Some.account.now, c.in-Some.row.now) (sym c.in-Some.ensures.entry) c.len-place-end.ensures.unique

pub loop-place-preserved : goal.loop-place-preserved
loop-place-preserved c =
    let es = c.self.inside.by_account.entries in
    let i = c.loop-place.place in
    let kept : c.args.self.now.rows ≡ map row_at es = ap (λ (v : RowsValue). v.rows) (sym c.self.view_is) in
    record {
      start = c.in_ok-put.ensures.start ∙ c.loop-place.invariant.start;
      rows = c.in_ok-put.ensures.rows ∙ ap (λ (rs : List AccountRow). rs ++ row_at (c.in-Some.account.now, c.in_ok-row.row) ∷ []) (c.loop-place.invariant.rows ∙ ap (take i) kept)
          ∙ ap (λ (r : Row). take i (map row_at es) ++ row_at (c.in-Some.account.now, r) ∷ []) c.in_ok-row.ensures
          ∙ sym (rows_more es i (c.in-Some.account.now, c.in-Some.row.now) (sym c.in-Some.ensures.entry)) ∙ ap (take _) (sym kept);
    }

pub returns-clause-rows : goal.returns-clause-rows
returns-clause-rows c =
    let es = c.self.inside.by_account.entries in
    let kept : c.args.self.now.rows ≡ map row_at es = ap (λ (v : RowsValue). v.rows) (sym c.self.view_is) in
    let end : length c.args.self.now.rows ≤ c.loop-place.place = omega (arith, ap length kept, length-map es row_at, c.len-place-end.ensures.len) in
    c.loop-place.invariant.rows ∙ take_all c.loop-place.place c.args.self.now.rows end
