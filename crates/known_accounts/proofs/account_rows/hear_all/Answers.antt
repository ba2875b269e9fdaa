use Rattle.std.proofs.Common.{◌≡◌, ◌≤◌, ◌+◌, ℕ, suc, List, length, map, sym, ap, ◌∙◌, arith, add-one}
use Rattle.std.proofs.lemmas.List.{length-map}
use Rattle.indexmap.specs.IndexMap.{set_value_at}
use Rattle.indexmap.specs.Layout.{length-set_value_at}
use Rattle.known_accounts.specs.declared.row.Row.{Row}
use Rattle.known_accounts.specs.Rows.{row_at}
use Rattle.known_accounts.proofs.Heard.{heard_first, heard_all, heard_step}
use Rattle.known_accounts.proofs.account_rows.hear_all.Goals as goal

pub loop-place-preserved : goal.loop-place-preserved
loop-place-preserved c =
    let es = c.loop-place.rows.entries in
    let rs = map row_at c.args.rows.now.entries in
    record {
      rows = ap (λ (w : Row). map row_at (set_value_at es c.loop-place.place w)) c.hear.ensures
          ∙ heard_step c.args.at c.loop-place.place es rs c.index_mut-row.result.now c.loop-place.invariant.rows c.index_mut-row.ensures.value
          ∙ ap (λ n. heard_first c.args.at n rs) (sym (add-one c.loop-place.place));
      count = length-set_value_at es c.loop-place.place c.hear.new.self ∙ c.loop-place.invariant.count;
      spare = c.loop-place.invariant.spare;
    }

pub returns-clause-rows : goal.returns-clause-rows
returns-clause-rows c =
    let es = c.args.rows.now.entries in
    let end : length (map row_at es) ≤ c.loop-place.place = omega (arith, length-map es row_at, c.len-place-end.ensures.len) in
    c.loop-place.invariant.rows ∙ heard_all c.args.at c.loop-place.place (map row_at es) end
