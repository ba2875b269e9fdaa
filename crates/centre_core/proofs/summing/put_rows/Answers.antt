-- One account after another, each of which has a row.
use Rattle.std.proofs.Common.{◌≡◌, ◌++◌, [], map, take, length, ap, ◌∙◌, sym, arith}
use Rattle.std.specs.Int.{w32, to_be_bytes}
use Rattle.std.specs.List.{flat_map}
use Rattle.std.proofs.lemmas.List.{length-map, take_all}
use Rattle.centre_rules.specs.Sums.{account_row}
use Rattle.known_accounts.specs.Supervised.{rows_sum}
use Rattle.summary_rules.specs.Spelling.{row_text, many_texts}
use Rattle.summary_codec.proofs.Flat.{next_of, counted}
use Rattle.centre_core.proofs.Written.{among_at, rows_more}
use Rattle.centre_core.proofs.summing.put_rows.Goals as goal

pub put_row_of-requires : goal.put_row_of-requires
put_row_of-requires c =
    let a = c.account_at.result.now in
    sym (c.requires a) ∙ among_at c.args.accounts.now c.loop-i.i a c.account_at.ensures

pub loop-i-preserved : goal.loop-i-preserved
loop-i-preserved c =
    let xs = c.args.accounts.now in
    let a = c.account_at.result.now in
    rows_more (account_row (rows_sum c.args.rows.now) []) row_text xs c.loop-i.i a _ _ _ (next_of xs c.loop-i.i a c.account_at.ensures) c.loop-i.invariant c.in_ok-put_row_of.ensures

pub returns : goal.returns
unfolding many_texts
returns c =
    let xs = c.args.accounts.now in
    let row = account_row (rows_sum c.args.rows.now) [] in
    let all : take c.loop-i.i xs ≡ xs = take_all c.loop-i.i xs (omega arith) in
    counted c.args.out.now.items (to_be_bytes w32 (length (map row xs))) (flat_map row_text (map row xs)) _
    (c.loop-i.invariant ∙ ap (λ l. c.put_count.new.out.items ++ flat_map row_text (map row l)) all
    ∙ ap (λ l. l ++ flat_map row_text (map row xs)) (c.in_ok-put_count.ensures ∙ ap (λ n. c.args.out.now.items ++ to_be_bytes w32 n) (sym (length-map xs row))))
