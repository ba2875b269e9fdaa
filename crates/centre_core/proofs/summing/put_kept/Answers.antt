-- One part behind another.
use Rattle.std.proofs.Common.{◌++◌, ◌∷◌, [], map, ap, ◌∙◌}
use Rattle.std.specs.Option.{option_map}
use Rattle.centre_rules.specs.Sums.{account_row}
use Rattle.known_accounts.specs.Supervised.{rows_sum}
use Rattle.summary_rules.specs.Spelling.{long_number, long_text, option_text, many_texts, row_text, incident_text, summary_text}
use Rattle.summary_codec.proofs.Flat.{five_behind, head_behind}
use Rattle.centre_core.proofs.summing.put_kept.Goals as goal

pub returns : goal.returns
unfolding summary_text
returns c good =
    let old = c.args.out.now.items in
    let g = long_number c.args.generation in
    let l = long_number c.args.last in
    let r = long_number c.args.recorded in
    let o = long_number c.args.table.now.opened in
    let s = option_text long_number c.args.rows.now.start in
    let t = option_text long_text (option_map (λ x. x.now) c.args.text) in
    let rows = many_texts row_text (map (account_row (rows_sum c.args.rows.now) []) c.args.accounts.now) in
    let is = many_texts (incident_text 2) c.args.table.now.incidents in
    let head = c.in_ok-put_head.ensures ∙ ap (λ n. old ++ (11 ∷ (g ++ (l ++ (r ++ long_number n))))) c.opened.ensures in
    let start = c.in_ok-put_given.ensures ∙ ap (λ n. c.put_head.new.out.items ++ option_text long_number n) c.last_start.ensures in
    c.in_ok-put_incidents.ensures good
    ∙ ap (λ x. x ++ is) (c.in_ok-put_rows.ensures
    ∙ ap (λ x. x ++ rows) (c.in_ok-put_setup.ensures
    ∙ ap (λ x. x ++ t) (start
    ∙ ap (λ x. x ++ s) head)))
    ∙ five_behind old (11 ∷ (g ++ (l ++ (r ++ o)))) s t rows is
    ∙ ap (λ x. old ++ x) (head_behind g l r o (s ++ (t ++ (rows ++ is))) 11)
