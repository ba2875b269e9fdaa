-- What is kept is the summary of each history for which the centre stands.
use Rattle.std.proofs.Common.{◌≡◌, ◌++◌, [], ℕ, List, map, ap, ◌∙◌, sym, subst}
use Rattle.std.specs.List.{list_any}
use Rattle.std.specs.Option.{option_map}
use Rattle.std.specs.Str.{bytes_eq}
use Rattle.centre_rules.specs.Marks.{has_row}
use Rattle.centre_rules.specs.State.{State, StandsFor}
use Rattle.centre_rules.specs.Summary.{Summary}
use Rattle.centre_rules.specs.Sums.{account_row}
use Rattle.known_accounts.specs.Rows.{RowsValue}
use Rattle.known_accounts.specs.Supervised.{rows_sum}
use Rattle.summary_rules.specs.Spelling.{summary_text}
use Rattle.centre_core.specs.contracts.centre.Centre.{the_view}
use Rattle.centre_core.proofs.Summed.{in_order, kept_is, steps_good}
use Rattle.centre_core.proofs.centre.Centre.put_summary.Goals as goal

pub put_kept-requires : goal.put_kept-requires
put_kept-requires c a = ap (λ (xs : List (List ℕ)). list_any (λ x. bytes_eq x a) xs) c.deref.ensures.value ∙ c.in_ok-accounts.ensures.all a

pub returns-clause-spelled : goal.returns-clause-spelled
returns-clause-spelled c b h spelled stands =
    let inside = c.self.inside in
    let xs = c.in_ok-accounts.accounts.items in
    let state : State = the_view inside in
    let stood : StandsFor b state h = subst (λ (s : State). StandsFor b s h) (sym c.self.view_is) stands in
    let parts : record {
      last = inside.last;
      recorded = inside.recorded;
      opened = c.table.result.now.opened;
      start = c.rows-rows.result.now.start;
      text = option_map (λ t. t.now) c.text.result;
      rows = map (account_row (rows_sum c.rows-rows.result.now) []) c.deref.result.now;
      incidents = c.table.result.now.incidents;
    } ≡ in_order state.sum xs = λ i. record {
      last = inside.last;
      recorded = inside.recorded;
      opened = c.table.ensures.opened i;
      start = (c.rows-rows.ensures i).start;
      text = (c.text.ensures ∙ ap (λ (s : State). s.sum.text) (sym c.self.view_is)) i;
      rows = map (account_row (rows_sum (c.rows-rows.ensures i)) []) (c.deref.ensures.value i);
      incidents = c.table.ensures.incidents i;
    } in
    let all : (a : List ℕ) → list_any (λ x. bytes_eq x a) xs ≡ has_row inside.accounts.rows.rows a =
    λ a. c.in_ok-accounts.ensures.all a ∙ ap (λ (v : RowsValue). has_row v.rows a) c.rows-rows.ensures in
    let good = steps_good b state.sum h spelled stood.same stood.legal in
    c.in_ok-put_kept.ensures (rw c.table.ensures.incidents good)
    ∙ ap (λ (t : Summary). c.args.out.now.items ++ summary_text 2 c.args.generation t) (parts ∙ kept_is b state h xs spelled stood all c.in_ok-accounts.ensures.ascend)
