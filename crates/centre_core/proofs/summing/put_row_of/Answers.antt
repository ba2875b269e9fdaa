-- What is known of the account is what stands in its row.
use Rattle.std.proofs.Common.{◌++◌, take, ap, ◌∙◌, sym}
use Rattle.centre_rules.specs.Summary.{AccountRow}
use Rattle.summary_rules.specs.Spelling.{row_text}
use Rattle.centre_core.proofs.summing.put_row_of.Goals as goal

pub returns : goal.returns
returns c =
    let a = c.args.account.now in
    c.in_ok-put_row.ensures
    ∙ ap (λ (r : AccountRow). c.args.out.now.items ++ row_text (record { account = a; heard = r.heard; failed = r.failed; opening = r.opening; messages = take 32 r.messages }))
    (sym c.in-Some.ensures.row)
