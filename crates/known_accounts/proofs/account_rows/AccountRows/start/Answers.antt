use Rattle.std.proofs.Common.{ap, ◌∙◌, refl, map}
use Rattle.known_accounts.specs.Rows.{numbers, row_at}
use Rattle.known_accounts.proofs.Heard.{started_marked, heard_numbers}
use Rattle.known_accounts.proofs.account_rows.AccountRows.start.Goals as goal

pub returns-clause-marked : goal.returns-clause-marked
returns-clause-marked c = rw (← c.self.view_is) (started_marked c.args.at c.self.inside.start _ _ _ _ c.hear_all.ensures.rows)

pub returns-clause-kept : goal.returns-clause-kept
returns-clause-kept c = rw (← c.self.view_is) (record { rows = ap numbers c.hear_all.ensures.rows ∙ heard_numbers c.args.at (map row_at c.self.inside.by_account.entries); room = refl })
