-- A heartbeat is in the rows alone; what only asks leaves no mark.
use Rattle.std.proofs.Common.{refl, sym}
use Rattle.centre_rules.specs.Marks.{Hears}
use Rattle.known_accounts.proofs.Numbered.{made_marked}
use Rattle.centre_core.proofs.Taking.{one_taken, heard_same, none_by, asked_none}
use Rattle.centre_core.proofs.marks.mark.Goals as goal

pub returns-in-Beat-clause-taken : goal.returns-in-Beat-clause-taken
returns-in-Beat-clause-taken c =
    let account = c.in-Beat.account in
    let v = c.args.accounts.now.rows in
    rw c.in-Beat.is
    (one_taken (Hears account c.args.at) v c.hear.new.self.rows c.args.table.now c.args.table.now (λ text. refl)
    (made_marked account (Hears account c.args.at) v c.place_from-place.new.self.rows c.hear.new.self.rows (λ b p. refl) c.place_from-place.ensures.made (c.hear.ensures.marked account c.place_from-place.ensures.there)) refl
    (sym (heard_same account c.args.at c.args.table.now.incidents)) (λ n w. w) (λ r. r))

pub returns-clause-taken : goal.returns-clause-taken
returns-clause-taken c = none_by _ c.args.accounts.now.rows c.args.table.now (asked_none c.args.carried.now c.args.event c.args.at c.args.reply.now c.in-Show.is)
