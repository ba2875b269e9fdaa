-- The mark of the message stands before those of its signals.
use Rattle.std.proofs.Common.{refl}
use Rattle.centre_rules.specs.Marks.{Sends}
use Rattle.known_accounts.proofs.Numbered.{made_marked}
use Rattle.known_accounts.proofs.Standing.{place_kept}
use Rattle.centre_core.proofs.Taking.{sent_taken}
use Rattle.centre_core.proofs.marks.send.Goals as goal

pub carry_own-requires-clause-own : goal.carry_own-requires-clause-own
carry_own-requires-clause-own c =
    (c.args.message.account, c.requires.own, place_kept c.place_from-place.new.self c.send.new.self c.args.message.account c.place_from-place.result c.send.ensures.text c.send.ensures.kept c.place_from-place.ensures.there)

pub returns-clause-taken : goal.returns-clause-taken
returns-clause-taken c =
    sent_taken c.args.message c.args.at c.args.carried.now c.args.accounts.now.rows c.send.new.self.rows c.carry_own.new.accounts.rows c.args.table.now c.carry_own.new.table
    (made_marked c.args.message.account (Sends c.args.message c.args.at) c.args.accounts.now.rows c.place_from-place.new.self.rows c.send.new.self.rows (λ b p. refl) c.place_from-place.ensures.made c.send.ensures.marked)
    c.carry_own.ensures.taken
