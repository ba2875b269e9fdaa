use Rattle.std.proofs.Common.{sym, ◌∙◌}
use Rattle.contact_id.proofs.Listed.{contact_id_class-letters}
use Rattle.contact_id.proofs.class.class_of.Goals as goal

pub returns-then-not-are_decimal : goal.returns-then-not-are_decimal
returns-then-not-are_decimal c = sym (contact_id_class-letters c.args.code.now (sym c.are_decimal.ensures ∙ c.if-not-are_decimal.true))
