-- Those that are open are kept.
use Rattle.std.proofs.Common.{rules}
use Rattle.std.proofs.lemmas.Fn.{filter_same}
use Rattle.incidents.specs.declared.slots.Slot.{Slot}
use Rattle.incidents.proofs.slots.drop_closed.Goals as goal

pub returns-then-wanted-clause-slots : goal.returns-then-wanted-clause-slots
returns-then-wanted-clause-slots c =
    rw c.if-wanted.true (filter_same _ (λ (s : Slot). s.is_open) _ (λ x b f k. (search rules, search rules)) _ _ c.retain.ensures.filtered)
