-- All numbers but that one are kept.
use Rattle.std.proofs.Common.{ℕ, ap, ◌∙◌, rules}
use Rattle.std.specs.Prelude.{◌==◌, not}
use Rattle.std.proofs.lemmas.Fn.{filter_same}
use Rattle.open_incidents.specs.Holding.{HeldValue, without_number}
use Rattle.open_incidents.proofs.held.Held.remove.Goals as goal

pub returns-clause-numbers : goal.returns-clause-numbers
returns-clause-numbers c =
    filter_same _ (λ (m : ℕ). not (m == c.args.number)) _ (λ x b f k. (search rules, search rules)) _ _ c.retain.ensures.filtered
    ∙ ap (λ (v : HeldValue). without_number c.args.number v.numbers) c.self.view_is
