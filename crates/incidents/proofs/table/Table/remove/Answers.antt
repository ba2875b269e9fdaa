-- The incident of the number is gone, and so is what the index told of it.
use Rattle.std.proofs.Common.{Some, sym, ap, ◌∙◌}
use Rattle.std.specs.List.{find}
use Rattle.std.specs.Option.{option_map}
use Rattle.arc_data.specs.Incidents.{has_number}
use Rattle.incidents.specs.Tables.{TableValue, former_of}
use Rattle.incidents.proofs.Kept.{less_kept}
use Rattle.incidents.proofs.table.Table.remove.Goals as goal

pub invariant_of-self : goal.invariant_of-self
invariant_of-self c =
    rw c.remove-2.ensures.incidents
    (less_kept c.args.number c.self.inside.opened c.self.inside.room _ _ c.self.inside.index _ c.self.inside.slots.incidents c.in-Some.incident.now c.remove-2.ensures.room c.self.invariant (sym c.get.ensures ∙ ap (option_map (λ i. i.now)) c.in-Some.is) c.remove.ensures.tells c.remove.ensures.spare)

pub returns-clause-former : goal.returns-clause-former
returns-clause-former c =
    let found = sym c.get.ensures ∙ ap (option_map (λ i. i.now)) c.in-Some.is in
    ap Some c.of-former.ensures
    ∙ ap (option_map former_of) (sym found ∙ ap (λ (t : TableValue). find (has_number c.args.number) t.incidents) c.self.view_is)
