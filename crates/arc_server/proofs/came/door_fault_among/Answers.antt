use Rattle.std.specs.List.{flat_map}
use Rattle.arc_serving.specs.declared.side.Side.TheVariants.{Lines, Desks}
use Rattle.arc_server.specs.Servings.{door_fault_in}
use Rattle.arc_server.proofs.Fronts.{front_both}
use Rattle.arc_server.proofs.came.door_fault_among.Goals as goal

pub returns : goal.returns
returns c =
    rw (← c.came.view_is)
    (let both = front_both (flat_map (λ w. door_fault_in Lines w.end) c.came.inside.lines.items) (flat_map (λ w. door_fault_in Desks w.end) c.came.inside.desks.items) in cc)
