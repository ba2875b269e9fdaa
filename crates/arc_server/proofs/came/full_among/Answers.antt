use Rattle.arc_server.specs.Servings.{full_in}
use Rattle.arc_server.proofs.Fronts.{front_of_stops}
use Rattle.arc_server.proofs.came.full_among.Goals as goal

pub returns : goal.returns
returns c =
    rw (← c.came.view_is)
    (let all = front_of_stops full_in (record { lines = c.came.inside.lines.items; desks = c.came.inside.desks.items; ticked = c.came.inside.ticked }) in cc)
