use Rattle.std.specs.Prelude.{is_err}
use Rattle.arc_server.specs.Servings.{where_so}
use Rattle.arc_server.specs.declared.status.Status.TheVariants.{WriteFault}
use Rattle.arc_server.proofs.Fronts.{first_met}
use Rattle.arc_server.proofs.came.first_met.Goals as goal

pub returns-in-Ok : goal.returns-in-Ok
returns-in-Ok c =
    let all = first_met c.in-Ok.came (where_so (is_err c.args.written) (WriteFault c.args.before c.args.now)) in cc
