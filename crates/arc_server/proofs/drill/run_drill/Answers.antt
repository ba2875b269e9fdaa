use Rattle.std.proofs.Common.{◌∙◌}
use Rattle.arc_server.proofs.drill.run_drill.Goals as goal

pub returns-in-Ok-clause-ran : goal.returns-in-Ok-clause-ran
returns-in-Ok-clause-ran g c =
    c.tell.ensures.told c.args.messages c.in-Some.tally c.in-Some.ensures (c.as_bytes.ensures.value ∙ c.in-Ok.ensures)
