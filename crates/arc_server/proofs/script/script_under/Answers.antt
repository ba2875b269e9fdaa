use Rattle.std.proofs.Common.{refl}
use Rattle.arc_server.proofs.Over.{over_is}
use Rattle.arc_server.proofs.script.script_under.Goals as goal

pub returns-clause-ran : goal.returns-clause-ran
returns-clause-ran g c q q' read = record {
  setup = record { text = c.args.setup; read = read; is = c.requires.setting };
  ended = c.run_script-end.result;
  script = c.run_script-end.ensures.script;
  handed = refl;
  status_is = over_is c.status_over.result c.status_over.ensures.over c.faults-before.ensures c.faults.ensures
      (c.status_of_script-status.ensures.made (g.P.Ends.seen c.args.port.now) c.read_faults-reads.ensures c.write_faults-writes.ensures);
}
