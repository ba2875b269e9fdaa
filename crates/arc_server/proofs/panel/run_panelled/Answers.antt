use Rattle.arc_server.proofs.panel.run_panelled.Goals as goal

pub returns-clause-ran : goal.returns-clause-ran
returns-clause-ran g c = record {
  end = c.run_panel-end.result;
  played = c.run_panel-end.ensures.played;
  status_is = c.status_of_panel.ensures.made (g.P.Ends.seen c.args.port.now) c.read_faults-reads.ensures c.write_faults-writes.ensures;
}
