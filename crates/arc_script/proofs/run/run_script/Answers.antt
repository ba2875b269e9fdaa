use Rattle.std.proofs.Common.{◌≤◌, inr, refl, subst, sym}
use Rattle.arc_script.specs.Begun.{Begun}
use Rattle.arc_script.proofs.Opening.{store_opened, held_opened, begins_with}
use Rattle.centre_store.proofs.Holding.{recorded_there}
use Rattle.centre_store.proofs.Readable.{becomes_told}
use Rattle.centre_store.specs.Given.{GoesOn}
use Rattle.arc_script.proofs.run.run_script.Goals as goal

pub returns-in-Ok : goal.returns-in-Ok
returns-in-Ok g c =
    let o = c.in-Ok.ensures.opened in
    let b : Begun g.row.D.Denot = record {
      disk = c.args.disk;
      setup = c.args.setup;
      limits = c.args.limits;
      base = o.base;
      past = o.past;
      port = g.P.Ends.seen c.args.port.now;
      opened = c.in-Ok.store.journal.disk;
    } in
    let seen = g.D.Disk.seen in
    record {
      script = inr (
        o.base,
        o.past,
        c.in-Ok.store.journal.disk,
        begins_with seen c.args.disk c.in-Ok.store o,
        c.in-Ok.ensures.any_moment,
        recorded_there seen c.in-Ok.store.journal o.base o.past o.held,
        c.run_over.ensures.ran b refl refl refl
            (store_opened seen g.met.D.Disk.only_now b c.in-Ok.store o refl refl refl (becomes_told (seen c.args.disk).told (seen c.in-Ok.store.journal.disk).told GoesOn c.in-Ok.ensures.told) c.in-Ok.ensures.limits (subst (λ n. (g.D.Disk.seen c.args.disk).faults ≤ n) (sym c.in-Ok.ensures.at_open) c.in-Ok.ensures.later))
            (held_opened seen c.args.disk c.in-Ok.store o),
      );
    }
