use Rattle.std.proofs.Common.{refl}
use Rattle.arc_server.proofs.run.run_form.Goals as goal

pub returns-in-Session-clause-ran : goal.returns-in-Session-clause-ran
returns-in-Session-clause-ran g c =
    rw (c.in-Session.is, c.unserved.ensures.status, c.unserved.ensures.disk, c.unserved.ensures.station) (refl, c.run_session.ensures.ran)

pub returns-in-Gather-clause-ran : goal.returns-in-Gather-clause-ran
returns-in-Gather-clause-ran g c = rw (c.in-Gather.is) (refl, c.run_gather.ensures.ran)

pub returns-in-Udp-clause-ran : goal.returns-in-Udp-clause-ran
returns-in-Udp-clause-ran g c =
    rw (c.in-Udp.is, c.unserved-in-Udp.ensures.status, c.unserved-in-Udp.ensures.disk, c.unserved-in-Udp.ensures.station) (refl, c.run_mailed.ensures.ran)
