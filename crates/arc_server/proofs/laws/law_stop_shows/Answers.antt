use Rattle.centre_store.specs.StoreHalls.{store_seen}
use Rattle.arc_server.specs.SessionRuns.{line_name}
use Rattle.arc_server.proofs.Stops.{end_shows, mail_shows}
use Rattle.arc_server.proofs.laws.law_stop_shows.Goals as goal

pub returns-clause-session : goal.returns-clause-session
returns-clause-session g c side status r r' run =
    let seen = g.D.Disk.seen in
    end_shows side line_name run.end run.read run.begun.asked.base (record { from = run.begun.history; to = run.history; made = run.made })
    (store_seen seen run.begun.first) (store_seen seen run.last) run.p r'.port run.serves

pub returns-clause-mail : goal.returns-clause-mail
returns-clause-mail g c count status r r' m m' run =
    let seen = g.D.Disk.seen in
    mail_shows run.end run.given run.begun.asked.base run.begun.history (store_seen seen run.begun.first) (store_seen seen run.last) m m' run.serves
