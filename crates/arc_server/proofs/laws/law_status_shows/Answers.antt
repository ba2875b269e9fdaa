use Rattle.arc_server.proofs.Shown.{status_shows}
use Rattle.arc_server.proofs.laws.law_status_shows.Goals as goal

pub returns : goal.returns
returns g c groups crew status r r' around around' run = status_shows g.D.Disk.seen groups crew status r r' around around' run
