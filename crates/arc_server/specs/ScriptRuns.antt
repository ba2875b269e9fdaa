-- What a run of `script` did.
use Rattle.std.specs.Prelude.{◌≡◌}
use Rattle.arc_io.specs.Disks.{DiskSeen}
use Rattle.arc_script.specs.Ends.{IsScript}
use Rattle.arc_script.specs.declared.script_end.ScriptEnded.{ScriptEnded}
use Rattle.arc_server.specs.Areas.{shipped}
use Rattle.arc_server.specs.Handed.{Handed}
use Rattle.arc_server.specs.Made.{status_of_run, status_of_script}
use Rattle.arc_server.specs.SetupReads.{HasSetup}
use Rattle.arc_server.specs.declared.status.Status.{Status}

-- The setup was read, and under it and with the limits that are shipped the script on the port was run over the disk: what it did says
-- `IsScript`. Its disk is handed back.
pub record Scripts {D : Type 0} (seen : D → DiskSeen) (status : Status) (r r' : Handed D) : Type 0 where
  pub setup : HasSetup r.setup r'.setup
  pub ended : ScriptEnded D
  pub script : IsScript seen setup.text shipped r.port r'.port r.disk ended
  pub handed : r'.disk ≡ ended.disk
  pub status_is : status ≡ status_of_run seen r r' (status_of_script ended.end r.port r'.port)
