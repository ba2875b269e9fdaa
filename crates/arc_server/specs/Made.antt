-- Which status is made of how a run ended.
use Rattle.std.specs.Prelude.{ℕ, if◌then◌else◌, nat_le, Result, Ok, Err}
use Rattle.arc_io.specs.Causes.{next_count}
use Rattle.arc_io.specs.Disks.{DiskSeen}
use Rattle.arc_io.specs.Seen.{PortSeen}
use Rattle.arc_io.specs.declared.traits.Failed.{Failed}
use Rattle.arc_panel.specs.declared.play.PanelEnd.{PanelEnd}
use Rattle.arc_panel.specs.declared.play.PanelEnd.TheVariants as Panel
use Rattle.arc_script.specs.declared.script_end.ScriptEnd.{ScriptEnd}
use Rattle.arc_script.specs.declared.script_end.ScriptEnd.TheVariants as Script
use Rattle.arc_serving.specs.declared.session.SessionEnd.{SessionEnd}
use Rattle.arc_serving.specs.declared.session.SessionEnd.TheVariants as Session
use Rattle.centre_core.specs.declared.hall.Stop.{Stop}
use Rattle.centre_core.specs.declared.hall.Stop.TheVariants as Hall
use Rattle.disk_journal.specs.declared.fault.OpenFault.{OpenFault}
use Rattle.disk_journal.specs.declared.fault.OpenFault.TheVariants as Open
use Rattle.mirror_centre.specs.declared.feed_end.FeedEnd.{FeedEnd}
use Rattle.mirror_centre.specs.declared.feed_end.FeedEnd.TheVariants as Feed
use Rattle.mirror_centre.specs.declared.follow_end.FollowEnd.{FollowEnd}
use Rattle.mirror_centre.specs.declared.follow_end.FollowEnd.TheVariants as Follow
use Rattle.udp_line.specs.declared.mail_end.MailEnd.{MailEnd}
use Rattle.udp_line.specs.declared.mail_end.MailEnd.TheVariants as Mail
use Rattle.arc_server.specs.Handed.{Handed}
use Rattle.arc_server.specs.declared.status.Status.{Status}
use Rattle.arc_server.specs.declared.status.Status.TheVariants.{Done, ReadFault, WriteFault, DiskFault, Journal, Full, BadScript}
use Rattle.arc_server.specs.declared.status.Status.TheVariants.{Memory, Spent, Worn, Behind, Strange}
use Rattle.arc_server.specs.declared.status.Which.TheVariants as Which

-- Where the disk has failed, by the counts of its faults at the run's entry and at its end, that is the status; else it is this one.
abbrev pub status_over : ℕ → ℕ → Status → Status
status_over entry end status = if nat_le (next_count entry) end then DiskFault entry end else status

-- the status of a run whose end makes this one, by the disk that it was handed and the one that it hands back
abbrev pub status_of_run : {D : Type 0} → (D → DiskSeen) → Handed D → Handed D → Status → Status
status_of_run seen r r' made = status_over (seen r.disk).faults (seen r'.disk).faults made

-- of a journal that was not opened
abbrev pub status_of_fault : OpenFault → Status
status_of_fault (Open.DiskFault before now) = DiskFault before now
status_of_fault Open.Memory = Memory
status_of_fault fault = Journal fault

abbrev pub status_of_stop : Stop → Status
status_of_stop Hall.Memory = Memory
status_of_stop (Hall.Down at_open now) = DiskFault at_open now
status_of_stop (Hall.Full used need records) = Full used need records
status_of_stop (Hall.Worn count) = Worn count

-- of the port's source, and of its sink, by what the port told before and tells now
abbrev pub read_fault : PortSeen → PortSeen → Status
read_fault p p' = ReadFault Which.Input p.read_faults p'.read_faults

abbrev pub write_fault : PortSeen → PortSeen → Status
write_fault p p' = WriteFault p.write_faults p'.write_faults

-- of a text that was written whole, or was cut off
abbrev pub status_of_text : Result (Unit {0}) Failed → PortSeen → PortSeen → Status
status_of_text (Ok done) p p' = Done
status_of_text (Err failed) p p' = write_fault p p'

abbrev pub status_of_session : SessionEnd → PortSeen → PortSeen → Status
status_of_session Session.Quit p p' = Done
status_of_session Session.InputEnded p p' = Done
status_of_session Session.ReadFault p p' = read_fault p p'
status_of_session Session.WriteFault p p' = write_fault p p'
status_of_session Session.Spent p p' = Spent
status_of_session (Session.Stopped stop) p p' = status_of_stop stop

abbrev pub status_of_script : ScriptEnd → PortSeen → PortSeen → Status
status_of_script Script.Done p p' = Done
status_of_script Script.ReadFault p p' = read_fault p p'
status_of_script Script.WriteFault p p' = write_fault p p'
status_of_script Script.Spent p p' = Spent
status_of_script (Script.BadScript line) p p' = BadScript line
status_of_script (Script.Refused fault) p p' = status_of_fault fault
status_of_script (Script.Stopped stop) p p' = status_of_stop stop

abbrev pub status_of_panel : PanelEnd → PortSeen → PortSeen → Status
status_of_panel Panel.Done p p' = Done
status_of_panel Panel.ReadFault p p' = read_fault p p'
status_of_panel Panel.WriteFault p p' = write_fault p p'
status_of_panel Panel.Spent p p' = Spent
status_of_panel (Panel.BadLine line) p p' = BadScript line
status_of_panel Panel.Memory p p' = Memory

abbrev pub status_of_feed : FeedEnd → PortSeen → PortSeen → Status
status_of_feed Feed.Done p p' = Done
status_of_feed Feed.ReadFault p p' = read_fault p p'
status_of_feed Feed.WriteFault p p' = write_fault p p'
status_of_feed Feed.Spent p p' = Spent
status_of_feed (Feed.Strange after) p p' = Strange after
status_of_feed (Feed.Stopped stop) p p' = status_of_stop stop

abbrev pub status_of_follow : FollowEnd → PortSeen → PortSeen → Status
status_of_follow Follow.Done p p' = Done
status_of_follow (Follow.Behind have count) p p' = Behind have count
status_of_follow (Follow.Strange after) p p' = Strange after
status_of_follow Follow.ReadFault p p' = read_fault p p'
status_of_follow Follow.WriteFault p p' = write_fault p p'
status_of_follow Follow.Spent p p' = Spent
status_of_follow (Follow.Stopped stop) p p' = status_of_stop stop

-- of datagrams, by what the mailbox told before and tells now
abbrev pub status_of_mail : MailEnd → PortSeen → PortSeen → Status
status_of_mail Mail.Quota m m' = Done
status_of_mail Mail.Ended m m' = Done
status_of_mail Mail.ReadFault m m' = ReadFault Which.Mail m.read_faults m'.read_faults
status_of_mail Mail.WriteFault m m' = write_fault m m'
status_of_mail (Mail.Stopped stop) m m' = status_of_stop stop
