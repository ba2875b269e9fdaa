-- What a desk session over a port has done between two reads.
use Rattle.std.proofs.Common.{◌≡◌, ◌≤◌, ℕ, List, None, false}
use Rattle.std.specs.Io.KnownBytes.{prepend_known}
use Rattle.alarm_rules.specs.Setups.{meaning}
use Rattle.arc_io.specs.Seen.{PortSeen}
use Rattle.arc_text.specs.Lines.{ended_lines}
use Rattle.centre_core.specs.Halls.{HallSeen}
use Rattle.centre_rules.specs.Summary.{Summary}
use Rattle.centre_rules.specs.History.{Entry}
use Rattle.session_rules.specs.Sessions.{changed, answered}
use Rattle.desk_session.specs.Desks.{DeskValue, TookStream}
use Rattle.desk_session.specs.Sessions.{IsDesk}

-- this stream was read and served
pub record SoFar (state : DeskValue) (hall hall' : HallSeen) (p p' : PortSeen) : Type 0 where
  pub stream : List ℕ
  pub took : TookStream (meaning hall.text) stream state
  pub taken : p.left ≡ prepend_known stream p'.left
  pub not_ended : p'.ended ≡ false
  pub reads : p.read_faults ≤ p'.read_faults
  pub writes : p.write_faults ≤ p'.write_faults
  pub desk : (b : Summary) (h : List Entry) → hall.stands b h → IsDesk answered b None (ended_lines stream) h (changed hall hall' p p')
