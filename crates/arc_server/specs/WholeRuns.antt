-- What a run did, by its form.
use Rattle.std.specs.Prelude.{◌≡◌, ◌≤◌, ◌⊎◌, ℕ, Bool, true, false}
use Rattle.arc_data.specs.Digits.{is_capital_hex, is_run}
use Rattle.arc_io.specs.Disks.{DiskSeen}
use Rattle.arc_io.specs.Seen.{PortSeen}
use Rattle.arc_serving.specs.Seen.{StationSeen}
use Rattle.arc_server.specs.Beginnings.{StopsAtSetup, StopsAtOpening, StopsBefore}
use Rattle.arc_server.specs.DrillRuns.{IsDrillRun}
use Rattle.arc_server.specs.FeedRuns.{FeedsPast}
use Rattle.arc_server.specs.Handed.{Handed}
use Rattle.arc_server.specs.MailRuns.{AnswersMail}
use Rattle.arc_server.specs.MirrorRuns.{FollowsOn}
use Rattle.arc_server.specs.PanelRuns.{IsPanelRun}
use Rattle.arc_server.specs.Reports.{ReportsPast}
use Rattle.arc_server.specs.ScriptRuns.{Scripts}
use Rattle.arc_server.specs.ServeRuns.{ServesAll, GathersBroken}
use Rattle.arc_server.specs.SessionRuns.{ServesRun}
use Rattle.arc_server.specs.declared.form.Form.{Form}
use Rattle.arc_server.specs.declared.form.Form.TheVariants.{Session, Script, Report, Drill, Serve, Panel, Feed, Mirror, Udp, Gather}
use Rattle.arc_server.specs.declared.status.Status.{Status}

-- what stands around a journal: doors and a pulse, and a mailbox
pub record AroundSeen : Type 0 where
  pub station : StationSeen
  pub mail : PortSeen

-- there are doors for all that are asked for
abbrev pub HasDoors : Form → ℕ → ℕ → Type 0
HasDoors (Serve crew) lines desks = (crew.lines ≤ lines) × (crew.desks ≤ desks)
HasDoors (Gather crew) lines desks = (crew.lines ≤ lines) × (crew.desks ≤ desks)
HasDoors form lines desks = Unit {0}

-- a number of messages that a drill can have, an account that a panel can have, and a number of datagrams
abbrev pub IsInRange : Form → Type 0
IsInRange (Drill messages) = (1 ≤ messages) × (messages ≤ 100_000)
IsInRange (Panel account) = is_run is_capital_hex 3 16 account ≡ true
IsInRange (Udp datagrams) = (1 ≤ datagrams) × (datagrams ≤ 1_000_000)
IsInRange form = Unit {0}

-- The setup is read. A form that does not read it leaves its source as it was, which is a clause of its own.
abbrev pub reads_setup : Form → Bool
reads_setup Report = false
reads_setup (Drill messages) = false
reads_setup (Panel account) = false
reads_setup Feed = false
reads_setup Mirror = false
reads_setup form = true

-- Of what a run is handed, as it was and as it is, and of what stands around it: the run stopped before it did what its form is for, or it
-- did that. What it does not use of what stands around is as it was.
abbrev pub IsRun : {D : Type 0} → (D → DiskSeen) → Form → Status → Handed D → Handed D → AroundSeen → AroundSeen → Type 0
IsRun seen (Session side) status r r' around around' =
    (around' ≡ around) × (StopsBefore seen status r r' ⊎ ServesRun seen side status r r')
IsRun seen Script status r r' around around' = (around' ≡ around) × (StopsAtSetup status r r' ⊎ Scripts seen status r r')
IsRun seen Report status r r' around around' = (around' ≡ around) × (StopsAtOpening seen status r r' ⊎ ReportsPast seen status r r')
IsRun seen (Drill messages) status r r' around around' =
    (around' ≡ around) × (r'.disk ≡ r.disk) × IsDrillRun messages status r.port r'.port
IsRun seen (Panel account) status r r' around around' =
    (around' ≡ around) × (r'.disk ≡ r.disk) × IsPanelRun account status r.port r'.port
IsRun seen Feed status r r' around around' = (around' ≡ around) × (StopsAtOpening seen status r r' ⊎ FeedsPast seen status r r')
IsRun seen Mirror status r r' around around' = (around' ≡ around) × (StopsAtOpening seen status r r' ⊎ FollowsOn seen status r r')
IsRun seen (Serve crew) status r r' around around' =
    (around'.mail ≡ around.mail) × ((StopsBefore seen status r r' × (around'.station ≡ around.station))
    ⊎ ServesAll seen false crew status r r' around.station around'.station)
IsRun seen (Gather crew) status r r' around around' =
    (around'.mail ≡ around.mail) × ((StopsBefore seen status r r' × (around'.station ≡ around.station))
    ⊎ (ServesAll seen true crew status r r' around.station around'.station
    ⊎ GathersBroken seen crew status r r' around.station around'.station))
IsRun seen (Udp datagrams) status r r' around around' =
    (around'.station ≡ around.station) × ((StopsBefore seen status r r' × (around'.mail ≡ around.mail))
    ⊎ AnswersMail seen datagrams status r r' around.mail around'.mail)
