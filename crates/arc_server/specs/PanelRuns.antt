-- What a run of `panel` did.
use Rattle.std.specs.Prelude.{◌≡◌, ℕ, List}
use Rattle.arc_io.specs.Seen.{PortSeen}
use Rattle.arc_panel.specs.Ends.{HasPlayed, setting_of}
use Rattle.arc_panel.specs.declared.play.PanelEnd.{PanelEnd}
use Rattle.arc_server.specs.Made.{status_of_panel}
use Rattle.arc_server.specs.declared.status.Status.{Status}

-- The lines on the port were played over a panel of this account: what was written is what the panel does.
pub record IsPanelRun (account : List ℕ) (status : Status) (p p' : PortSeen) : Type 0 where
  pub end : PanelEnd
  pub played : HasPlayed (setting_of account) end p p'
  pub status_is : status ≡ status_of_panel end p p'
