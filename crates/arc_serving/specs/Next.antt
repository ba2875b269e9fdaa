-- What a worker did with the next link of its door.
use Rattle.std.specs.Prelude.{◌≡◌, ◌≤◌, Option, Result, MatchOption, MatchResult}
use Rattle.arc_doors.specs.Doors.{DoorSeen, Links, HasNoneLeft, TakesLink, after_back}
use Rattle.arc_io.specs.Causes.{Rose}
use Rattle.arc_io.specs.declared.traits.Failed.{Failed}
use Rattle.arc_serving.specs.Sessions.{ShowsEnd}
use Rattle.arc_serving.specs.declared.session.SessionEnd.{SessionEnd}
use Rattle.arc_serving.specs.declared.side.Side.{Side}
use Rattle.line_gate.specs.AtGates.{gate_seen}
use Rattle.line_gate.specs.Passes.{PassSeen}
use Rattle.line_gate.specs.Terms.{Terms}
use Rattle.arc_serving.specs.Served.{Served, IsServed}

-- a link was given, served by a session that ended so, and got back
pub record ServesOne (side : Side) (t : Terms) (p q : PassSeen) (door door' : DoorSeen) (end : SessionEnd) : Type 0 where
  pub link : Served
  pub ended : link.end ≡ end
  pub out : Option Links
  pub takes : TakesLink link.given door.links out
  pub gets : door'.links ≡ after_back link.back out
  pub later : door.faults ≤ door'.faults
  pub served : IsServed side t p q link
  pub shown : ShowsEnd end (gate_seen t q)

-- no link came: the pass and the door's links are as they were
pub record IsAsBefore (p q : PassSeen) (door door' : DoorSeen) : Type 0 where
  pub pass : q ≡ p
  pub links : door'.links ≡ door.links
  pub later : door.faults ≤ door'.faults

abbrev pub ServesNext : Side → Terms → PassSeen → PassSeen → DoorSeen → DoorSeen → Result (Option SessionEnd) Failed → Type 0
ServesNext side t p q door door' r =
    MatchResult r
    (λ next. MatchOption next (IsAsBefore p q door door' × HasNoneLeft door.links) (λ end. ServesOne side t p q door door' end))
    (λ _. IsAsBefore p q door door' × Rose door.faults door'.faults)
