-- What a worker did with its links, and what its pass made of them.
use Rattle.std.specs.Prelude.{◌≡◌, ◌≤◌, ◌-◌, ◌++◌, ℕ, List, [], ◌∷◌, Bool, false, Option, Some, None}
use Rattle.std.specs.Prelude.{All, codes, length, take, map, reverse}
use Rattle.arc_data.specs.declared.event.Event.{Event}
use Rattle.arc_data.specs.declared.event.Event.TheVariants.{Message, Beat}
use Rattle.arc_data.specs.declared.event.Event.TheVariants.{Next, Claim, Act, Release, Close, Show, List as Rows}
use Rattle.arc_io.specs.Seen.{PortSeen}
use Rattle.arc_doors.specs.Doors.{Links}
use Rattle.arc_serving.specs.Sessions.{Reads, ServesBy}
use Rattle.arc_serving.specs.declared.session.SessionEnd.{SessionEnd}
use Rattle.arc_serving.specs.declared.side.Side.{Side}
use Rattle.arc_serving.specs.declared.side.Side.TheVariants.{Lines, Desks}
use Rattle.centre_rules.specs.Summary.{Summary}
use Rattle.line_gate.specs.AtGates.{gate_seen}
use Rattle.line_gate.specs.Entries.{Entry, Extends}
use Rattle.line_gate.specs.Passes.{PassSeen, IsPass}
use Rattle.line_gate.specs.Terms.{Terms}
use Rattle.session_rules.specs.Sessions.{changed}

-- the name of the line of each link that panels come by
abbrev pub tcp : List ℕ
tcp = codes "tcp"

-- one link that was served: what it told when the door gave it and when the door got it back, how its session ended, and the
-- entries that the pass made in the session, the earliest first
pub record Served : Type 0 where
  pub given : PortSeen
  pub back : PortSeen
  pub end : SessionEnd
  pub entries : List Entry

-- The clause of a session of this kind over the gate, from what the pass p had seen before it, over this base, to what q had seen
-- after it. The entries are just those of the session.
abbrev pub ServesAtGate : Side → Terms → Summary → List Entry → PassSeen → PassSeen → List ℕ → Served → Type 0
ServesAtGate side t b base p q read s =
    ServesBy t.groups side tcp s.end read b (record { from = p.since ++ base; to = q.since ++ base; made = s.entries })
    (changed (gate_seen t p) (gate_seen t q) s.given s.back)

-- a session of this kind submits each event alone, at a gate that takes events together or not
abbrev pub IsSingle : Side → Bool → Type 0
IsSingle Lines groups = groups ≡ false
IsSingle Desks groups = Unit {0}

-- A link was served by a session of the pass, which was p before it and q after it: it read these bytes, ended for its cause, and
-- the session's clause holds over each base of the gate. The pass keeps its number, and no count of it falls.
pub record IsServed (side : Side) (t : Terms) (p q : PassSeen) (s : Served) : Type 0 where
  pub read : List ℕ
  pub reads : Reads side s.end read s.given s.back
  pub serves : (b : Summary) (base : List Entry) → t.stood b base → ServesAtGate side t b base p q read s
  pub number : q.number ≡ p.number
  pub count : p.count ≤ q.count
  pub told : p.told ≤ q.told
  pub pass : IsPass t q

-- what the pass q made since it was p, the earliest first
abbrev pub made_between : PassSeen → PassSeen → List Entry
made_between p q = reverse (take (length q.made - length p.made) q.made)

-- The same of a link that told these when the door gave it and when it got it back, and of all that the pass made between p and q.
abbrev pub ServesLink : Side → Terms → PassSeen → PassSeen → PortSeen → PortSeen → SessionEnd → Type 0
ServesLink side t p q given back end =
    IsServed side t p q (record { given = given; back = back; end = end; entries = made_between p q })

-- these were done in turn, the first of them from p on, the last to q
abbrev pub InTurn : {P S : Type 0} → (P → P → S → Type 0) → P → P → List S → Type 0
InTurn done p q [] = q ≡ p
InTurn {P} done p q (s ∷ ss) = (mid : P) × done p mid s × InTurn done mid q ss

-- of a door that tells its links: these were given, and got back, in order
pub record MovesLinks (served : List Served) (old new : Links) : Type 0 where
  pub left : old.left ≡ map (λ s. s.given) served ++ new.left
  pub given : new.given ≡ old.given ++ map (λ s. s.given) served
  pub back : new.back ≡ old.back ++ map (λ s. s.back) served

-- of a door or a pulse: where it told it goes on to tell, and what it tells moved so; one that did not never does
abbrev pub Moves : {A : Type 0} → (A → A → Type 0) → Option A → Option A → Type 0
Moves so None None = Unit {0}
Moves so (Some old) (Some new) = so old new
Moves so old new = ⊥

-- What is submitted in sessions of a kind: on a line what panels report, a message or a heartbeat; at a desk what operators ask for, an
-- order for an incident or a question.
abbrev pub IsSubmittedBy : Side → Event → Type 0
IsSubmittedBy Lines (Message m via) = Unit {0}
IsSubmittedBy Lines (Beat account) = Unit {0}
IsSubmittedBy Desks (Claim operator number) = Unit {0}
IsSubmittedBy Desks (Next operator) = Unit {0}
IsSubmittedBy Desks (Act operator number step outcome) = Unit {0}
IsSubmittedBy Desks (Release operator number) = Unit {0}
IsSubmittedBy Desks (Close operator number code) = Unit {0}
IsSubmittedBy Desks (Show number) = Unit {0}
IsSubmittedBy Desks Rows = Unit {0}
IsSubmittedBy side event = ⊥

-- What a pass made from p to q are these entries, in order, of events of this kind of session alone. What it has seen begins with
-- what it had seen.
pub record MakesEntries (side : Side) (p q : PassSeen) (entries : List Entry) : Type 0 where
  pub made : q.made ≡ reverse entries ++ p.made
  pub only : All (λ e. IsSubmittedBy side e.event) entries
  pub seen : Extends p.since q.since
