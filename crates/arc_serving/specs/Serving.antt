-- What serving makes of a store and of what stood around it.
use Rattle.std.specs.Prelude.{◌≡◌, ◌≤◌, ℕ, List, [], ◌∷◌, ◌++◌, Bool, Some, All, map}
use Rattle.std.specs.List.Sorted.{IsStrictlyIncreasing}
use Rattle.alarm_rules.specs.Setups.{meaning}
use Rattle.arc_io.specs.Causes.{Rose}
use Rattle.arc_io.specs.Disks.{DiskSeen}
use Rattle.arc_serving.specs.declared.side.Side.TheVariants.{Lines, Desks}
use Rattle.centre_rules.specs.History.{marks}
use Rattle.centre_rules.specs.Marks.{force}
use Rattle.centre_rules.specs.Summary.{Summary}
use Rattle.centre_store.specs.Stores.{Stored, HasFailed, StoreStands}
use Rattle.line_gate.specs.Blanks.{BlankSeen, terms_of}
use Rattle.line_gate.specs.Entries.{Entry, Extends}
use Rattle.line_gate.specs.Passes.{PassSeen}
use Rattle.line_gate.specs.Terms.{Terms, IsPastBase}
use Rattle.line_gate.specs.declared.closed.GroupClosed.{GroupClosed}
use Rattle.line_gate.specs.declared.closed.GroupClosed.TheVariants.{Whole, Broken}
use Rattle.arc_serving.specs.Jobs.{HasTaken}
use Rattle.arc_serving.specs.Ran.{IsFresh, WorkerRan, IsSideServed}
use Rattle.arc_serving.specs.Seen.{StationSeen, CameSeen}
use Rattle.arc_serving.specs.Ticks.{WorksTicks}
use Rattle.arc_serving.specs.declared.station.Crew.{Crew}

-- all that ran: the workers of either side, in the order of their doors, and of the ticker its pass as it began and as it ended
pub record Ran : Type 0 where
  pub lines : List WorkerRan
  pub desks : List WorkerRan
  pub began : PassSeen
  pub ended : PassSeen

-- their passes as they ended
abbrev pub all_ended : Ran → List PassSeen
all_ended r = map (λ w. w.ended) r.lines ++ (map (λ w. w.ended) r.desks ++ r.ended ∷ [])

-- the store stands for a history that begins with this one, past which stand entries of events that callers submit alone
pub record GoesOnFrom {D : Type 0} (seen : D → DiskSeen) (b : Summary) (base : List Entry) (s : Stored D) : Type 0 where
  pub history : List Entry
  pub stands : StoreStands seen b s history
  pub past : IsPastBase base history

-- and with all that each of these passes has seen
pub record StandsForAll {D : Type 0} (seen : D → DiskSeen)
    (b : Summary) (base : List Entry) (passes : List PassSeen) (s : Stored D) : Type 0 where
  pub from : GoesOnFrom seen b base s
  pub all_seen : All (λ p. Extends (p.since ++ base) from.history) passes

-- The callers ran beside each other at a gate of this name. Each used door has the clause of a worker, the pulse that of the ticker,
-- all under numbers of their own, which rise: lines in the order of their doors, then desks, then the ticker. The setup in force was
-- that of the history before.
pub record RanAll (t : Terms) (crew : Crew) (before after : StationSeen) (came : CameSeen) : Type 0 where
  pub ran : Ran
  pub lines : IsSideServed Lines t crew.lines crew.sessions ran.lines before.lines after.lines came.lines
  pub desks : IsSideServed Desks t crew.desks crew.sessions ran.desks before.desks after.desks came.desks
  pub fresh : IsFresh t ran.began
  pub ticks : WorksTicks t ran.began ran.ended before.pulse after.pulse came.ticked
  pub numbers : IsStrictlyIncreasing (map (λ p. p.number) (all_ended ran))
  pub setup : (b : Summary) (base : List Entry) → t.stood b base → force b (marks b base) ≡ Some (meaning t.text)

-- Then the gate was closed: the store stands for one history, in which all that any of them has seen stands.
pub record ServesWhole {D : Type 0} (seen : D → DiskSeen)
    (t : Terms) (crew : Crew) (before after : StationSeen) (came : CameSeen) (s : Stored D) : Type 0 where
  pub all : RanAll t crew before after came
  pub stands : (b : Summary) (base : List Entry) → t.stood b base → StandsForAll seen b base (all_ended all.ran) s
  pub all_told : All (λ p. p.told ≤ (seen s.journal.disk).faults) (all_ended all.ran)

-- This is so of some gate before the store, with groups or without. Its bases are just the histories for which the store stood.
pub record AtSomeGate {D : Type 0} (seen : D → DiskSeen) (groups : Bool) (from : Stored D) (IsSo : Terms → Type 0) : Type 0 where
  pub gate : BlankSeen D
  pub from_is : gate.store ≡ from
  pub serves : IsSo (terms_of groups seen gate)

-- The callers ran so, and this pass has taken in those of all.
pub record RanBefore (t : Terms) (last : PassSeen) (crew : Crew) (before after : StationSeen) (came : CameSeen) : Type 0 where
  pub all : RanAll t crew before after came
  pub taken : All (λ p. HasTaken last p) (all_ended all.ran)

-- What serving at a gate with groups gives: the store where its disk has not failed. Else the store was let go, and its disk comes back
-- with the counts of its faults at the opening and now: it failed since the opening, as often at least as any of the callers was told.
abbrev pub ServesAt : {D : Type 0} → (D → DiskSeen) → Terms → Crew → StationSeen → StationSeen → CameSeen → GroupClosed D → Type 0
ServesAt seen t crew before after came (Whole s) = ServesWhole seen t crew before after came s × (HasFailed seen s → ⊥)
ServesAt seen t crew before after came (Broken disk at_open now) =
    (now ≡ (seen disk).faults) × (at_open ≡ t.at_open) × Rose at_open now
    × (all : RanAll t crew before after came) × All (λ p. p.told ≤ now) (all_ended all.ran)

-- Where all were refused memory before the first began: a store goes on from what it was, also if its disk had failed before.
abbrev pub GoesOnAt : {D : Type 0} → (D → DiskSeen) → Summary → List Entry → GroupClosed D → Type 0
GoesOnAt seen b base (Whole s) = GoesOnFrom seen b base s
GoesOnAt seen b base (Broken disk at_open now) = (now ≡ (seen disk).faults) × Rose at_open now

-- what comes back was opened at the count of faults that this store has, and a store has its limits
abbrev pub IsKeptOf : {D : Type 0} → Stored D → GroupClosed D → Type 0
IsKeptOf from (Whole s) = (s.at_open ≡ from.at_open) × (s.journal.limits ≡ from.journal.limits)
IsKeptOf from (Broken disk at_open now) = at_open ≡ from.at_open
