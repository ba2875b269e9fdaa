-- Jobs, before they are done and after.
use Rattle.std.specs.Prelude.{◌≡◌, ◌≤◌, ◌<◌, ◌+◌, ℕ, List, [], ◌∷◌, ◌++◌, Option, Some, MatchOption, All, map, reverse, flat_map}
use Rattle.std.specs.Option.{option_to_list}
use Rattle.arc_doors.specs.Doors.{DoorSeen}
use Rattle.arc_serving.specs.declared.side.Side.{Side}
use Rattle.arc_serving.specs.Works.{Works}
use Rattle.arc_serving.specs.declared.working.Worked.{Worked}
use Rattle.line_gate.specs.Entries.{Extends}
use Rattle.line_gate.specs.Passes.{PassSeen}
use Rattle.line_gate.specs.Terms.{Terms}
use Rattle.arc_serving.specs.Ran.{IsFresh}

-- of a job: what its door tells, its pass, and what came of the worker once it ended
pub record JobSeen : Type 0 where
  pub door : DoorSeen
  pub pass : Option PassSeen
  pub worked : Option Worked

-- the passes of jobs, in order; their numbers; what came of them
abbrev pub passes_in : List JobSeen → List PassSeen
passes_in jobs = flat_map (λ j. option_to_list j.pass) jobs

abbrev pub numbers_in : List JobSeen → List ℕ
numbers_in jobs = map (λ p. p.number) (passes_in jobs)

abbrev pub worked_in : List JobSeen → List Worked
worked_in jobs = flat_map (λ j. option_to_list j.worked) jobs

abbrev pub doors_in : List JobSeen → List DoorSeen
doors_in jobs = map (λ j. j.door) jobs

-- the job has a fresh pass
abbrev pub IsReady : Terms → JobSeen → Type 0
IsReady t j = (p : PassSeen) × (j.pass ≡ Some p) × IsFresh t p

-- each number is above the one before it; the first is at least `low`, and the last below `high`
abbrev pub AreRising : ℕ → List ℕ → ℕ → Type 0
AreRising low [] high = low ≤ high
AreRising low (n ∷ ns) high = (low ≤ n) × AreRising (n + 1) ns high

-- The first of these doors were taken into jobs, each with a fresh pass whose number is above that of the one before; the others are left,
-- the first one last. The numbers are not below `low`, and below `high`.
pub record AreSeated (t : Terms) (doors left : List DoorSeen) (jobs : List JobSeen) (low high : ℕ) : Type 0 where
  pub parts : doors ≡ doors_in jobs ++ reverse left
  pub ready : All (λ j. IsReady t j) jobs
  pub rising : AreRising low (numbers_in jobs) high

-- the last of the doors left was taken into a job, in the same way
pub record SeatsOne (t : Terms) (left left' : List DoorSeen) (jobs jobs' : List JobSeen) (low high : ℕ) : Type 0 where
  pub job : JobSeen
  pub door : left ≡ left' ++ job.door ∷ []
  pub jobs_is : jobs' ≡ jobs ++ job ∷ []
  pub pass : PassSeen
  pub pass_is : job.pass ≡ Some pass
  pub fresh : IsFresh t pass
  pub above : low ≤ pass.number
  pub below : pass.number < high

-- a worker ran from the pass p on
pub record WorksJob (side : Side) (t : Terms) (sessions : ℕ) (p : PassSeen) (old new : JobSeen) : Type 0 where
  pub pass : PassSeen
  pub worked : Worked
  pub pass_is : new.pass ≡ Some pass
  pub worked_is : new.worked ≡ Some worked
  pub works : Works side t p pass old.door new.door sessions worked

-- a job that has a pass was done, and one that has none is as it was
abbrev pub IsJobDone : Side → Terms → ℕ → JobSeen → JobSeen → Type 0
IsJobDone side t sessions old new = MatchOption old.pass (new ≡ old) (λ p. WorksJob side t sessions p old new)

-- the pass p has seen all that q has seen, and was told what q was told
pub record HasTaken (p q : PassSeen) : Type 0 where
  pub since : Extends q.since p.since
  pub told : q.told ≤ p.told

-- the pass of a job, where it has one, was taken in
abbrev pub IsTaken : PassSeen → Option PassSeen → Type 0
IsTaken first pass = MatchOption pass (Unit {0}) (λ q. HasTaken first q)

-- The jobs are over: their doors stand before those that were left, in order. The first pass has taken in theirs.
pub record AreUnseated (first : PassSeen) (jobs : List JobSeen) (left doors : List DoorSeen) : Type 0 where
  pub parts : doors ≡ doors_in jobs ++ reverse left
  pub taken : All (λ j. IsTaken first j.pass) jobs
