-- What a ticker did with the moments of its pulse, and what its pass made of them.
use Rattle.std.specs.Prelude.{◌≡◌, ◌≢◌, ◌-◌, ◌^◌, ◌++◌, ℕ, min, List, [], ◌∷◌}
use Rattle.std.specs.Prelude.{Option, Some, None, MatchOption, is_none, count_by, map}
use Rattle.arc_data.specs.declared.event.Event.TheVariants.{Tick}
use Rattle.arc_doors.specs.Pulses.{Moments, HasNoMoment}
use Rattle.centre_core.specs.declared.hall.Stop.{Stop}
use Rattle.centre_core.specs.declared.hall.Stop.TheVariants.{Memory}
use Rattle.line_gate.specs.Entries.{Entry}
use Rattle.line_gate.specs.Passes.{PassSeen, IsPass, IsLater, Makes, PassShows}
use Rattle.line_gate.specs.Terms.{Terms}
use Rattle.arc_serving.specs.Served.{InTurn, Moves}
use Rattle.arc_serving.specs.declared.ticking.Ticked.{Ticked}

-- one moment that the pulse gave, and the entry of its Tick, where it has one
pub record Ticking : Type 0 where
  pub moment : ℕ
  pub entry : Option Entry

-- the entry that was made at this moment is a Tick's; or nothing was made
abbrev pub MakesTick : Terms → PassSeen → PassSeen → ℕ → Option Entry → Type 0
MakesTick t p q moment (Some e) = Makes t p q moment e × (e.caller ≡ p.number) × (e.event ≡ Tick)
MakesTick t p q moment None = q.made ≡ p.made

-- a Tick was submitted by the pass, which was p before it and q after it
pub record IsTicked (t : Terms) (p q : PassSeen) (s : Ticking) : Type 0 where
  pub later : IsLater p q
  pub pass : IsPass t q
  pub makes : MakesTick t p q s.moment s.entry

-- how many have no entry, as a u64 counts them
abbrev pub missed_in : List Ticking → ℕ
missed_in ticks = min (count_by (λ s. is_none s.entry) ticks) (2 ^ 64 - 1)

-- of a pulse that tells its moments: these were given, in order
pub record MovesMoments (ticks : List Ticking) (old new : Moments) : Type 0 where
  pub left : old.left ≡ map (λ s. s.moment) ticks ++ new.left
  pub given : new.given ≡ old.given ++ map (λ s. s.moment) ticks

-- The last of these Ticks was stopped, not by want of memory, as the pass shows. Each earlier one that has no entry was refused
-- memory.
pub record IsTickStopped (t : Terms) (q : PassSeen) (stop : Stop) (refused : ℕ) (ticks : List Ticking) : Type 0 where
  pub front : List Ticking
  pub last : Ticking
  pub parts : ticks ≡ front ++ last ∷ []
  pub none : last.entry ≡ None
  pub other : stop ≢ Memory
  pub shown : PassShows t q stop Tick last.moment
  pub missed : refused ≡ missed_in front

-- the cause of a ticker's end: no moment came, or there was a stop
abbrev pub EndsTicking : Option Stop → Terms → PassSeen → Option Moments → ℕ → List Ticking → Type 0
EndsTicking None t q pulse refused ticks = HasNoMoment pulse × (refused ≡ missed_in ticks)
EndsTicking (Some stop) t q pulse refused ticks = IsTickStopped t q stop refused ticks

-- What a ticker did, from the pass p and the pulse as they were handed in, to the pass q and the pulse as they then are. That the pass
-- made these Ticks alone, in order, one for each moment but those that were refused memory and the one that was stopped, follows:
-- `law_one_caller`.
pub record WorksTicks (t : Terms) (p q : PassSeen) (pulse pulse' : Option Moments) (ticked : Ticked) : Type 0 where
  pub ticks : List Ticking
  pub each : InTurn (IsTicked t) p q ticks
  pub moments : Moves (MovesMoments ticks) pulse pulse'
  pub ended : EndsTicking ticked.stop t q pulse' ticked.refused ticks

-- what one call made of a moment
abbrev pub TicksOnce : Terms → PassSeen → PassSeen → ℕ → Option Stop → Type 0
TicksOnce t p q moment r =
    MatchOption r
    ((e : Entry) × IsTicked t p q (record { moment = moment; entry = Some e }))
    (λ stop. IsTicked t p q (record { moment = moment; entry = None }) × PassShows t q stop Tick moment)
