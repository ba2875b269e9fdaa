-- What a line of a script that asks for something answers, by the results of the calls that carry it out.
use Rattle.std.proofs.Common.{◌≡◌, ◌⊎◌, ◌∷◌, ℕ, List, [], Option, Some, Result, Ok, Err, OnOk, IfErr, IfOk, refl, sym, ap, subst, ◌∙◌}
use Rattle.std.specs.Prelude.{IfSome, None, unwrap_or}
use Rattle.std.proofs.lemmas.Result.{on_ok_weaker, IfErr-weaker}
use Rattle.alarm_rules.specs.Setups.{meaning}
use Rattle.arc_io.specs.Disks.{DiskSeen}
use Rattle.arc_io.specs.Seen.{PortSeen}
use Rattle.centre_core.specs.declared.hall.Stop.{Stop}
use Rattle.centre_core.specs.declared.hall.Stop.TheVariants.{Memory}
use Rattle.centre_rules.specs.History.{Entry, IsMoment}
use Rattle.centre_rules.specs.Summary.{Summary}
use Rattle.centre_store.specs.Given.{HoldsRecorded}
use Rattle.centre_store.specs.Stores.{HasFailed, Stored, StoreStands}
use Rattle.disk_journal.specs.declared.journal.OpenRefused.{OpenRefused}
use Rattle.script_lines.specs.Lines.{Asked, Time, Command, Reopen}
use Rattle.arc_script.specs.Begun.{Begun}
use Rattle.arc_script.specs.Between.{Between, CarriedOut, Carries, IsReady, ShutAt, Shuts, StoppedAt, Stops}
use Rattle.arc_script.specs.Carrying.{Carried, Halted, HaveTakenWith, IsNext}
use Rattle.arc_script.specs.Causes.{HasShown, IsOfCommand, Submits}
use Rattle.arc_script.specs.Ends.{Tells, CameTo}
use Rattle.arc_script.specs.Fed.{clock_of}
use Rattle.arc_script.specs.Playing.{TickStops, Ticked, moment_at}
use Rattle.arc_script.specs.Standing.{IsReadable, LeavesOn}
use Rattle.arc_script.specs.Steps.{Place, placed, Step, AddedBy, Commands, IsStepOf, before_tick, ticked_after}
use Rattle.arc_script.specs.declared.script.Script.{Script}
use Rattle.arc_script.specs.declared.script_end.Tally.{Tally}
use Rattle.arc_script.proofs.Carry.{IsOverStore, Stays, carried_out, stopped_at}
use Rattle.arc_script.proofs.Timing.{time_carried, time_stopped, time_taken}

-- The clock.

pub own_moment : (clock : Option ℕ) (a : Asked) (at moment : ℕ) → a ≡ Time at → moment_at clock a ≡ Some moment → at ≡ moment
own_moment clock a at moment is set =
    let e : Some at ≡ Some moment = sym (ap (moment_at clock) is) ∙ set in
    ap (λ (o : Option ℕ). unwrap_or o 0) e

-- A `T`.

module _ {D : Type 0} (seen : D → DiskSeen) (script script' : Script) (s s' : Stored D) (a : Asked) (at moment : ℕ) (stays : Stays seen script script' s s')
    (rest : script' ≡ record script { clock = script'.clock }) (fits : IsMoment moment) (is : a ≡ Time at) (same : at ≡ moment) where
  whose : a ≡ Time moment
  whose = is ∙ ap Time same

  pub time_carries : (p p' : PortSeen) (r : Result (Unit {0}) Stop)
      → OnOk r ((base : Summary) (h : List Entry) → StoreStands seen base s h
      → Ticked seen base (before_tick script.clock base script.setup at h) at s' p p')
      → OnOk r (s'.state.sum.text ≡ Some script.setup) → OnOk r (script'.clock ≡ Some at)
      → OnOk r ((base : Summary) (h : List Entry) → StoreStands seen base s h → LeavesOn seen base s s' h (ticked_after script.clock base script.setup at h))
      → OnOk r (Carries seen moment a script script' s s' p p')
  time_carries p p' (Ok done) ticked text clock left = λ b place count number h between next holds.
      let tally : script'.tally ≡ script.tally = ap (λ (k : Script). k.tally) rest in
      let there = subst (λ (n : ℕ). Ticked seen place.base (before_tick script.clock place.base script.setup n h) n s' p p') same
      (ticked place.base h between.store.stands) in
      let leaves = subst (λ (n : ℕ). LeavesOn seen place.base s s' h (ticked_after script.clock place.base script.setup n h)) same
      (left place.base h between.store.stands) in
      let out = time_carried seen b place count h moment script script' s s' between fits tally number p p' there leaves in
      let set : clock_of (Time moment ∷ place.asked) ≡ Some moment = refl in
      subst (λ (k : Asked). CarriedOut seen b place count number h k script.tally script' s' p p') (sym whose)
      (carried_out seen b place count h (Time moment) moment script script' s s' between stays fits set tt number p p' out
      (time_taken place.setup count moment place.asked script script' between.taken rest) (clock ∙ ap Some same) (text ∙ ap Some between.setup))
  time_carries p p' (Err stop) ticked text clock left = tt

  pub time_stops : (r : Result (Unit {0}) Stop)
      → IfErr r (λ stop. (base : Summary) (h : List Entry) → StoreStands seen base s h → HoldsRecorded seen s.journal base h → IsReadable base h
      → TickStops seen script.clock base script.setup at h stop s s')
      → IfErr r (λ stop. Stops seen moment a script script' s s' stop)
  time_stops (Ok done) stops = tt
  time_stops (Err stop) stops = λ b place count h between next holds.
      let tally : script'.tally ≡ script.tally = ap (λ (k : Script). k.tally) rest in
      let there = subst (λ (n : ℕ). TickStops seen script.clock place.base script.setup n h stop s s') same
      (stops place.base h between.store.stands holds between.store.readable) in
      subst (λ (k : Asked). StoppedAt seen b place h k stop script.tally script'.tally s') (sym whose)
      (time_stopped seen b place count h moment script script' s s' between fits tally stop stays there)

-- The other lines over the store.

-- how far such a line came
abbrev pub CameSoFar : {D : Type 0} → Summary → (D → DiskSeen) → Type 0 → List ℕ → ℕ → List Asked → Asked → List Entry → Stored D → Stop → List Entry → Step
    → Type 0
CameSoFar base seen Told setup moment before asked h s' stop x st =
    (waiting : List (List ℕ)) × HasShown seen base s' x stop moment (Submits s'.state.sum.text setup before moment waiting asked)
    × (CameTo stop Told (placed base setup before) waiting h x st asked ⊎ ((stop ≡ Memory) × IsStepOf Told (placed base setup before) h x st asked))

module _ {D : Type 0} (seen : D → DiskSeen) (script script' : Script) (s s' : Stored D) (a : Asked) (moment : ℕ) (stays : Stays seen script script' s s')
    (fits : IsMoment moment) (over : IsOverStore a) (own : moment_at script.clock a ≡ script.clock) (wanted : Asked) (is : wanted ≡ a) where
  next_with : (b : Begun D) (place : Place) (count : ℕ) (h : List Entry) → Between seen b place count h script s
      → IsNext (meaning place.setup) moment count place.asked a script.lines.items script.desks.items
      → IsNext (meaning script.setup) moment count place.asked a script.lines.items script.desks.items
  next_with b place count h between next =
      subst (λ (l : List ℕ). IsNext (meaning l) moment count place.asked a script.lines.items script.desks.items) (sym between.setup) next

  -- such a line comes behind the first `T`
  up_here : (b : Begun D) (place : Place) (count : ℕ) (h : List Entry) → Between seen b place count h script s
      → IsNext (meaning place.setup) moment count place.asked a script.lines.items script.desks.items → HasFailed seen s → ⊥
  up_here b place count h between next =
      let set : script.clock ≡ Some moment = sym own ∙ ap (λ (c : Option ℕ). moment_at c a) between.clock.is ∙ next.set in
      subst (λ (c : Option ℕ). IfSome c (λ last. HasFailed seen s → ⊥)) set between.up

  pub line_carries : (p p' : PortSeen) (r : Result (Unit {0}) Stop) → script'.clock ≡ script.clock → moment_at script.clock wanted ≡ Some moment
      → ((Told : Type 0) → OnOk r ((base : Summary) (before : List Asked) (count number : ℕ) (h : List Entry)
      → IsNext (meaning script.setup) moment count before a script.lines.items script.desks.items
      → StoreStands seen base s h → IsReadable base h → (HasFailed seen s → ⊥)
      → Carried seen base s h (λ x st. IsStepOf Told (placed base script.setup before) h x st a) number a script.tally script'.tally p p' s'))
      → OnOk r ((before : List Asked) (count : ℕ) → IsNext (meaning script.setup) moment count before a script.lines.items script.desks.items
      → HaveTakenWith (meaning script.setup) count before a script'.lines.items script'.desks.items)
      → s'.state.sum.text ≡ Some script.setup
      → OnOk r (Carries seen moment wanted script script' s s' p p')
  line_carries p p' (Ok done) same at fed took text = subst (λ (k : Asked). Carries seen moment k script script' s s' p p') (sym is) (λ b place count number h between next holds.
      let clock = same ∙ sym own ∙ ap (moment_at script.clock) (sym is) ∙ at in
      let n = next_with b place count h between next in
      let out = subst (λ (l : List ℕ). Carried seen place.base s h (λ x st. IsStepOf (Tells (seen b.disk)) (placed place.base l place.asked) h x st a) number a
      script.tally script'.tally p p' s') between.setup (fed (Tells (seen b.disk)) place.base place.asked count number h n between.store.stands between.store.readable (up_here b place count h between next)) in
      let taken = subst (λ (l : List ℕ). HaveTakenWith (meaning l) count place.asked a script'.lines.items script'.desks.items) between.setup
      (took place.asked count n) in
      carried_out seen b place count h a moment script script' s s' between stays fits next.set over number p p' out taken clock
      (text ∙ ap Some between.setup))
  line_carries p p' (Err stop) same at fed took text = tt

  pub line_stops : (r : Result (Unit {0}) Stop)
      → ((Told : Type 0) → IfErr r (λ stop. (base : Summary) (before : List Asked) (count : ℕ) (h : List Entry)
      → IsNext (meaning script.setup) moment count before a script.lines.items script.desks.items
      → StoreStands seen base s h → IsReadable base h → (HasFailed seen s → ⊥)
      → Halted seen base s h (λ x st. CameSoFar base seen Told script.setup moment before a h s' stop x st) script.tally script'.tally s'))
      → IfErr r (λ stop. Stops seen moment wanted script script' s s' stop)
  line_stops (Ok done) stops = tt
  line_stops (Err stop) stops = subst (λ (k : Asked). Stops seen moment k script script' s s' stop) (sym is) (λ b place count h between next holds.
      let Told = Tells (seen b.disk) in
      let n = next_with b place count h between next in
      let out = subst (λ (l : List ℕ). Halted seen place.base s h (λ x st. CameSoFar place.base seen Told l moment place.asked a h s' stop x st)
      script.tally script'.tally s') between.setup (stops Told place.base place.asked count h n between.store.stands between.store.readable (up_here b place count h between next)) in
      stopped_at seen b place count h a moment script script' s s' between stays fits next.set over stop out)

-- a command that was stopped added nothing
pub command_came : {D : Type 0} (seen : D → DiskSeen) (Told : Type 0) (base : Summary) (setup : List ℕ) (moment : ℕ) (before : List Asked) (desk : ℕ) (text : List ℕ)
    (h : List Entry) (s s' : Stored D) (stop : Stop) (t t' : Tally)
    → Halted seen base s h (λ x st. HasShown seen base s' x stop moment (IsOfCommand setup before desk text)
    × (((x ≡ h) × AddedBy base h x st) ⊎ ((stop ≡ Memory) × Commands (placed base setup before) desk text h x st))) t t' s'
    → Halted seen base s h (λ x st. CameSoFar base seen Told setup moment before (Command desk text) h s' stop x st) t t' s'
command_came {D} seen Told base setup moment before desk text h s s' stop t t' out =
    record {
      partial = out.partial;
      history = out.history;
      came = ([], out.came.0, out.came.1);
      stands = out.stands;
      readable = out.readable;
      left = out.left;
      counts = out.counts;
    }

-- An `X`.

set_before : (before : List Asked) (a : Asked) (moment : ℕ) → a ≡ Reopen → moment_at (clock_of before) a ≡ Some moment → clock_of before ≡ Some moment
set_before before a moment is set = ap (moment_at (clock_of before)) (sym is) ∙ set

pub reopen_carries : {D E : Type 0} (seen : D → DiskSeen) (moment : ℕ) (a : Asked) (script script' : Script) (s : Stored D) (p p' : PortSeen)
    (r : Result (Stored D × Result (Unit {0}) Stop) E) → a ≡ Reopen
    → IfOk r (λ x. OnOk x.1 ((b : Begun D) (place : Place) (count number : ℕ) (h : List Entry) → Between seen b place count h script s
    → HoldsRecorded seen s.journal place.base h → clock_of place.asked ≡ Some moment
    → CarriedOut seen b place count number h Reopen script.tally script' x.0 p p'))
    → IfOk r (λ x. OnOk x.1 (Carries seen moment a script script' s x.0 p p'))
reopen_carries seen moment a script script' s p p' (Ok x) is out = on_ok_weaker x.1 (λ all b place count number h between next holds.
    subst (λ (k : Asked). CarriedOut seen b place count number h k script.tally script' x.0 p p') (sym is)
    (all b place count number h between holds (set_before place.asked a moment is next.set))) out
reopen_carries seen moment a script script' s p p' (Err e) is out = tt

pub reopen_stops : {D E : Type 0} (seen : D → DiskSeen) (moment : ℕ) (a : Asked) (script script' : Script) (s : Stored D)
    (r : Result (Stored D × Result (Unit {0}) Stop) E) → a ≡ Reopen
    → IfOk r (λ x. IfErr x.1 (λ stop. (b : Begun D) (place : Place) (count : ℕ) (h : List Entry) → Between seen b place count h script s
    → HoldsRecorded seen s.journal place.base h → clock_of place.asked ≡ Some moment
    → StoppedAt seen b place h Reopen stop script.tally script'.tally x.0))
    → IfOk r (λ x. IfErr x.1 (λ stop. Stops seen moment a script script' s x.0 stop))
reopen_stops {D} seen moment a script script' s (Ok x) is out =
    IfErr-weaker x.1 (λ stop. (b : Begun D) (place : Place) (count : ℕ) (h : List Entry) → Between seen b place count h script s
    → HoldsRecorded seen s.journal place.base h → clock_of place.asked ≡ Some moment
    → StoppedAt seen b place h Reopen stop script.tally script'.tally x.0) (λ stop. Stops seen moment a script script' s x.0 stop)
    (λ stop all b place count h between next holds.
    subst (λ (k : Asked). StoppedAt seen b place h k stop script.tally script'.tally x.0) (sym is)
    (all b place count h between holds (set_before place.asked a moment is next.set))) out
reopen_stops seen moment a script script' s (Err e) is out = tt

pub reopen_shuts : {D T : Type 0} (seen : D → DiskSeen) (moment : ℕ) (a : Asked) (script : Script) (s : Stored D) (r : Result T (OpenRefused D)) → a ≡ Reopen
    → IfErr r (λ e. (b : Begun D) (place : Place) (count : ℕ) (h : List Entry) → Between seen b place count h script s
    → HoldsRecorded seen s.journal place.base h → clock_of place.asked ≡ Some moment → ShutAt seen b place.base h e.fault e.disk)
    → IfErr r (λ e. Shuts seen moment a script s e.fault e.disk)
reopen_shuts seen moment a script s (Ok x) is out = tt
reopen_shuts seen moment a script s (Err e) is out = λ b place count h between next holds.
    out b place count h between holds (set_before place.asked a moment is next.set)

where_set : {A : Type 0} (o : Option A) (P : Type 0) → P → IfSome o (λ _. P)
where_set None P holds = tt
where_set (Some x) P holds = holds

pub reopen_ready : {D E : Type 0} (script script' : Script) (text : Option (List ℕ)) (r : Result (Stored D × Result (Unit {0}) Stop) E)
    → IsReady script.clock script.setup text → script'.clock ≡ script.clock → IfOk r (λ x. OnOk x.1 (x.0.state.sum.text ≡ Some script'.setup))
    → IfOk r (λ x. OnOk x.1 (IsReady script'.clock script'.setup x.0.state.sum.text))
reopen_ready script script' text (Ok x) ready same set = on_ok_weaker x.1 (λ is. record {
  moment = subst (λ (o : Option ℕ). IfSome o IsMoment) (sym same) ready.moment;
  set = where_set script'.clock (x.0.state.sum.text ≡ Some script'.setup) is;
}) set
reopen_ready script script' text (Err e) ready same set = tt
