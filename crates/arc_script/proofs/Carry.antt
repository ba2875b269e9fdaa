-- One line that was carried out or stopped over a store, as a step of its script.
use Rattle.std.proofs.Common.{◌≡◌, ◌≤◌, ◌+◌, ◌∷◌, ◌⊎◌, ℕ, List, Option, Some, IfSome, inl, inr, length, sym, ap, subst, ◌∙◌}
use Rattle.alarm_rules.specs.Setups.{meaning}
use Rattle.arc_io.specs.Disks.{DiskSeen}
use Rattle.arc_io.specs.Seen.{PortSeen}
use Rattle.centre_core.specs.declared.hall.Stop.{Stop}
use Rattle.centre_core.specs.declared.hall.Stop.TheVariants.{Memory}
use Rattle.centre_rules.specs.History.{Entry, IsMoment}
use Rattle.centre_rules.specs.Summary.{Summary}
use Rattle.centre_store.specs.Stores.{HasFailed, Stored, StoreStands}
use Rattle.script_lines.specs.Lines.{Asked, Time, Feed, Message, Command, Reopen, spelling}
use Rattle.arc_script.specs.Begun.{Begun}
use Rattle.arc_script.specs.Between.{Between, CarriedOut, IsClock, IsStoreSoFar, StoppedAt}
use Rattle.arc_script.specs.Carrying.{Carried, Halted, HaveTaken, HaveTakenWith}
use Rattle.arc_script.specs.Causes.{HasShown, Submits}
use Rattle.arc_script.specs.Ends.{Tells, CameFor, CameTo, LeavesUpTo}
use Rattle.arc_script.specs.Fed.{clock_of}
use Rattle.arc_script.specs.Playing.{moment_at}
use Rattle.centre_store.specs.StoreHalls.{is_told}
use Rattle.arc_script.specs.Steps.{Place, Step, IsStepOf}
use Rattle.arc_script.specs.declared.script.Script.{Script}
use Rattle.arc_script.proofs.Left.{left_behind}
use Rattle.arc_script.proofs.Wanting.{clock_with}

-- what a line over the store leaves alone
pub record Stays {D : Type 0} (seen : D → DiskSeen) (script script' : Script) (s s' : Stored D) : Type 0 where
  pub setup : script'.setup ≡ script.setup
  pub limits : script'.limits ≡ script.limits
  pub tells : is_told (seen s'.journal.disk).told ≡ is_told (seen s.journal.disk).told
  pub at_open : s'.at_open ≡ s.at_open
  pub journal : s'.journal.limits ≡ s.journal.limits

-- by what a function that carries out a line leaves of the script, which is all that a line of its kind doesn't change
pub stays_as : {D : Type 0} {seen : D → DiskSeen} {script script' : Script} {s s' : Stored D} (left : Script) → script' ≡ left
    → left.setup ≡ script.setup → left.limits ≡ script.limits → is_told (seen s'.journal.disk).told ≡ is_told (seen s.journal.disk).told
    → s'.at_open ≡ s.at_open → s'.journal.limits ≡ s.journal.limits → Stays seen script script' s s'
stays_as left rest setup limits tells at_open journal = record {
  setup = ap (λ (k : Script). k.setup) rest ∙ setup;
  limits = ap (λ (k : Script). k.limits) rest ∙ limits;
  tells = tells;
  at_open = at_open;
  journal = journal;
}

clock_behind : (clock : Option ℕ) (before : List Asked) (asked : Asked) (moment : ℕ) → IsMoment moment → moment_at (clock_of before) asked ≡ Some moment
    → clock ≡ Some moment → IsClock clock (asked ∷ before)
clock_behind clock before asked moment fits set is =
    let behind = clock_with before asked moment set in
    record {
      is = is ∙ sym behind;
      moment = subst (λ (c : Option ℕ). IfSome c IsMoment) (sym is) fits;
      once = (moment, behind);
    }

-- All lines but an `X` leave the summary as it was.

abbrev pub IsOverStore : Asked → Type 0
IsOverStore Reopen = ⊥
IsOverStore asked = Unit {0}

step_over : (Told : Type 0) (place : Place) (h x : List Entry) (s : Step) (asked : Asked) → IsOverStore asked → IsStepOf Told place h x s asked
    → s.base ≡ place.base
step_over Told place h x s (Time moment) over is = is.by.base
step_over Told place h x s (Feed line digits) over is = is.fed.base
step_over Told place h x s (Message line body) over is = is.fed.base
step_over Told place h x s (Command desk text) over is = is.by.base
step_over Told place h x s Reopen over is = absurd over

came_over : (stop : Stop) (Told : Type 0) (place : Place) (waiting : List (List ℕ)) (h x : List Entry) (s : Step) (asked : Asked) → IsOverStore asked
    → CameTo stop Told place waiting h x s asked → s.base ≡ place.base
came_over stop Told place waiting h x s (Time moment) over came = came.1.base
came_over stop Told place waiting h x s (Feed line digits) over came = came.base
came_over stop Told place waiting h x s (Message line body) over came = came.base
came_over stop Told place waiting h x s (Command desk text) over came = came.1.base
came_over stop Told place waiting h x s Reopen over came = absurd over

module _ {D : Type 0} (seen : D → DiskSeen) (b : Begun D) (place : Place) (count : ℕ) (h : List Entry) (asked : Asked) (moment : ℕ)
    (script script' : Script) (s s' : Stored D) (between : Between seen b place count h script s) (stays : Stays seen script script' s s')
    (fits : IsMoment moment) (set : moment_at (clock_of place.asked) asked ≡ Some moment) (over : IsOverStore asked) where
  pub carried_out : (number : ℕ) (p p' : PortSeen)
      → Carried seen place.base s h (λ x st. IsStepOf (Tells (seen b.disk)) place h x st asked) number asked script.tally script'.tally p p' s'
      → HaveTakenWith (meaning place.setup) count place.asked asked script'.lines.items script'.desks.items
      → script'.clock ≡ Some moment → s'.state.sum.text ≡ Some place.setup
      → CarriedOut seen b place count number h asked script.tally script' s' p p'
  carried_out number p p' out taken clock text = record {
    step = out.step;
    history = out.history;
    number_is = out.number_is;
    asked_is = out.asked_is;
    is = out.is;
    text = out.text;
    counts = out.counts.more;
    between = record {
      setup = stays.setup ∙ between.setup;
      limits = stays.limits ∙ between.limits;
      clock = subst (λ (a : Asked). IsClock script'.clock (a ∷ place.asked)) (sym out.asked_is)
          (clock_behind script'.clock place.asked asked moment fits set clock);
      set = subst (λ (c : Option ℕ). IfSome c (λ last. s'.state.sum.text ≡ Some place.setup)) (sym clock) text;
      taken = subst (λ (a : Asked). HaveTaken (meaning place.setup) (count + length (spelling asked)) (a ∷ place.asked) script'.lines.items script'.desks.items)
          (sym out.asked_is) taken;
      store = subst (λ (base : Summary). IsStoreSoFar seen b base out.history s')
          (sym (step_over (Tells (seen b.disk)) place h out.history out.step asked over out.is)) (record {
            stands = out.stands;
            readable = out.readable;
            tells = stays.tells ∙ between.store.tells;
            limits_are = stays.journal ∙ between.store.limits_are;
            later = subst (λ (n : ℕ). (seen b.disk).faults ≤ n) (sym stays.at_open) between.store.later;
            past_recorded = between.store.past_recorded;
            left = λ told. out.left (seen b.opened).moment b.past (between.store.left told);
          });
      up = subst (λ (c : Option ℕ). IfSome c (λ last. HasFailed seen s' → ⊥)) (sym clock) out.up;
    };
  }

  pub stopped_at : (stop : Stop)
      → Halted seen place.base s h (λ x st. (waiting : List (List ℕ))
      × HasShown seen place.base s' x stop moment (Submits s'.state.sum.text place.setup place.asked moment waiting asked)
      × (CameTo stop (Tells (seen b.disk)) place waiting h x st asked ⊎ ((stop ≡ Memory) × IsStepOf (Tells (seen b.disk)) place h x st asked)))
      script.tally script'.tally s'
      → StoppedAt seen b place h asked stop script.tally script'.tally s'
  stopped_at stop out =
      let Told = Tells (seen b.disk) in
      let waiting = out.came.0 in
      let over_same : out.partial.base ≡ place.base = elim out.came.2 as (λ _. out.partial.base ≡ place.base) [
        | inl until ↦ came_over stop Told place waiting h out.history out.partial asked over until
        | inr whole ↦ step_over Told place h out.history out.partial asked over whole.1
      ] in
      let later = subst (λ (n : ℕ). (seen b.disk).faults ≤ n) (sym stays.at_open) between.store.later in
      record {
        waiting = waiting;
        partial = out.partial;
        history = out.history;
        clock = moment;
        came = elim out.came.2 as (λ _. CameFor stop Told place waiting h out.history out.partial asked) [
          | inl until ↦ inl until
          | inr whole ↦ inr (whole.0, inr whole.1)
        ];
        set = clock_with place.asked asked moment set;
        cause = subst (λ (base : Summary). HasShown seen base s' out.history stop moment (Submits s'.state.sum.text place.setup place.asked moment waiting asked))
            (sym over_same) out.came.1;
        stands = subst (λ (base : Summary). StoreStands seen base s' out.history) (sym over_same) out.stands;
        limits_are = stays.journal ∙ between.store.limits_are;
        later = later;
        left = inl (subst (λ (base : Summary). LeavesUpTo seen b s'.journal.disk base out.history) (sym over_same)
            (left_behind seen b place.base h s between.store s' out.history later out.left));
        counts = out.counts.more;
      }
