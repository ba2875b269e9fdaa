-- A `T` that was carried out or stopped, as a step of its script.
use Rattle.std.proofs.Common.{◌≡◌, ◌≤◌, ◌+◌, ◌++◌, ℕ, List, [], Option, length, inl, inr, refl, sym, ap, subst, ◌∙◌, arith}
use Rattle.std.specs.Prelude.{codes}
use Rattle.alarm_rules.specs.Setups.{meaning}
use Rattle.arc_data.specs.declared.event.Event.TheVariants.{Tick}
use Rattle.arc_io.specs.Disks.{DiskSeen}
use Rattle.arc_io.specs.Seen.{PortSeen}
use Rattle.centre_core.specs.declared.hall.Stop.{Stop}
use Rattle.centre_rules.specs.Answers.{IsLegal}
use Rattle.centre_rules.specs.History.{Entry, IsMoment}
use Rattle.centre_rules.specs.Summary.{Summary}
use Rattle.centre_store.specs.Calls.{entry_after}
use Rattle.centre_store.specs.Stores.{Stored, StoreStands}
use Rattle.desk_wire.specs.Replies.{line_of}
use Rattle.script_lines.specs.Lines.{Asked, Time, spelling}
use Rattle.arc_script.specs.Begun.{Begun}
use Rattle.arc_script.specs.Between.{Between, StoppedAt}
use Rattle.arc_script.specs.Carrying.{Carried, CountsStep, HaveTaken, HaveTakenWith}
use Rattle.arc_script.specs.Causes.{HasShown, IsOfTime, OrBegun}
use Rattle.arc_script.specs.Ends.{Tells, CameFor, LeavesUpTo}
use Rattle.arc_script.specs.Fed.{clock_of}
use Rattle.arc_script.specs.Playing.{TickStops, Ticked}
use Rattle.arc_script.specs.Standing.{IsReadable, LeavesOn}
use Rattle.arc_script.specs.Steps.{Place, Step, IsStepOf, before_tick, ticked_after}
use Rattle.arc_script.specs.Tallies.{count_of, is_closed, is_repeat}
use Rattle.arc_script.specs.declared.script.Script.{Script}
use Rattle.arc_script.specs.declared.script_end.Tally.{Tally}
use Rattle.arc_script.proofs.Begun.{Adds, adds_first, adds_more, adds_until, readable_first, readable_next}
use Rattle.arc_script.proofs.Carry.{Stays}
use Rattle.arc_script.proofs.Counts.{grows_none}
use Rattle.arc_script.proofs.Left.{left_behind, or_begun_to}
use Rattle.arc_script.proofs.Passed.{taken_more}

adds_tick : (clock : Option ℕ) (base : Summary) (setup : List ℕ) (moment : ℕ) (h : List Entry) → Adds h (ticked_after clock base setup moment h)
adds_tick clock base setup moment h =
    adds_more h (before_tick clock base setup moment h) (entry_after base (before_tick clock base setup moment h) Tick moment) refl refl
    (adds_first clock base setup moment h)

readable_tick : (clock : Option ℕ) (base : Summary) (setup : List ℕ) (moment : ℕ) (h : List Entry) → IsMoment moment
    → IsLegal base (ticked_after clock base setup moment h) → IsReadable base h → IsReadable base (ticked_after clock base setup moment h)
readable_tick clock base setup moment h fits legal kept =
    readable_next base (before_tick clock base setup moment h) (entry_after base (before_tick clock base setup moment h) Tick moment) moment refl fits refl legal
    (readable_first clock base setup moment h fits legal.1 kept)

-- The step.

abbrev step_of : Summary → ℕ → ℕ → Option ℕ → List ℕ → List Entry → List Entry → Step
step_of base number moment clock setup h entries = record {
  number = number;
  asked = Time moment;
  entries = entries;
  base = base;
  sent = 0;
  text = codes "T " ++ line_of (entry_after base (before_tick clock base setup moment h) Tick moment).reply;
}

counts_none : (s : Step) (t t' : Tally) → s.sent ≡ 0 → count_of is_repeat s.entries ≡ 0 → count_of is_closed s.entries ≡ 0 → t' ≡ t
    → CountsStep s t t'
counts_none s t t' sent repeats closed is =
    subst (λ (k : Tally). CountsStep s t k) (sym is) (record {
      more = record {
        sent = grows_none s.sent t.sent sent;
        repeats = grows_none (count_of is_repeat s.entries) t.repeats repeats;
        closed = grows_none (count_of is_closed s.entries) t.closed closed;
      };
      rest = refl;
    })

-- a `T` feeds nothing
pub time_taken : (setup : List ℕ) (count moment : ℕ) (before : List Asked) (script script' : Script)
    → HaveTaken (meaning setup) count before script.lines.items script.desks.items → script' ≡ record script { clock = script'.clock }
    → HaveTakenWith (meaning setup) count before (Time moment) script'.lines.items script'.desks.items
time_taken setup count moment before script script' taken rest =
    let more = taken_more (meaning setup) count (count + length (spelling (Time moment))) before script.lines.items script.desks.items
    (omega arith) taken in
    subst (λ (k : Script). HaveTakenWith (meaning setup) count before (Time moment) k.lines.items k.desks.items) (sym rest)
    (record { fed = more.fed; few = more.few; read = more.read })

module _ {D : Type 0} (seen : D → DiskSeen) (b : Begun D) (place : Place) (count : ℕ) (h : List Entry) (moment : ℕ) (script script' : Script)
    (s s' : Stored D) (between : Between seen b place count h script s) (fits : IsMoment moment) (same : script'.tally ≡ script.tally) where
  first_is : before_tick script.clock place.base script.setup moment h ≡ before_tick (clock_of place.asked) place.base place.setup moment h
  first_is =
      ap (λ (c : Option ℕ). before_tick c place.base script.setup moment h) between.clock.is
      ∙ ap (λ (l : List ℕ). before_tick (clock_of place.asked) place.base l moment h) between.setup

  behind_is : ticked_after script.clock place.base script.setup moment h ≡ ticked_after (clock_of place.asked) place.base place.setup moment h
  behind_is =
      ap (λ (c : Option ℕ). ticked_after c place.base script.setup moment h) between.clock.is
      ∙ ap (λ (l : List ℕ). ticked_after (clock_of place.asked) place.base l moment h) between.setup

  pub time_carried : (number : ℕ) (p p' : PortSeen)
      → Ticked seen place.base (before_tick script.clock place.base script.setup moment h) moment s' p p'
      → LeavesOn seen place.base s s' h (ticked_after script.clock place.base script.setup moment h)
      → Carried seen place.base s h (λ x st. IsStepOf (Tells (seen b.disk)) place h x st (Time moment)) number (Time moment)
      script.tally script'.tally p p' s'
  time_carried number p p' ticked left =
      let t = subst (λ (x : List Entry). Ticked seen place.base x moment s' p p') first_is ticked in
      let adds = adds_tick (clock_of place.asked) place.base place.setup moment h in
      let st = step_of place.base number moment (clock_of place.asked) place.setup h adds.entries in
      record {
        step = st;
        history = ticked_after (clock_of place.asked) place.base place.setup moment h;
        number_is = refl;
        asked_is = refl;
        is = record { is = refl; by = record { added = adds.is; base = refl; sent = refl }; text = refl };
        stands = t.stands;
        readable = readable_tick (clock_of place.asked) place.base place.setup moment h fits t.stands.centre.legal between.store.readable;
        left = subst (λ (x : List Entry). LeavesOn seen place.base s s' h x) behind_is left;
        up = t.up;
        text = t.text;
        counts = counts_none st script.tally script'.tally refl adds.repeats adds.closed same;
      }

  later_is : Stays seen script script' s s' → (seen b.disk).faults ≤ s'.at_open
  later_is stays = subst (λ (n : ℕ). (seen b.disk).faults ≤ n) (sym stays.at_open) between.store.later

  stop_with : (stop : Stop) → Stays seen script script' s s' → (x : List Entry)
      → HasShown seen place.base s' x stop moment (IsOfTime s'.state.sum.text (clock_of place.asked) place.setup)
      → OrBegun (LeavesOn seen place.base s s' h) (IsOfTime s'.state.sum.text (clock_of place.asked) place.setup) s'.state.sum.text place.base place.setup
      moment x
      → StoreStands seen place.base s' x → (adds : Adds h x)
      → CameFor stop (Tells (seen b.disk)) place [] h x (step_of place.base 0 moment (clock_of place.asked) place.setup h adds.entries) (Time moment)
      → StoppedAt seen b place h (Time moment) stop script.tally script'.tally s'
  stop_with stop stays x shown left stands adds came =
      let st = step_of place.base 0 moment (clock_of place.asked) place.setup h adds.entries in
      record {
        waiting = [];
        partial = st;
        history = x;
        clock = moment;
        came = came;
        set = refl;
        cause = shown;
        stands = stands;
        limits_are = stays.journal ∙ between.store.limits_are;
        later = later_is stays;
        left = or_begun_to (LeavesOn seen place.base s s' h) (LeavesUpTo seen b s'.journal.disk place.base)
            (IsOfTime s'.state.sum.text (clock_of place.asked) place.setup) s'.state.sum.text place.base place.setup moment x
            (λ l leaves. left_behind seen b place.base h s between.store s' l (later_is stays) leaves) left;
        counts = (counts_none st script.tally script'.tally refl adds.repeats adds.closed same).more;
      }

  pub time_stopped : (stop : Stop) → Stays seen script script' s s' → TickStops seen script.clock place.base script.setup moment h stop s s'
      → StoppedAt seen b place h (Time moment) stop script.tally script'.tally s'
  time_stopped stop stays stopped =
      let stops = subst (λ (l : List ℕ). TickStops seen (clock_of place.asked) place.base l moment h stop s s') between.setup
      (subst (λ (c : Option ℕ). TickStops seen c place.base script.setup moment h stop s s') between.clock.is stopped) in
      elim stops.came as (λ came. StoppedAt seen b place h (Time moment) stop script.tally script'.tally s') [
        | inl begun ↦
            let adds = adds_until (clock_of place.asked) place.base place.setup moment h stops.history begun in
            stop_with stop stays stops.history stops.cause stops.left stops.stands adds (inl (begun, record { added = adds.is; base = refl; sent = refl }))
        | inr whole ↦
            let adds = subst (Adds h) (sym whole.1) (adds_tick (clock_of place.asked) place.base place.setup moment h) in
            stop_with stop stays stops.history stops.cause stops.left stops.stands adds
            (inr (whole.0, inr (record { is = whole.1; by = record { added = adds.is; base = refl; sent = refl }; text = refl })))
      ]
