-- What giving a command to a desk answers, in the words of what was called for it.
use Rattle.std.proofs.Common.{◌≡◌, ◌≤◌, ◌-◌, ◌+◌, ◌++◌, ◌^◌, ℕ, zero, suc, List, [], ◌∷◌, Option, Some, Result, Err, inl, inr, length, set, refl, ap, sym, subst, ◌∙◌, arith}
use Rattle.std.specs.Prelude.{min, unwrap_or}
use Rattle.std.specs.List.{slice_get}
use Rattle.alarm_rules.specs.Setups.{meaning}
use Rattle.arc_io.specs.Disks.{DiskSeen}
use Rattle.arc_io.specs.Seen.{PortSeen}
use Rattle.centre_core.specs.Setting.{text_of}
use Rattle.centre_core.specs.declared.hall.Stop.{Stop}
use Rattle.centre_core.specs.declared.hall.Stop.TheVariants.{Memory}
use Rattle.centre_rules.specs.History.{Entry}
use Rattle.centre_rules.specs.State.{State}
use Rattle.centre_rules.specs.Summary.{Summary}
use Rattle.centre_store.specs.Stores.{HasFailed, Stored, StoreStands}
use Rattle.desk_session.specs.Desks as Desk
use Rattle.desk_session.specs.Sessions.{ReadsNothing}
use Rattle.desk_session.specs.declared.desk_end.DeskEnd.{DeskEnd}
use Rattle.desk_session.specs.declared.desk_end.DeskEnd.TheVariants.{InputEnded, Quit, ReadFault, Spent, Stopped, WriteFault}
use Rattle.line_session.specs.Lines as Line
use Rattle.script_lines.specs.Lines.{Asked, Command}
use Rattle.session_rules.specs.Inputs.{input_limit}
use Rattle.arc_script.specs.Carrying.{Halted, IsNext}
use Rattle.arc_script.specs.Causes.{IsOfCommand, stop_in}
use Rattle.arc_script.specs.Pages.{blank}
use Rattle.arc_script.specs.Standing.{IsReadable}
use Rattle.arc_script.specs.Steps.{Step}
use Rattle.arc_script.specs.declared.page.Page.{Page}
use Rattle.arc_script.specs.declared.script_end.Tally.{Tally}
use Rattle.arc_script.proofs.Commandings.{fails_at, has_served, quits_on, stops_at, IsGiven}
use Rattle.arc_script.proofs.Counts.{grows_none}
use Rattle.arc_script.proofs.Desked.{command_short, CameSoFar, Closings}
use Rattle.arc_script.proofs.Ticks.{wanted_up}

pub closings : (s s' k k' : State) (t t' : Tally) (opened behind closed : ℕ) → k ≡ s → k' ≡ s' → opened ≡ length k.sum.incidents
    → behind ≡ length k'.sum.incidents → closed ≡ opened - behind → t'.closed ≡ min (t.closed + closed) (2 ^ 64 - 1)
    → t' ≡ record t { closed = t'.closed }
    → Closings s s' t t'
closings s s' k k' t t' opened behind closed same same' opened_is behind_is closed_is told_is rest =
    let was : opened ≡ length s.sum.incidents = opened_is ∙ ap (λ (x : State). length x.sum.incidents) same in
    let now : behind ≡ length s'.sum.incidents = behind_is ∙ ap (λ (x : State). length x.sum.incidents) same' in
    record {
      closed = told_is ∙ ap (λ (n : ℕ). min (t.closed + n) (2 ^ 64 - 1))
          (closed_is ∙ ap (λ (n : ℕ). n - behind) was ∙ ap (λ (n : ℕ). length s.sum.incidents - n) now);
      rest = rest;
    }

stop_is : (stop : Stop) (r : Result (Unit {0}) Stop) → r ≡ Err stop → r ≡ Err Memory → stop ≡ Memory
stop_is stop r at memory = cc

-- memory was wanted for the head of the line
pub halted_first : {D : Type 0} (seen : D → DiskSeen) (s : Stored D) (base : Summary) (setup : List ℕ)
    (clock desk : ℕ) (before : List Asked) (text : List ℕ) (h : List Entry) (t : Tally) (stop : Stop) (r : Result (Unit {0}) Stop) → r ≡ Err stop
    → r ≡ Err Memory → StoreStands seen base s h → IsReadable base h → (HasFailed seen s → ⊥)
    → Halted seen base s h (λ x k. CameSoFar base seen s setup clock desk before text h stop x k) t t s
halted_first seen s base setup clock desk before text h t stop r at memory stands readable up =
    let partial : Step = record { number = 0; asked = Command desk text; entries = []; base = base; sent = 0; text = [] } in
    record {
      partial = partial;
      history = h;
      came = (
        wanted_up seen base s h stop clock (IsOfCommand setup before desk text) (stop_is stop r at memory) stands up,
        inl (refl, record { added = refl; base = refl; sent = refl }),
      );
      stands = stands;
      readable = readable;
      left = λ t k was. was;
      counts = record {
        more = record {
          sent = grows_none 0 t.sent refl;
          repeats = grows_none 0 t.repeats refl;
          closed = grows_none 0 t.closed refl;
        };
        rest = refl;
      };
    }

-- A place that is there is set.
pub set_at : {A : Type 0} (xs : List A) (i : ℕ) (x y : A) → slice_get xs i ≡ Some y → slice_get (set xs i x) i ≡ Some x
set_at [] i x y there = absurd cc
set_at (z ∷ xs) zero x y there = refl
set_at (z ∷ xs) (suc i) x y there = set_at xs i x y there

module _ {D : Type 0} (seen : D → DiskSeen) (s s' : Stored D) (setup : List ℕ)
    (desk : ℕ) (text : List ℕ) (lines : List Line.LineValue) (desks : List Desk.DeskValue) (was now : Desk.DeskValue) (t t' : Tally) (p : PortSeen)
    (page page' : Page) (given : List ℕ) (r : Result (Unit {0}) DeskEnd)
    (g : IsGiven seen s s' setup desk text desks was now p page page' given r) where
  pub given_as : (q : Result (Unit {0}) DeskEnd) → r ≡ q → IsGiven seen s s' setup desk text desks was now p page page' given q
  given_as q is =
      subst (λ (q : Result (Unit {0}) DeskEnd). IsGiven seen s s' setup desk text desks was now p page page' given q) is g

  -- Of the ends that are no stops a failed write alone can come: memory was wanted for it.
  ended : (end : DeskEnd) → ReadsNothing (Err end) → r ≡ Err end → Closings s.state s'.state t t'
      → (base : Summary) (before : List Asked) (clock count : ℕ) (h : List Entry) → IsNext (meaning setup) clock count before (Command desk text) lines desks
      → p ≡ blank clock → StoreStands seen base s h → IsReadable base h → (HasFailed seen s → ⊥)
      → Halted seen base s h (λ x k. CameSoFar base seen s' setup clock desk before text h (stop_in end) x k) t t' s'
  ended InputEnded reads is sums base before clock count h next empty stands readable up = absurd reads
  ended ReadFault reads is sums base before clock count h next empty stands readable up = absurd reads
  ended WriteFault reads is sums base before clock count h next empty stands readable up =
      fails_at seen s s' base setup desk text lines desks was now t t' p page page' given (given_as (Err WriteFault) is) sums before
      clock
      count h next empty stands readable up
  ended Spent reads is sums base before clock count h next empty stands readable up =
      let at = given_as (Err Spent) is in
      let w = has_served seen s s' base setup clock count desk before text h lines desks was now p page page' given (Err Spent) at
      next empty
      stands readable in
      let same : setup ≡ text_of s.state = sym (ap (λ (o : Option (List ℕ)). unwrap_or o []) at.set) in
      let spent = at.taken w.has.stream (subst (λ (k : List ℕ). Desk.TookStream (meaning k) w.has.stream was) same w.has.took) in
      let over = subst (λ (l : List ℕ). input_limit ≤ length (w.has.stream ++ l)) at.line spent.0 in
      let short = command_short (meaning setup) clock count desk before text w.has.stream lines desks next w.has.few in
      absurd (omega (arith, short, over))
  ended Quit reads is sums base before clock count h next empty stands readable up =
      let w = quits_on seen s s' base setup desk text lines desks was now t t' p page page' given (given_as (Err Quit) is) sums
      before clock
      count 0 h next empty stands readable up in
      record {
        partial = w.step;
        history = w.history;
        came = (
          wanted_up seen base s' w.history Memory clock (IsOfCommand setup before desk text) refl w.stands w.up,
          inr (refl, w.is),
        );
        stands = w.stands;
        readable = w.readable;
        left = w.left;
        counts = w.counts;
      }
  ended (Stopped stop) reads is sums base before clock count h next empty stands readable up =
      stops_at seen s s' base setup desk text lines desks was now t t' p page page' given stop (given_as (Err (Stopped stop)) is)
      sums before
      clock count h next empty stands readable up

  pub ended_as : (end : DeskEnd) (stop : Stop) → r ≡ Err end → stop ≡ stop_in end → ReadsNothing r → Closings s.state s'.state t t'
      → (base : Summary) (before : List Asked) (clock count : ℕ) (h : List Entry) → IsNext (meaning setup) clock count before (Command desk text) lines desks
      → p ≡ blank clock → StoreStands seen base s h → IsReadable base h → (HasFailed seen s → ⊥)
      → Halted seen base s h (λ x k. CameSoFar base seen s' setup clock desk before text h stop x k) t t' s'
  ended_as end stop is same reads sums base before clock count h next empty stands readable up =
      subst (λ (k : Stop). Halted seen base s h (λ x q. CameSoFar base seen s' setup clock desk before text h k x q) t t'
      s')
      (sym same) (ended end (subst ReadsNothing is reads) is sums base before clock count h next empty stands readable up)
