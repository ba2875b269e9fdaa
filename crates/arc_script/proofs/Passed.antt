-- A line of a script that is skipped.
use Rattle.std.proofs.Common.{◌≡◌, ◌≤◌, ◌+◌, ◌++◌, ◌∷◌, ℕ, List, [], Option, Some, None, IfSome, true, sym, subst, arith}
use Rattle.std.specs.Prelude.{slice_get}
use Rattle.alarm_rules.specs.Setups.{Setup}
use Rattle.arc_io.specs.Disks.{DiskSeen}
use Rattle.arc_io.specs.Seen.{PortSeen}
use Rattle.centre_store.specs.Stores.{Stored}
use Rattle.desk_session.specs.Desks as Desk
use Rattle.line_session.specs.Lines as Line
use Rattle.script_lines.specs.Lines.{Asked}
use Rattle.arc_script.specs.Begun.{Begun}
use Rattle.arc_script.specs.Between.{SoFar, size_of}
use Rattle.arc_script.specs.Carrying.{HasRead, HaveTaken}
use Rattle.arc_script.specs.Fed.{desk_read}
use Rattle.arc_script.specs.Steps.{asked_after}
use Rattle.arc_script.specs.Texts.{AreOf, is_passed}
use Rattle.arc_script.specs.declared.script.Script.{Script}
use Rattle.arc_script.proofs.Counted.{counted_passed}
use Rattle.arc_script.proofs.Sizes.{size_last}

if_some_more : {A : Type 0} (o : Option A) (P Q : A → Type 0) → ((x : A) → P x → Q x) → IfSome o P → IfSome o Q
if_some_more None P Q goes is = is
if_some_more (Some x) P Q goes is = goes x is

-- more bytes than so many
pub taken_more : (setup : Setup) (count more : ℕ) (before : List Asked) (lines : List Line.LineValue) (desks : List Desk.DeskValue)
    → count ≤ more → HaveTaken setup count before lines desks → HaveTaken setup more before lines desks
taken_more setup count more before lines desks grows taken = record {
  fed = taken.fed;
  few = λ n. let few = taken.few n in omega (arith, few, grows);
  read = λ i. if_some_more (slice_get desks i) (HasRead setup count (desk_read (i + 1) before)) (HasRead setup more (desk_read (i + 1) before))
      (λ desk has. record { stream = has.stream; took = has.took; ended = has.ended; none = has.none; few = let few = has.few in omega (arith, few, grows) })
      (taken.read i);
}

pub skipped : {D : Type 0} (seen : D → DiskSeen) (b : Begun D) (lines : List (List ℕ)) (line : List ℕ) (script : Script) (number : ℕ) (s : Stored D)
    (p : PortSeen) → is_passed line ≡ true → SoFar seen b lines script s p → SoFar seen b (lines ++ line ∷ []) (record script { number = number }) s p
skipped seen b lines line script number s p passed so =
    let between = so.between in
    let size = size_last lines line in
    record {
      steps = so.steps;
      history = so.history;
      of = subst (λ (l : List (ℕ × List ℕ)). AreOf [] l so.steps) (sym (counted_passed lines line passed)) so.of;
      are = so.are;
      between = record {
        setup = between.setup;
        limits = between.limits;
        clock = between.clock;
        set = between.set;
        taken = taken_more _ (size_of lines) (size_of (lines ++ line ∷ [])) (asked_after [] so.steps) script.lines.items script.desks.items
            (omega (arith, size)) between.taken;
        store = between.store;
        up = between.up;
      };
      held = so.held;
      counts = so.counts;
      opened_before = so.opened_before;
      written = so.written;
      writes = so.writes;
    }
