-- A line of a script for which memory was wanted before anything was done.
use Rattle.std.proofs.Common.{◌≡◌, ◌+◌, ◌∷◌, ℕ, List, [], Some, inl, inr, refl, ap, ◌∙◌, arith}
use Rattle.arc_io.specs.Disks.{DiskSeen}
use Rattle.centre_core.specs.declared.hall.Stop.TheVariants.{Memory}
use Rattle.centre_rules.specs.History.{Entry}
use Rattle.centre_rules.specs.Summary.{Summary}
use Rattle.centre_store.proofs.Holding.{recorded_there}
use Rattle.centre_store.specs.Given.{HoldsRecorded}
use Rattle.centre_store.specs.Stores.{Stored}
use Rattle.script_lines.specs.Lines.{Asked, Time, Feed, Message, Command, Reopen}
use Rattle.arc_script.specs.Begun.{Begun}
use Rattle.arc_script.specs.Between.{Between, StoppedAt}
use Rattle.arc_script.specs.Fed.{clock_of}
use Rattle.arc_script.specs.Playing.{moment_at}
use Rattle.arc_script.specs.Steps.{Place, Step}
use Rattle.arc_script.specs.Tallies.{told}
use Rattle.arc_script.specs.declared.script.Script.{Script}
use Rattle.arc_script.specs.declared.script_end.Tally.{Tally}
use Rattle.arc_script.proofs.Left.{left_there}

-- a step of no entries
abbrev none : Summary → Asked → Step
none base asked = record { number = 0; asked = asked; entries = []; base = base; sent = 0; text = [] }

-- the clock behind the line is that at its moment
pub clock_with : (before : List Asked) (asked : Asked) (moment : ℕ) → moment_at (clock_of before) asked ≡ Some moment → clock_of (asked ∷ before) ≡ Some moment
clock_with before (Time at) moment set = set
clock_with before (Feed line digits) moment set = set
clock_with before (Message line body) moment set = set
clock_with before (Command desk text) moment set = set
clock_with before Reopen moment set = set

same : (n : ℕ) → told n ≡ told (n + 0)
same n = let e : n ≡ n + 0 = omega arith in ap told e

pub nothing_done : {D : Type 0} (seen : D → DiskSeen) (b : Begun D) (place : Place) (count : ℕ) (h : List Entry) (asked : Asked) (script : Script)
    (s : Stored D) (moment : ℕ) (t : Tally) → moment_at (clock_of place.asked) asked ≡ Some moment → Between seen b place count h script s
    → HoldsRecorded seen s.journal place.base h
    → StoppedAt seen b place h asked Memory t t s
nothing_done seen b place count h asked script s moment t set between held = record {
  waiting = [];
  partial = none place.base asked;
  history = h;
  clock = moment;
  came = inr (refl, inl (refl, record { added = refl; base = refl; sent = refl }));
  set = clock_with place.asked asked moment set;
  cause = inl (refl, inl (recorded_there seen s.journal place.base h held));
  stands = between.store.stands;
  limits_are = between.store.limits_are;
  later = between.store.later;
  left = inl (left_there seen b place.base h s between.store s.journal.disk refl);
  counts = record { sent = λ n is. is ∙ same n; repeats = λ n is. is ∙ same n; closed = λ n is. is ∙ same n };
}
