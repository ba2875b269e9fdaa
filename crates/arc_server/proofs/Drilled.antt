-- What a drill tells: the tally of its script, which was read to its end over an empty disk.
use Rattle.std.proofs.Common.{◌≡◌, ◌++◌, ℕ, List, [], ◌∷◌, Bool, length, Option, Some, None, IfSome}
use Rattle.std.proofs.Common.{inl, inr, refl, ap, sym, subst, ◌∙◌, arith}
use Rattle.std.proofs.lemmas.List.{append-nil}
use Rattle.std.specs.Io.KnownBytes.{prepend_known, IsAtEnd}
use Rattle.std.specs.Str.Lines.{lines}
use Rattle.arc_drill.specs.Texts.{drill_text, drill_setup}
use Rattle.arc_io.specs.Areas.{Areas, part}
use Rattle.arc_io.specs.Disks.{DiskSeen}
use Rattle.arc_io.specs.Seen.{PortSeen, untold}
use Rattle.arc_io.specs.declared.disk.Area.{Area}
use Rattle.arc_io.specs.declared.disk.Area.TheVariants.{A, B}
use Rattle.arc_script.specs.Begun.{Begun}
use Rattle.arc_script.specs.Ends.{IsScript, IsTranscript, Tells}
use Rattle.arc_script.specs.Steps.{Place, placed, Step, Keeps, IsStepOf, AreSteps, place_after}
use Rattle.arc_script.specs.Tallies.{IsTally}
use Rattle.arc_script.specs.Texts.{AreOf, counted}
use Rattle.arc_script.specs.declared.script_end.ScriptEnd.{ScriptEnd}
use Rattle.arc_script.specs.declared.script_end.ScriptEnd.TheVariants.{Done, Refused, Stopped}
use Rattle.arc_script.specs.declared.script_end.ScriptEnded.{ScriptEnded}
use Rattle.arc_script.specs.declared.script_end.Tally.{Tally}
use Rattle.centre_core.specs.declared.hall.Stop.TheVariants.{Memory}
use Rattle.centre_rules.specs.History.{Entry}
use Rattle.centre_rules.specs.Summary.{Summary, nothing}
use Rattle.centre_store.proofs.OpeningOnce.{one_opening}
use Rattle.centre_store.proofs.PastSteps.{no_past}
use Rattle.centre_store.specs.Given.{AreasGive, BeginsWith}
use Rattle.disk_journal.proofs.Opens.{few_not_live}
use Rattle.disk_journal.specs.Standing.{AreasStand, chosen, chosen_part}
use Rattle.disk_journal.specs.declared.journal.Limits.{Limits}
use Rattle.script_lines.specs.Lines.{Asked, Time, Feed, Message, Command, Reopen}
use Rattle.session_rules.specs.Reading.{lines_read}
use Rattle.arc_server.specs.DrillRuns.{IsDrilled}

-- steps over a disk that tells what it holds

told_keeps : {Told : Type 0} {base base' : Summary} {h kept : List Entry} → Told → Keeps Told base base' h kept → Keeps (Unit {0}) base base' h kept
told_keeps known keeps = record { given = keeps.given; version = keeps.version; past = keeps.past; same = λ u. keeps.same known }

told_step : {Told : Type 0} (place : Place) (h x : List Entry) (s : Step) (asked : Asked)
    → Told → IsStepOf Told place h x s asked → IsStepOf (Unit {0}) place h x s asked
told_step place h x s (Time moment) known step = step
told_step place h x s (Feed line digits) known step = step
told_step place h x s (Message line body) known step = step
told_step place h x s (Command desk text) known step = step
told_step place h x s Reopen known step = record {
  whole = record {
    kept = step.whole.kept;
    keeps = told_keeps known step.whole.keeps;
    clock = step.whole.clock;
    set = step.whole.set;
    until = step.whole.until;
    by = step.whole.by;
  };
  text = step.text;
}

told_steps : {Told : Type 0} (place : Place) (h x : List Entry) (steps : List Step)
    → Told → AreSteps Told place h x steps → AreSteps (Unit {0}) place h x steps
told_steps place h x [] known are = are
told_steps place h x (s ∷ steps) known are = (
  are.0,
  told_step place h are.0 s s.asked known are.1,
  told_steps (place_after place (s ∷ [])) are.0 x steps known are.2,
)

-- all of a known input was read
all_read : (text read : List ℕ) (left left' : Option (List ℕ)) → left ≡ Some text → left ≡ prepend_known read left' → IsAtEnd left' → text ≡ read
all_read text read left None is taken end = let no : Some text ≡ None = sym is ∙ taken in cc
all_read text read left (Some xs) is taken end =
    let same : Some text ≡ Some (read ++ xs) = sym is ∙ taken in
    ap (λ (o : Option (List ℕ)). elim o [ None ↦ text | Some l ↦ l ]) same ∙ ap (λ (l : List ℕ). read ++ l) end ∙ append-nil read

empty_part : (x : Area) → part x (record { a = []; b = [] }) ≡ []
empty_part A = refl
empty_part B = refl

-- areas without bytes stand for no bodies
empty_stands : AreasStand (record { a = []; b = [] }) 2 None []
empty_stands =
    let empty : Areas = record { a = []; b = [] } in
    let short : length (chosen_part empty) ≡ 0 = ap length (empty_part (chosen empty)) in
    (few_not_live (chosen_part empty) (omega (arith, short)), inl (omega (arith, short), refl))

-- so they give no summary, and no past
new_past : {D : Type 0} (seen : D → DiskSeen) (disk : D) (base : Summary) (past : List Entry) → (seen disk).told ≡ Some (record { a = []; b = [] })
    → BeginsWith (seen disk) base past → (base ≡ nothing) × (past ≡ [])
new_past seen disk base past is begins =
    let empty : Areas = record { a = []; b = [] } in
    let gives : AreasGive empty begins.version base begins.bodies =
    subst (λ (o : Option Areas). IfSome o (λ s. AreasGive s begins.version base begins.bodies)) is begins.area in
    let none : AreasGive empty 2 nothing [] = (None, refl, empty_stands) in
    let one = one_opening empty in (
      (one.bases begins.version 2 base nothing begins.bodies [] gives none).0,
      one.pasts begins.version 2 base nothing begins.bodies [] past [] gives none begins.is_past (no_past 2 nothing (omega arith)),
    )

drilled_by : {D : Type 0} (seen : D → DiskSeen) (n : ℕ) (b : Begun D) (p' : PortSeen) (disk' : D) (tally : Tally) → b.setup ≡ drill_setup
    → b.port.left ≡ Some (drill_text n) → (seen b.disk).told ≡ Some (record { a = []; b = [] }) → BeginsWith (seen b.disk) b.base b.past
    → IsTranscript seen b Done p' disk' tally → IsDrilled n tally
drilled_by seen n b p' disk' tally under left is begins t =
    let steps = t.played.steps in
    let history = t.played.history in
    let whole = t.ends.2 in
    let Told : Type 0 = Tells (seen b.disk) in
    let none : (b.base ≡ nothing) × (b.past ≡ []) = new_past seen b.disk b.base b.past is begins in
    let read : drill_text n ≡ t.read = all_read (drill_text n) t.read b.port.left p'.left left t.taken t.ends.0.left in
    let lines_are : counted (lines_read p'.ended t.read) ≡ counted (lines (drill_text n)) =
    ap (λ (e : Bool). counted (lines_read e t.read)) t.ends.0.ended ∙ ap (λ (l : List ℕ). counted (lines l)) (sym read) in
    let front : t.played.front ≡ counted (lines (drill_text n)) =
    sym (append-nil t.played.front) ∙ ap (λ (l : List (ℕ × List ℕ)). t.played.front ++ l) (sym whole.none_behind) ∙ sym t.played.split ∙ lines_are in
    record {
      steps = steps;
      history = history;
      of = subst (λ (l : List (ℕ × List ℕ)). AreOf [] l steps) front t.played.of;
      are = told_steps (placed nothing drill_setup []) [] history steps (record { a = []; b = [] }, is)
          (subst (λ (base : Summary). AreSteps Told (placed base drill_setup []) [] history steps) none.0
          (subst (λ (h : List Entry). AreSteps Told (placed b.base drill_setup []) h history steps) none.1
          (subst (λ (setup : List ℕ). AreSteps Told (placed b.base setup []) b.past history steps) under t.played.are)));
      counts = subst (λ (base : Summary). IsTally base [] steps history tally) none.0
          (subst (λ (h : List Entry). IsTally b.base h steps history tally) none.1 whole.left.counts);
    }

-- a script that was done, under the drill's setup and over the drill's port
pub drilled_to_end : {D : Type 0} (seen : D → DiskSeen) (n : ℕ) (setup : List ℕ) (limits : Limits) (p p' : PortSeen) (disk : D) (ended : ScriptEnded D)
    → setup ≡ drill_setup → ended.end ≡ Done → p ≡ record untold { left = Some (drill_text n) }
    → (seen disk).told ≡ Some (record { a = []; b = [] }) → IsScript seen setup limits p p' disk ended → IsDrilled n ended.tally
drilled_to_end seen n setup limits p p' disk ended under done told is (inl refused) =
    let no : Done ≡ Refused refused.0 = sym done ∙ refused.1 in cc
drilled_to_end {D} seen n setup limits p p' disk ended under done told is (inr (base, past, opened, begins, keeps, there, inl t)) =
    let b : Begun D = record { disk = disk; setup = setup; limits = limits; base = base; past = past; port = p; opened = opened } in
    drilled_by seen n b p' ended.disk ended.tally under (ap (λ (q : PortSeen). q.left) told) is begins
    (subst (λ (e : ScriptEnd). IsTranscript seen b e p' ended.disk ended.tally) done t)
drilled_to_end seen n setup limits p p' disk ended under done told is (inr (base, past, opened, begins, keeps, there, inr unread)) =
    let no : Done ≡ Stopped Memory = sym done ∙ unread.0 in cc
