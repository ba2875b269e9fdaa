-- What the journal keeps of a history, and what opening it again gives.
use Rattle.std.proofs.Common.{◌≡◌, ◌≤◌, ◌+◌, ◌∷◌, ◌^◌, ℕ, List, [], true, cond, length, Option, Some, None, IfSome, refl, sym, ap, subst, ◌∙◌, arith}
use Rattle.arc_io.specs.Areas.{Areas}
use Rattle.arc_io.specs.Disks.{DiskSeen}
use Rattle.centre_rules.specs.Answers.{IsLegal}
use Rattle.centre_rules.proofs.Quiet.{last_recorded, legal_recorded}
use Rattle.centre_rules.specs.History.{Entry, IsMoment, last, recorded}
use Rattle.centre_rules.specs.Summary.{Summary}
use Rattle.centre_store.proofs.Holding.{all_named, recorded_there}
use Rattle.centre_store.proofs.Readable.{last_moment}
use Rattle.centre_store.proofs.Recorded.{bodies_recorded, past_recorded, recorded_once}
use Rattle.centre_store.proofs.Remains.{stand_recorded}
use Rattle.centre_store.specs.Bodies.{bodies_in}
use Rattle.centre_store.specs.Given.{HoldsRecorded, IsGiven, StandFor, StandForIn}
use Rattle.centre_store.specs.Openings.{IsOpened}
use Rattle.centre_store.specs.Pasts.{AreKept, IsPast}
use Rattle.centre_store.specs.Stores.{Stored, StoreStands}
use Rattle.arc_script.specs.Begun.{Begun}
use Rattle.arc_script.specs.Ends.{Tells}
use Rattle.centre_store.specs.StoreHalls.{is_told}
use Rattle.arc_script.specs.Standing.{IsReadable}
use Rattle.arc_script.specs.Steps.{Keeps}
use Rattle.arc_script.proofs.GivenSummaries.{given_moment}
use Rattle.std.proofs.lemmas.Bool.{false≢true}

-- what was kept is recorded
pub kept_recorded : (h : List Entry) → AreKept h → recorded h ≡ h
kept_recorded [] kept = refl
kept_recorded (e ∷ h) kept = ap (λ t. cond t (e ∷ recorded h) (recorded h)) kept.0.recorded ∙ ap (λ l. e ∷ l) (kept_recorded h kept.1)

-- the histories for which a store stands that was opened over areas: each whose entries the areas have
abbrev Every : {D : Type 0} → (D → DiskSeen) → Stored D → Areas → Type 0
Every seen s areas =
    (b : Summary) (k : List Entry) → IsGiven b → IsLegal b k → IsMoment (last b k) → recorded k ≡ k → StandFor b k areas → StoreStands seen b s k

-- A store that was opened over areas that stand for the recorded entries of a history over a summary: over that summary it stands for these
-- entries, whatever summary the areas give now.
told_again : {D : Type 0} (seen : D → DiskSeen) (base : Summary) (h : List Entry) (areas : Areas) (disk : D) (s : Stored D) (o : IsOpened seen disk s)
    → IsLegal base h → IsReadable base h → StandForIn 2 base h areas → Every seen s areas
    → IsPast 2 base (bodies_in 2 (recorded h)) (recorded h) × StoreStands seen base s (recorded h)
told_again seen base h areas disk s o legal readable stand every =
    let moment : IsMoment (last base (recorded h)) = subst IsMoment (last_recorded base h) (last_moment base h readable.1) in
    let stands = every base (recorded h) readable.0 (legal_recorded base h legal) moment (recorded_once h) (2, stand_recorded 2 base h areas stand) in
    let few : base.recorded + length (recorded h) ≤ 2 ^ 48 = omega (arith, stands.centre.entries, o.stands.centre.entries, o.is_past.few) in (
      subst (λ (l : List (List ℕ)). IsPast 2 base l (recorded h)) (bodies_recorded 2 h) (past_recorded 2 base h legal readable.1.1 (all_named (recorded h)) few),
      stands,
    )

-- What a script goes on from over a journal that was opened again: a summary, and what is kept of a history over another.
pub record GoesOnFrom {D : Type 0} (seen : D → DiskSeen) (Told : Type 0) (base : Summary) (h : List Entry) (s : Stored D) : Type 0 where
  pub anew : Summary
  pub kept : List Entry
  pub keeps : Keeps Told base anew h kept
  pub stands : StoreStands seen anew s kept
  pub readable : IsReadable anew kept

-- by whether the disk tells what it holds
goes_on_as : {D : Type 0} (seen : D → DiskSeen) (Told : Type 0) (base : Summary) (h : List Entry) (disk : D) (s : Stored D) (o : IsOpened seen disk s)
    (told : Option Areas) → (Told → is_told told ≡ true) → IsLegal base h → IsReadable base h → IfSome told (StandForIn 2 base h)
    → IfSome told (Every seen s) → GoesOnFrom seen Told base h s
goes_on_as seen Told base h disk s o None known legal readable stand every = record {
  anew = o.base;
  kept = o.past;
  keeps = record {
    given = o.given;
    version = o.version;
    past = subst (λ (l : List (List ℕ)). IsPast o.version o.base l o.past) o.is_past.is o.is_past;
    same = λ told. absurd (false≢true (known told));
  };
  stands = o.stands;
  readable = (o.given, (given_moment o.base o.given, subst AreKept (sym (kept_recorded o.past o.is_past.kept)) o.is_past.kept));
}
goes_on_as seen Told base h disk s o (Some areas) known legal readable stand every =
    let again = told_again seen base h areas disk s o legal readable stand every in
    let kept = readable.1.1 in
    record {
      anew = base;
      kept = recorded h;
      keeps = record { given = readable.0; version = 2; past = again.0; same = λ told. (refl, refl) };
      stands = again.1;
      readable = (readable.0, (readable.1.0, subst AreKept (sym (kept_recorded (recorded h) kept)) kept));
    }

is_true : (o : Option Areas) (areas : Areas) → o ≡ Some areas → is_told o ≡ true
is_true o areas is = ap is_told is

-- a disk that tells as much as one that tells what it holds
pub told_some : (first disk : DiskSeen) → Tells first → is_told disk.told ≡ is_told first.told → disk.told ≡ None → ⊥
told_some first disk told same none = false≢true (sym (ap is_told none) ∙ same ∙ is_true first.told told.0 told.1)

pub goes_on_from : {D : Type 0} (seen : D → DiskSeen) (b : Begun D) (base : Summary) (h : List Entry) (s s' : Stored D) → IsLegal base h → IsReadable base h
    → is_told (seen s.journal.disk).told ≡ is_told (seen b.disk).told → HoldsRecorded seen s.journal base h → IsOpened seen s.journal.disk s'
    → GoesOnFrom seen (Tells (seen b.disk)) base h s'
goes_on_from seen b base h s s' legal readable tells holds o =
    goes_on_as seen (Tells (seen b.disk)) base h s.journal.disk s' o (seen s.journal.disk).told
    (λ told. tells ∙ is_true (seen b.disk).told told.0 told.1) legal readable (recorded_there seen s.journal base h holds).area o.every
