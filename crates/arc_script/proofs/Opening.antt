-- A script before its first line, over a store that was opened.
use Rattle.std.proofs.Common.{◌≡◌, ◌≤◌, ◌∷◌, ℕ, zero, suc, List, [], Option, Some, None, IfSome, refl, sym, subst, ◌∙◌, arith}
use Rattle.std.specs.Prelude.{All, slice_get}
use Rattle.alarm_rules.specs.Setups.{meaning}
use Rattle.arc_io.proofs.KnownMore.{known_none}
use Rattle.arc_io.specs.Areas.{Areas}
use Rattle.arc_io.specs.Disks.{DiskSeen}
use Rattle.centre_rules.specs.History.{Entry, IsMoment, recorded}
use Rattle.centre_rules.specs.Summary.{Summary}
use Rattle.centre_store.specs.Calls.{LeavesFrom}
use Rattle.centre_store.specs.Given.{IsGiven, BeginsWith, HoldsRecorded}
use Rattle.centre_store.specs.Openings.{IsOpened}
use Rattle.centre_store.specs.Pasts.{AreKept}
use Rattle.centre_store.specs.Stores.{HasFailed, Stored, StoreStands}
use Rattle.desk_session.specs.Desks as Desk
use Rattle.line_session.specs.Lines.{LineValue}
use Rattle.arc_script.specs.Begun.{Begun}
use Rattle.arc_script.specs.Between.{IsStoreSoFar, SoFar}
use Rattle.arc_script.specs.Carrying.{HasRead, HaveTaken}
use Rattle.arc_script.specs.Feeding.{AreNew}
use Rattle.arc_script.specs.Playing.{IsNewDesk}
use Rattle.centre_store.specs.StoreHalls.{is_told}
use Rattle.arc_script.specs.declared.script.Script.{Script}
use Rattle.arc_script.proofs.GivenSummaries.{given_moment}
use Rattle.arc_script.proofs.Left.{left_opened}
use Rattle.arc_script.proofs.Reopening.{kept_recorded}

all_at : {A : Type 0} (P : A → Type 0) (xs : List A) (i : ℕ) → All P xs → IfSome (slice_get xs i) P
all_at P [] i all = tt
all_at P (x ∷ xs) zero all = all 0 x (omega arith)
all_at P (x ∷ xs) (suc i) all = all_at P xs i (λ k d inside. all (suc k) d (omega (arith, inside)))

-- desks that were made anew read nothing
new_read : (setup : List ℕ) (desk : Option Desk.DeskValue) (count : ℕ) → IfSome desk IsNewDesk → IfSome desk (HasRead (meaning setup) count [])
new_read setup None count new = tt
new_read setup (Some desk) count new = record { stream = []; took = new.took (meaning setup); ended = refl; none = refl; few = omega arith }

-- lines and desks that were made anew
pub taken_none : (setup : List ℕ) (lines : List LineValue) (desks : List Desk.DeskValue) → AreNew lines → All IsNewDesk desks
    → HaveTaken (meaning setup) 0 [] lines desks
taken_none setup lines desks new_lines new_desks = record {
  fed = new_lines;
  few = λ n. omega arith;
  read = λ i. new_read setup (slice_get desks i) 0 (all_at IsNewDesk desks i new_desks);
}

-- what a store that was opened stands for
pub store_opened : {D : Type 0} (seen : D → DiskSeen) (only_now : (d : D) (c : Areas) → (seen d).left_since (seen d).moment c → (seen d).may_leave c)
    (b : Begun D) (s : Stored D) (o : IsOpened seen b.disk s) → o.base ≡ b.base → o.past ≡ b.past → s.journal.disk ≡ b.opened
    → is_told (seen s.journal.disk).told ≡ is_told (seen b.disk).told → s.journal.limits ≡ b.limits → (seen b.disk).faults ≤ s.at_open
    → IsStoreSoFar seen b b.base o.past s
store_opened {D} seen only_now b s o same past opened tells limits later = record {
  stands = subst (λ (base : Summary). StoreStands seen base s o.past) same o.stands;
  readable =
      let given = subst IsGiven same o.given in
      (given, (given_moment b.base given, subst AreKept (sym (kept_recorded o.past o.is_past.kept)) o.is_past.kept));
  tells = tells;
  limits_are = limits;
  later = later;
  past_recorded = subst (λ (l : List Entry). recorded l ≡ l) past (kept_recorded o.past o.is_past.kept);
  left = λ told.
      subst (λ (d : D). LeavesFrom (seen d).moment b.past s.at_open (seen s.journal.disk) b.base o.past) opened
      (subst (λ (l : List Entry). LeavesFrom (seen s.journal.disk).moment l s.at_open (seen s.journal.disk) b.base o.past) past
      (left_opened seen only_now b.base o.past s s.at_open (subst (λ (base : Summary). HoldsRecorded seen s.journal base o.past) same o.held)));
}

pub held_opened : {D : Type 0} (seen : D → DiskSeen) (disk : D) (s : Stored D) (o : IsOpened seen disk s)
    → HoldsRecorded seen s.journal o.base o.past
held_opened seen disk s o = o.held

pub begins_with : {D : Type 0} (seen : D → DiskSeen) (disk : D) (s : Stored D) (o : IsOpened seen disk s) → BeginsWith (seen disk) o.base o.past
begins_with seen disk s o = record { version = o.version; bodies = o.bodies; given = o.given; is_past = o.is_past; area = o.area }

-- no line was carried out
pub so_far_none : {D : Type 0} (seen : D → DiskSeen) (b : Begun D) (script : Script) (s : Stored D) → script.setup ≡ b.setup → script.limits ≡ b.limits
    → AreNew script.lines.items → All IsNewDesk script.desks.items → script.clock ≡ None
    → script.opened_before ≡ s.state.sum.opened → script.tally.sent ≡ 0 → script.tally.repeats ≡ 0 → script.tally.closed ≡ 0
    → IsStoreSoFar seen b b.base b.past s → HoldsRecorded seen s.journal b.base b.past → SoFar seen b [] script s b.port
so_far_none seen b script s setup limits new_lines new_desks none opened sent repeats closed store held = record {
  steps = [];
  history = b.past;
  of = tt;
  are = refl;
  between = record {
    setup = setup;
    limits = limits;
    clock = record { is = none; moment = subst (λ (c : Option ℕ). IfSome c IsMoment) (sym none) tt; once = tt };
    set = subst (λ (c : Option ℕ). IfSome c (λ last. s.state.sum.text ≡ Some b.setup)) (sym none) tt;
    taken = taken_none b.setup script.lines.items script.desks.items new_lines new_desks;
    store = store;
    up = subst (λ (c : Option ℕ). IfSome c (λ last. HasFailed seen s → ⊥)) (sym none) tt;
  };
  held = held;
  counts = record { sent = sent; repeats = repeats; closed = closed };
  opened_before = opened ∙ store.stands.centre.same.opened;
  written = sym (known_none b.port.written);
  writes = omega arith;
}
