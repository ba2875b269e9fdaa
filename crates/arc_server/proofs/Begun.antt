-- What a run shows that begins, or stops before.
use Rattle.std.proofs.Common.{◌≡◌, ◌≤◌, ◌⊎◌, ℕ, inl, inr, refl, sym, subst}
use Rattle.std.specs.Prelude.{Result, Ok, Err, IfOk, IfErr}
use Rattle.arc_io.specs.Disks.{DiskSeen}
use Rattle.arc_script.specs.Ends.{IsUnopened}
use Rattle.centre_core.specs.declared.hall.Stop.{Stop}
use Rattle.centre_store.specs.Begins.{adopted_after, ShowsOfBegin}
use Rattle.centre_store.specs.Stores.{Stored, StoreStands}
use Rattle.disk_journal.specs.declared.journal.OpenRefused.{OpenRefused}
use Rattle.arc_server.specs.Areas.{shipped}
use Rattle.arc_server.specs.Beginnings.{HasAsked, StopsAtOpening, StopsAtBeginning}
use Rattle.arc_server.specs.Handed.{Handed}
use Rattle.arc_server.specs.Made.{status_over, status_of_fault, status_of_stop}
use Rattle.arc_server.specs.declared.status.Status.{Status}
use Rattle.arc_server.proofs.Kept.{leaves_store}

pub if_ok : {A E : Type 0} {P Q : A → Type 0} (r : Result A E) → ((x : A) → P x → Q x) → IfOk r P → IfOk r Q
if_ok (Ok x) each so = each x so
if_ok (Err e) each so = so

pub if_err : {A E : Type 0} {P Q : E → Type 0} (r : Result A E) → ((e : E) → P e → Q e) → IfErr r P → IfErr r Q
if_err (Ok x) each so = so
if_err (Err e) each so = each e so

-- a journal that was not opened
pub shut : {D : Type 0} {seen : D → DiskSeen} {status : Status} {r r' : Handed D} (before : ℕ) (refused : OpenRefused D)
    → IsUnopened refused.fault (seen r.disk) (seen refused.disk) → r'.port ≡ r.port → r'.disk ≡ refused.disk → before ≡ (seen r.disk).faults
    → status ≡ status_over before (seen refused.disk).faults (status_of_fault refused.fault) → StopsAtOpening seen status r r'
shut {D} {seen} {status} {r} {r'} before refused unopened port handed counted is = record {
  fault = refused.fault;
  unopened = subst (λ (d : D). IsUnopened refused.fault (seen r.disk) (seen d)) (sym handed) unopened;
  port = port;
  status_is = subst (λ (n : ℕ). status ≡ status_over n (seen r'.disk).faults (status_of_fault refused.fault)) counted
      (subst (λ (d : D). status ≡ status_over before (seen d).faults (status_of_fault refused.fault)) (sym handed) is);
}

-- a beginning that was stopped
pub unbegun : {D : Type 0} {seen : D → DiskSeen} {status : Status} {r r' : Handed D} (asked : HasAsked seen r r'.setup r'.port) (last : Stored D)
    (stop : Stop)
    → StoreStands seen asked.base last asked.past ⊎ StoreStands seen asked.base last (adopted_after asked.base asked.past asked.setup.text asked.clock)
    → ShowsOfBegin seen last asked.setup.text asked.clock stop → last.journal.limits ≡ shipped → (seen r.disk).faults ≤ last.at_open
    → r'.disk ≡ last.journal.disk → status ≡ status_over (seen r.disk).faults (seen r'.disk).faults (status_of_stop stop)
    → StopsAtBeginning seen status r r'
unbegun {D} {seen} {status} {r} {r'} asked last stop (inl stands) cause limits later handed is = record {
  asked = asked;
  history = asked.past;
  is = inl refl;
  last = last;
  leaves = leaves_store last stands limits later handed;
  stop = stop;
  cause = cause;
  status_is = is;
}
unbegun {D} {seen} {status} {r} {r'} asked last stop (inr stands) cause limits later handed is = record {
  asked = asked;
  history = adopted_after asked.base asked.past asked.setup.text asked.clock;
  is = inr refl;
  last = last;
  leaves = leaves_store last stands limits later handed;
  stop = stop;
  cause = cause;
  status_is = is;
}
