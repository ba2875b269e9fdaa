-- What comes of closing a gate.
use Rattle.std.proofs.Common.{◌≡◌, ◌≤◌, ℕ, ⊎_elim, sym, ap, ◌∙◌, subst, arith}
use Rattle.std.specs.Prelude.{Some}
use Rattle.arc_io.specs.Causes.{Rose}
use Rattle.arc_io.specs.Disks.{DiskSeen}
use Rattle.centre_store.specs.Stores.{Stored, HasFailed}
use Rattle.line_gate.specs.Groups.{IsClosedOrBroken, IsClosedWhole, IsClosedBroken}
use Rattle.line_gate.specs.Passes.{PassSeen}
use Rattle.line_gate.specs.Terms.{Terms}

-- of a store whose disk has not failed
pub closed_whole : {D : Type 0} (seen : D → DiskSeen) (t : Terms) (last : PassSeen) (s : Stored D) → IsClosedOrBroken seen t last s
    → last.told ≤ (seen s.journal.disk).faults → s.at_open ≡ t.at_open → s.journal.limits ≡ t.limits → s.state.sum.text ≡ Some t.text
    → (HasFailed seen s → ⊥) → IsClosedWhole seen t last s
closed_whole seen t last s either told at_open limits text up = record {
  closed = record {
    stands = ⊎_elim (λ stands. stands) (λ broken. absurd (up broken.failed)) either;
    told_is = told;
    at_open = at_open;
    limits = limits;
    text = text;
  };
  up = up;
}

-- of a disk that has failed
pub closed_broken : {D : Type 0} (seen : D → DiskSeen) (t : Terms) (last : PassSeen) (s : Stored D) (disk : D) (at_open now : ℕ) → disk ≡ s.journal.disk
    → at_open ≡ s.at_open → now ≡ (seen s.journal.disk).faults → last.told ≤ (seen s.journal.disk).faults → s.at_open ≡ t.at_open → HasFailed seen s
    → IsClosedBroken seen t last disk at_open now
closed_broken seen t last s disk at_open now disk_is opened_is now_is told opened failed =
    let faults : ℕ = (seen s.journal.disk).faults in record {
      at_open_is = opened_is ∙ opened;
      now_is = now_is ∙ sym (ap (λ (d : _). (seen d).faults) disk_is);
      rose = subst (Rose at_open) (sym now_is) (subst (λ (a : ℕ). Rose a faults) (sym opened_is) failed);
      told_is = omega (arith, told, now_is);
    }
