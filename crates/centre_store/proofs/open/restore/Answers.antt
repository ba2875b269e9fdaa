use Rattle.std.proofs.Common.{◌≡◌, ◌∙◌, ◌⊎◌, ℕ, inl, refl, rules, subst, sym}
use Rattle.std.specs.Prelude.{Err, IfErr, IfSome, Result}
use Rattle.arc_io.specs.Areas.{Areas}
use Rattle.arc_io.specs.Crashes.{Becomes, LeavesOnly}
use Rattle.centre_rules.specs.State.{State}
use Rattle.disk_journal.specs.Journal.{IsOpen}
use Rattle.disk_journal.specs.Turning.{Changes}
use Rattle.disk_journal.specs.declared.fault.OpenFault.{OpenFault}
use Rattle.disk_journal.specs.declared.journal.Journal.{Journal}
use Rattle.centre_store.specs.Given.{GoesOn, HoldsRecorded}
use Rattle.centre_store.specs.Openings.{CanOpen, IsChosenSame, IsOfBodies, IsRefused, IsRestored}
use Rattle.centre_store.proofs.Moved.{had_one, holds_one, opened_moved, opened_still, second}
use Rattle.centre_store.proofs.Moved.{move_kept, move_moments, move_refused, move_told, move_written, still_kept, still_on, still_told}
use Rattle.centre_store.proofs.Opened.{refused}
use Rattle.centre_store.proofs.open.restore.Goals as goal
use Rattle.centre_store.proofs.open.restore.Goals.{then-version-eq1+in_ok-move_on, else-version-eq1}

pub returns-in_err-centre-clause-shown : goal.returns-in_err-centre-clause-shown
returns-in_err-centre-clause-shown g c =
    let result = c.from_residual.result in
    let fault = c.in_err-centre.field-0.0 in
    let on : result ≡ Err fault = search rules in
    let shown : (disk : _) → IsOpen g.D.Disk.seen disk c.args.journal.now c.args.bodies.now → IfSome (g.D.Disk.seen disk).told (IsRefused fault) =
    λ disk o. refused g.D.Disk.seen disk c.args.journal.now c.args.bodies.now fault o
    (subst (λ (v : ℕ). IsOfBodies fault v o.summary o.bodies) c.version.ensures
    (c.in_err-centre.ensures.broken o.summary o.bodies o.all (c.records.ensures ∙ o.count))) in
    subst (λ (x : Result State OpenFault).
    IfErr x (λ f. (disk : _) → IsOpen g.D.Disk.seen disk c.args.journal.now c.args.bodies.now → IfSome (g.D.Disk.seen disk).told (IsRefused f)))
    (sym on) shown

pub move_on-requires-clause-had : goal.move_on-requires-clause-had
move_on-requires-clause-had g c =
    let disk = c.requires.opened.0 in
    let o = c.requires.opened.1 in
    let seen = g.D.Disk.seen in
    let j = c.args.journal.now in
    let given = c.args.bodies.now in
    let s = c.in_ok-centre.centre in
    let one : j.version ≡ 1 = sym c.version-2.ensures ∙ c.if-version-eq1.true in
    let r : IsRestored j.version o.summary o.bodies s =
    subst (λ (v : ℕ). IsRestored v o.summary o.bodies c.in_ok-centre.centre) c.version.ensures
    (c.in_ok-centre.ensures.restored o.summary o.bodies o.all (c.records.ensures ∙ o.count)) in
    had_one seen disk j given s o r one

pub returns-in_err-move_on-clause-shown : goal.returns-in_err-move_on-clause-shown
returns-in_err-move_on-clause-shown g c =
    let result = c.from_residual-in_err-move_on.result in
    let fault = c.in_err-move_on.field-0.0 in
    let on : result ≡ Err fault = search rules in
    let shown : (disk : _) → IsOpen g.D.Disk.seen disk c.args.journal.now c.args.bodies.now → IfSome (g.D.Disk.seen disk).told (IsRefused fault) =
    λ disk o.
    let seen = g.D.Disk.seen in
    let j = c.args.journal.now in
    let given = c.args.bodies.now in
    let s = c.in_ok-centre.centre in
    let one : j.version ≡ 1 = sym c.version-2.ensures ∙ c.if-version-eq1.true in
    let r : IsRestored j.version o.summary o.bodies s =
    subst (λ (v : ℕ). IsRestored v o.summary o.bodies c.in_ok-centre.centre) c.version.ensures
    (c.in_ok-centre.ensures.restored o.summary o.bodies o.all (c.records.ensures ∙ o.count)) in
    move_refused seen disk j given s o r one c.move_on.new.journal fault c.in_err-move_on.ensures.fault in
    subst (λ (x : Result State OpenFault).
    IfErr x (λ f. (disk : _) → IsOpen g.D.Disk.seen disk c.args.journal.now c.args.bodies.now → IfSome (g.D.Disk.seen disk).told (IsRefused f)))
    (sym on) shown

pub returns-in_err-move_on-clause-any_moment : goal.returns-in_err-move_on-clause-any_moment
returns-in_err-move_on-clause-any_moment g c disk o =
    let seen = g.D.Disk.seen in
    let j = c.args.journal.now in
    let given = c.args.bodies.now in
    let s = c.in_ok-centre.centre in
    let one : j.version ≡ 1 = sym c.version-2.ensures ∙ c.if-version-eq1.true in
    let r : IsRestored j.version o.summary o.bodies s =
    subst (λ (v : ℕ). IsRestored v o.summary o.bodies c.in_ok-centre.centre) c.version.ensures
    (c.in_ok-centre.ensures.restored o.summary o.bodies o.all (c.records.ensures ∙ o.count)) in
    move_moments seen disk j given s o r one c.move_on.new.journal.disk c.move_on.ensures.kept
    (c.move_on.ensures.any_moment o.summary o.bodies (holds_one seen disk j given s o r one))

pub returns-in_err-move_on-clause-told : goal.returns-in_err-move_on-clause-told
returns-in_err-move_on-clause-told g c disk o =
    let seen = g.D.Disk.seen in
    let j = c.args.journal.now in
    let given = c.args.bodies.now in
    let s = c.in_ok-centre.centre in
    let one : j.version ≡ 1 = sym c.version-2.ensures ∙ c.if-version-eq1.true in
    let r : IsRestored j.version o.summary o.bodies s =
    subst (λ (v : ℕ). IsRestored v o.summary o.bodies c.in_ok-centre.centre) c.version.ensures
    (c.in_ok-centre.ensures.restored o.summary o.bodies o.all (c.records.ensures ∙ o.count)) in
    move_told seen disk j given s o r one c.move_on.new.journal.disk c.move_on.ensures.kept
    (c.move_on.ensures.told o.summary o.bodies (holds_one seen disk j given s o r one))

pub returns-in_err-move_on-clause-kept : goal.returns-in_err-move_on-clause-kept
returns-in_err-move_on-clause-kept g c disk o =
    let seen = g.D.Disk.seen in
    let j = c.args.journal.now in
    let given = c.args.bodies.now in
    let s = c.in_ok-centre.centre in
    let one : j.version ≡ 1 = sym c.version-2.ensures ∙ c.if-version-eq1.true in
    let r : IsRestored j.version o.summary o.bodies s =
    subst (λ (v : ℕ). IsRestored v o.summary o.bodies c.in_ok-centre.centre) c.version.ensures
    (c.in_ok-centre.ensures.restored o.summary o.bodies o.all (c.records.ensures ∙ o.count)) in
    move_kept seen disk j given s o r one c.move_on.new.journal.disk c.move_on.ensures.kept

pub returns-in_err-move_on-clause-written : goal.returns-in_err-move_on-clause-written
returns-in_err-move_on-clause-written g c disk o =
    let seen = g.D.Disk.seen in
    let j = c.args.journal.now in
    let given = c.args.bodies.now in
    let s = c.in_ok-centre.centre in
    let one : j.version ≡ 1 = sym c.version-2.ensures ∙ c.if-version-eq1.true in
    let r : IsRestored j.version o.summary o.bodies s =
    subst (λ (v : ℕ). IsRestored v o.summary o.bodies c.in_ok-centre.centre) c.version.ensures
    (c.in_ok-centre.ensures.restored o.summary o.bodies o.all (c.records.ensures ∙ o.count)) in
    move_written seen disk j given s o r one c.move_on.new.journal c.move_on.ensures.written

pub returns-clause-opened : goal.returns-clause-opened
returns-clause-opened g c disk at_open o =
    let seen = g.D.Disk.seen in
    let j = c.args.journal.now in
    let given = c.args.bodies.now in
    let s = c.in_ok-centre.centre in
    let r : IsRestored j.version o.summary o.bodies s =
    subst (λ (v : ℕ). IsRestored v o.summary o.bodies c.in_ok-centre.centre) c.version.ensures
    (c.in_ok-centre.ensures.restored o.summary o.bodies o.all (c.records.ensures ∙ o.count)) in
    elim c.if-version-eq1.branch [
      | then-version-eq1+in_ok-move_on w ↦
          let one : j.version ≡ 1 = sym c.version-2.ensures ∙ w.if-version-eq1.true in
          opened_moved seen disk j given s o r one c.if-version-eq1.journal at_open
          (λ b h all. subst (λ (k : Journal g.row.D.Denot). HoldsRecorded seen k b h) (sym w.journal-is) (w.in_ok-move_on.ensures.has b h all))
      | else-version-eq1 w ↦
          opened_still seen disk j given s o r c.if-version-eq1.journal at_open w.journal-is
          (second j.version o.known (λ one. w.if-version-eq1.false (c.version-2.ensures ∙ one)))
    ]

pub returns-clause-any_moment : goal.returns-clause-any_moment
returns-clause-any_moment g c disk o =
    let seen = g.D.Disk.seen in
    let j = c.args.journal.now in
    let given = c.args.bodies.now in
    let s = c.in_ok-centre.centre in
    let r : IsRestored j.version o.summary o.bodies s =
    subst (λ (v : ℕ). IsRestored v o.summary o.bodies c.in_ok-centre.centre) c.version.ensures
    (c.in_ok-centre.ensures.restored o.summary o.bodies o.all (c.records.ensures ∙ o.count)) in
    elim c.if-version-eq1.branch [
      | then-version-eq1+in_ok-move_on w ↦
          let one : j.version ≡ 1 = sym c.version-2.ensures ∙ w.if-version-eq1.true in
          subst (λ (k : Journal g.row.D.Denot). LeavesOnly (seen j.disk) (seen k.disk) (λ x. (d : Areas) × (seen j.disk).may_leave d × GoesOn d x)) (sym w.journal-is)
          (move_moments seen disk j given s o r one w.move_on.new.journal.disk w.move_on.ensures.kept (w.move_on.ensures.any_moment o.summary o.bodies (holds_one seen disk j given s o r one)))
      | else-version-eq1 w ↦ subst (λ (k : Journal g.row.D.Denot). LeavesOnly (seen j.disk) (seen k.disk) (λ x. (d : Areas) × (seen j.disk).may_leave d × GoesOn d x)) (sym w.journal-is) (still_on (seen j.disk) (λ x left. g.met.D.Disk.only_now j.disk x left))
    ]

pub returns-clause-told : goal.returns-clause-told
returns-clause-told g c disk o =
    let seen = g.D.Disk.seen in
    let j = c.args.journal.now in
    let given = c.args.bodies.now in
    let s = c.in_ok-centre.centre in
    let r : IsRestored j.version o.summary o.bodies s =
    subst (λ (v : ℕ). IsRestored v o.summary o.bodies c.in_ok-centre.centre) c.version.ensures
    (c.in_ok-centre.ensures.restored o.summary o.bodies o.all (c.records.ensures ∙ o.count)) in
    elim c.if-version-eq1.branch [
      | then-version-eq1+in_ok-move_on w ↦
          let one : j.version ≡ 1 = sym c.version-2.ensures ∙ w.if-version-eq1.true in
          subst (λ (k : Journal g.row.D.Denot). Becomes (seen j.disk).told (seen k.disk).told GoesOn) (sym w.journal-is)
          (move_told seen disk j given s o r one w.move_on.new.journal.disk w.move_on.ensures.kept (w.move_on.ensures.told o.summary o.bodies (holds_one seen disk j given s o r one)))
      | else-version-eq1 w ↦ subst (λ (k : Journal g.row.D.Denot). Becomes (seen j.disk).told (seen k.disk).told GoesOn) (sym w.journal-is) (still_told (seen j.disk).told)
    ]

pub returns-clause-kept : goal.returns-clause-kept
returns-clause-kept g c disk o =
    let seen = g.D.Disk.seen in
    let j = c.args.journal.now in
    let given = c.args.bodies.now in
    let s = c.in_ok-centre.centre in
    let r : IsRestored j.version o.summary o.bodies s =
    subst (λ (v : ℕ). IsRestored v o.summary o.bodies c.in_ok-centre.centre) c.version.ensures
    (c.in_ok-centre.ensures.restored o.summary o.bodies o.all (c.records.ensures ∙ o.count)) in
    elim c.if-version-eq1.branch [
      | then-version-eq1+in_ok-move_on w ↦
          let one : j.version ≡ 1 = sym c.version-2.ensures ∙ w.if-version-eq1.true in
          subst (λ (k : Journal g.row.D.Denot). Changes IsChosenSame (seen j.disk) (seen k.disk)) (sym w.journal-is)
          (move_kept seen disk j given s o r one w.move_on.new.journal.disk w.move_on.ensures.kept)
      | else-version-eq1 w ↦ subst (λ (k : Journal g.row.D.Denot). Changes IsChosenSame (seen j.disk) (seen k.disk)) (sym w.journal-is) (still_kept (seen j.disk) (λ x left. g.met.D.Disk.only_now j.disk x left))
    ]

pub returns-clause-written : goal.returns-clause-written
returns-clause-written g c disk o =
    let seen = g.D.Disk.seen in
    let j = c.args.journal.now in
    let given = c.args.bodies.now in
    let s = c.in_ok-centre.centre in
    let r : IsRestored j.version o.summary o.bodies s =
    subst (λ (v : ℕ). IsRestored v o.summary o.bodies c.in_ok-centre.centre) c.version.ensures
    (c.in_ok-centre.ensures.restored o.summary o.bodies o.all (c.records.ensures ∙ o.count)) in
    elim c.if-version-eq1.branch [
      | then-version-eq1+in_ok-move_on w ↦
          let one : j.version ≡ 1 = sym c.version-2.ensures ∙ w.if-version-eq1.true in
          subst (λ (k : Journal g.row.D.Denot). (k ≡ j) ⊎ ((j.version ≡ 1) × IfSome (seen disk).told CanOpen)) (sym w.journal-is)
          (move_written seen disk j given s o r one w.move_on.new.journal w.move_on.ensures.written)
      | else-version-eq1 w ↦ subst (λ (k : Journal g.row.D.Denot). (k ≡ j) ⊎ ((j.version ≡ 1) × IfSome (seen disk).told CanOpen)) (sym w.journal-is) (inl refl)
    ]
