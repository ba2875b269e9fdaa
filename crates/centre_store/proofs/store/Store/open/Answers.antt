use Rattle.std.proofs.Common.{◌≡◌, ◌∙◌, ap, arith, rules, subst, sym}
use Rattle.std.specs.Prelude.{Err, IfSome}
use Rattle.arc_io.specs.Areas.{Areas}
use Rattle.arc_io.specs.Crashes.{Becomes, IsQuiet, LeavesOnly}
use Rattle.disk_journal.specs.Standing.{version_now}
use Rattle.disk_journal.specs.Turning.{Changes}
use Rattle.disk_journal.specs.declared.journal.Journal.{Journal}
use Rattle.centre_store.specs.Given.{GoesOn}
use Rattle.centre_store.specs.Openings.{IsChosenSame, disk_of}
use Rattle.centre_store.proofs.Moved.{journal_moments, journal_told, open_moments, open_told, opened_chosen, opened_fresh, refused_kept, unwritten_so}
use Rattle.centre_store.proofs.store.Store.open.Goals as goal

pub returns-in_err-journal-clause-any_moment : goal.returns-in_err-journal-clause-any_moment
returns-in_err-journal-clause-any_moment g c =
    let seen = g.D.Disk.seen in
    let old = seen c.args.disk in
    let result = c.from_residual.result in
    let on : result ≡ Err c.in_err-journal.field-0.0 = search rules in
    subst (λ (d : g.row.D.Denot). LeavesOnly old (seen d) (λ x. (a : Areas) × old.may_leave a × GoesOn a x)) (ap disk_of (sym on))
    (journal_moments old (seen c.in_err-journal.field-0.0.disk) c.in_err-journal.ensures.goes_on)

pub returns-in_err-journal-clause-told : goal.returns-in_err-journal-clause-told
returns-in_err-journal-clause-told g c =
    let seen = g.D.Disk.seen in
    let old = seen c.args.disk in
    let result = c.from_residual.result in
    let on : result ≡ Err c.in_err-journal.field-0.0 = search rules in
    subst (λ (d : g.row.D.Denot). Becomes old.told (seen d).told GoesOn) (ap disk_of (sym on))
    (journal_told old.told (seen c.in_err-journal.field-0.0.disk).told c.in_err-journal.ensures.goes_on.told)

pub returns-in_err-journal-clause-kept : goal.returns-in_err-journal-clause-kept
returns-in_err-journal-clause-kept g c =
    let seen = g.D.Disk.seen in
    let old = seen c.args.disk in
    let result = c.from_residual.result in
    let on : result ≡ Err c.in_err-journal.field-0.0 = search rules in
    subst (λ (d : g.row.D.Denot). IfSome old.told (λ s. version_now s ≡ 1 → Changes IsChosenSame old (seen d))) (ap disk_of (sym on))
    (refused_kept old (seen c.in_err-journal.field-0.0.disk) c.in_err-journal.ensures.long)

pub invariant_of-result : goal.invariant_of-result
invariant_of-result g c =
    let x = c.in-Ok.ensures.opened c.args.disk c.faults-at_open.result c.in_ok-journal.ensures.opened in
    record {
      some = λ _. record { base = x.base; history = x.past; stands = x.stands };
      few = (let few = x.is_past.few in omega (arith, few, x.stands.centre.entries));
      later = (let same = ap (λ d. (g.D.Disk.seen d).faults) c.disk.ensures in omega (arith, same, c.faults-at_open.ensures));
    }

pub returns-in-Ok-clause-any_moment : goal.returns-in-Ok-clause-any_moment
returns-in-Ok-clause-any_moment g c =
    let o = c.in_ok-journal.ensures.opened in
    let seen = g.D.Disk.seen in
    let j = c.in_ok-journal.journal in
    let given = c.in_ok-journal.bodies in
    open_moments (seen c.args.disk) (seen j.disk) (seen c.restore.new.journal.disk) c.in_ok-journal.ensures.goes_on (c.restore.ensures.any_moment c.args.disk o)

pub returns-in-Ok-clause-told : goal.returns-in-Ok-clause-told
returns-in-Ok-clause-told g c =
    let o = c.in_ok-journal.ensures.opened in
    let seen = g.D.Disk.seen in
    let j = c.in_ok-journal.journal in
    let given = c.in_ok-journal.bodies in
    open_told (seen c.args.disk).told (seen j.disk).told (seen c.restore.new.journal.disk).told c.in_ok-journal.ensures.goes_on.told
    (c.restore.ensures.told c.args.disk o)

pub returns-in-Ok-clause-kept : goal.returns-in-Ok-clause-kept
returns-in-Ok-clause-kept g c =
    let o = c.in_ok-journal.ensures.opened in
    let seen = g.D.Disk.seen in
    let j = c.in_ok-journal.journal in
    let given = c.in_ok-journal.bodies in
    opened_chosen seen c.args.disk j given o c.restore.new.journal.disk c.in_ok-journal.ensures.first (c.restore.ensures.kept c.args.disk o)

pub returns-in-Ok-clause-fresh : goal.returns-in-Ok-clause-fresh
returns-in-Ok-clause-fresh g c =
    let o = c.in_ok-journal.ensures.opened in
    let seen = g.D.Disk.seen in
    let j = c.in_ok-journal.journal in
    let given = c.in_ok-journal.bodies in
    opened_fresh seen c.args.disk j given o c.restore.new.journal.disk
    (λ two. ap (λ (k : Journal g.row.D.Denot). k.disk) (c.restore.ensures.still two)) c.in_ok-journal.ensures.goes_on

pub returns-clause-any_moment : goal.returns-clause-any_moment
returns-clause-any_moment g c =
    let o = c.in_ok-journal.ensures.opened in
    let seen = g.D.Disk.seen in
    let j = c.in_ok-journal.journal in
    let given = c.in_ok-journal.bodies in
    let old = seen c.args.disk in
    subst (λ (d : g.row.D.Denot). LeavesOnly old (seen d) (λ x. (a : Areas) × old.may_leave a × GoesOn a x)) (sym c.close.ensures)
    (open_moments old (seen j.disk) (seen c.restore.new.journal.disk) c.in_ok-journal.ensures.goes_on (c.restore.ensures.any_moment c.args.disk o))

pub returns-clause-told : goal.returns-clause-told
returns-clause-told g c =
    let o = c.in_ok-journal.ensures.opened in
    let seen = g.D.Disk.seen in
    let j = c.in_ok-journal.journal in
    let given = c.in_ok-journal.bodies in
    let old = seen c.args.disk in
    subst (λ (d : g.row.D.Denot). Becomes old.told (seen d).told GoesOn) (sym c.close.ensures)
    (open_told old.told (seen j.disk).told (seen c.restore.new.journal.disk).told c.in_ok-journal.ensures.goes_on.told (c.restore.ensures.told c.args.disk o))

pub returns-clause-kept : goal.returns-clause-kept
returns-clause-kept g c =
    let o = c.in_ok-journal.ensures.opened in
    let seen = g.D.Disk.seen in
    let j = c.in_ok-journal.journal in
    let given = c.in_ok-journal.bodies in
    opened_chosen seen c.args.disk j given o c.close.result c.in_ok-journal.ensures.first
    (subst (λ (d : g.row.D.Denot). Changes IsChosenSame (seen j.disk) (seen d)) (sym c.close.ensures) (c.restore.ensures.kept c.args.disk o))

pub returns-clause-fresh : goal.returns-clause-fresh
returns-clause-fresh g c =
    let o = c.in_ok-journal.ensures.opened in
    let seen = g.D.Disk.seen in
    let j = c.in_ok-journal.journal in
    let given = c.in_ok-journal.bodies in
    opened_fresh seen c.args.disk j given o c.close.result
    (λ two. c.close.ensures ∙ ap (λ (k : Journal g.row.D.Denot). k.disk) (c.restore.ensures.still two)) c.in_ok-journal.ensures.goes_on

pub returns-clause-unwritten : goal.returns-clause-unwritten
returns-clause-unwritten g c of =
    let o = c.in_ok-journal.ensures.opened in
    let seen = g.D.Disk.seen in
    let j = c.in_ok-journal.journal in
    let given = c.in_ok-journal.bodies in
    subst (λ (d : g.row.D.Denot). IsQuiet (seen c.args.disk) (seen d)) (sym c.close.ensures)
    (unwritten_so seen c.args.disk j c.restore.new.journal given (c.in-Err.ensures.unread of) c.in_ok-journal.ensures.untouched
    c.in_ok-journal.ensures.first (c.in-Err.ensures.unwritten of))
