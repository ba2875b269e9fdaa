use Rattle.std.proofs.Common.{◌≡◌, ◌∙◌, ap, sym, subst, take, length, arith}
use Rattle.std.specs.Prelude.{IfSome}
use Rattle.std.specs.Io.KnownBytes.{prepend_known}
use Rattle.disk_journal.specs.Faults.{IsShown, IsOfFront}
use Rattle.disk_journal.specs.Records.{head_of, IsVersion}
use Rattle.disk_journal.specs.declared.fault.OpenFault.{OpenFault}
use Rattle.arc_book.specs.Tapes.{ahead}
use Rattle.arc_book.proofs.Fronts.{front_refused, front_read, long_front}
use Rattle.arc_book.proofs.tape.Tape.open.Goals as goal

pub returns-in-Err-clause-refused : goal.returns-in-Err-clause-refused
returns-in-Err-clause-refused g c fault same =
    let all = ahead c.args.self.now.intake (g.S.Ends.seen c.args.source.now).left in
    let left = (g.S.Ends.seen c.more.new.source).left in
    let body = c.fill.new.out.items in
    let full = c.in_ok-fill.ensures.full c.if-not-branch.false in
    let long : length body ≡ 17 = omega (arith, ap length c.deref.ensures.value, c.deref.ensures.len, full.1) in
    let is = full.0 ∙ ap (prepend_known body) (sym c.more.ensures.same) in
    let some = c.in_ok-more.ensures.some c.if-not-branch-2.false in
    let fault_is : c.in-Err.fault ≡ fault = cc in
    subst (λ (f : OpenFault). IsOfFront f × IfSome all (IsShown f)) fault_is (
      c.in-Err.ensures.front,
      front_refused all left body c.more.new.self c.copy_from_slice.new.self c.in-Err.fault is long some.0
          (c.copy_from_slice.ensures.after ∙ ap (take 16) c.deref.ensures.value) c.in-Err.ensures.shown,
    )

pub returns-in-Ok-clause-journal : goal.returns-in-Ok-clause-journal
returns-in-Ok-clause-journal g c version same =
    let all = ahead c.args.self.now.intake (g.S.Ends.seen c.args.source.now).left in
    let left = (g.S.Ends.seen c.more.new.source).left in
    let body = c.fill.new.out.items in
    let full = c.in_ok-fill.ensures.full c.if-not-branch.false in
    let long : length body ≡ 17 = omega (arith, ap length c.deref.ensures.value, c.deref.ensures.len, full.1) in
    let is = full.0 ∙ ap (prepend_known body) (sym c.more.ensures.same) in
    let some = c.in_ok-more.ensures.some c.if-not-branch-2.false in
    let version_is : c.in-Ok.version ≡ version = cc in (
      some.1,
      front_read version all (ahead c.more.new.self left) body c.copy_from_slice.new.self c.index.result.now c.index.result.now (subst IsVersion version_is c.in-Ok.ensures.known) is long (c.copy_from_slice.ensures.after ∙ ap (take 16) c.deref.ensures.value)
          (c.in-Ok.ensures.head ∙ ap head_of version_is) c.index.ensures (long_front all left body c.more.new.self is long some.0),
    )
