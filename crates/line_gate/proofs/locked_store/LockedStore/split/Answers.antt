use Rattle.std.proofs.Common.{◌≡◌, ◌+◌, List, sym, ap, ◌∙◌, subst, arith}
use Rattle.atomic_table.specs.Table.{Me}
use Rattle.line_gate.specs.Entries.{Entry, Extends}
use Rattle.line_gate.specs.Passes.{IsSeated}
use Rattle.line_gate.specs.UnderLock.{UnderLock}
use Rattle.line_gate.specs.declared.view.View.{View}
use Rattle.line_gate.proofs.Carried.{later_further, pass_from, new_seated}
use Rattle.line_gate.proofs.locked_store.LockedStore.split.Given.{Over}
use Rattle.line_gate.proofs.locked_store.LockedStore.split.Goals as goal

seated : (g : Over) (c : goal.After-learn g) → IsSeated g.N.GateName.terms c.self.inside.count c.new_pass-seat.result.table_id c.new_pass-seat.result.me
seated g c =
    let i = c.self.invariant in
    let n = c.new_pass-seat.ensures in
    new_seated g.N.GateName.terms c.self.inside.count _ _ c.new_pass-seat.result.me c.self.inside.book.me n.pass.1 n.pass.0 i.seat.table_is i.count_is n.own i.kept.of_gate

pub invariant_of-result : goal.invariant_of-result
invariant_of-result g c = seated g c

pub returns-clause-later : goal.returns-clause-later
returns-clause-later g c = later_further _ _ _ c.meet.ensures.later c.learn.ensures.later

pub returns-clause-new : goal.returns-clause-new
returns-clause-new g c =
    let m = c.meet.ensures in
    let i = c.self.invariant in
    let n = c.new_pass-seat.ensures in
    let e = n.pass.1 in
    let same : c.meet.new.pass.since ≡ c.new_pass-seat.result.me.0.seen = m.since ∙ ap (λ (h : UnderLock _). h.book.seen) (sym c.self.view_is) ∙ sym (ap (λ (k : Me (Unit {0}) View). k.0.seen) e) in
    let count : c.meet.new.pass.count ≡ c.self.inside.count = m.count ∙ ap (λ (h : UnderLock _). h.book.count) (sym c.self.view_is) ∙ i.count_is in
    let back : c.note-back.result.me.0.count ≡ c.self.inside.book.me.0.count + 1 = ap (λ (k : Me (Unit {0}) View). k.0.count) c.note-back.ensures.note.1 ∙ ap (λ (k : Me (Unit {0}) View). k.0.count) n.book.1 in (
      pass_from g.N.GateName.terms c.self.inside.count c.new_pass-seat.result.table_id c.new_pass-seat.result.me (seated g c),
      ap (λ (k : Me (Unit {0}) View). k.0.made) e,
      subst (λ (l : List Entry). Extends c.args.pass.now.since l) same m.later.since,
      (let le = m.later.count in omega arith),
      (let l = c.learn.ensures.count in let k = i.count_is in omega arith),
    )
