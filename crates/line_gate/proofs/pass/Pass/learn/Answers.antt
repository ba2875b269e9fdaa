use Rattle.std.proofs.Common.{List, sym, ap, ◌∙◌, subst}
use Rattle.atomic_table.specs.Table.{Me}
use Rattle.line_gate.specs.Entries.{Entry, Extends}
use Rattle.line_gate.specs.Passes.{PassSeen}
use Rattle.line_gate.specs.declared.view.View.{View}
use Rattle.line_gate.proofs.Carried.{longer_all}
use Rattle.line_gate.proofs.pass.Pass.learn.Goals as goal

pub returns-clause-all : goal.returns-clause-all
returns-clause-all g c = λ t.
    let other : List Entry = c.args.other.me.0.seen in
    let mine : List Entry = c.self.inside.seat.me.0.seen in
    let from : Extends mine other = subst (λ (k : PassSeen). Extends k.since other) (sym c.self.view_is) t in
    ap (λ (m : Me (Unit {0}) View). m.0.seen) c.learn.ensures.pass.1 ∙ longer_all mine other from
