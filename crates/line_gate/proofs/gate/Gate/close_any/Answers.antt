use Rattle.std.proofs.Common.{List, ◌++◌, inl, inr, ⊎_elim, refl, subst}
use Rattle.line_gate.specs.Entries.{Entry, Extends}
use Rattle.line_gate.specs.Passes.{PassSeen}
use Rattle.line_gate.proofs.Carried.{extends_base}
use Rattle.line_gate.proofs.gate.Gate.close_any.Goals as goal

pub returns-clause-stands : goal.returns-clause-stands
returns-clause-stands g c =
    let book : List Entry = c.store.inside.book.me.0.seen in
    let kept = c.store.invariant.kept in
    let seen : Extends c.args.first.since book = subst (λ (k : PassSeen). Extends k.since book) c.first.view_is c.show.ensures.seen in
    ⊎_elim (λ w. inl (λ b base from. (
      book ++ base,
      extends_base c.args.first.since book base seen,
      w.stands b base from,
      record { since = book; is = refl; submitted = kept.of_gate.submitted },
    ))) (λ w. inr w) kept.stands
