use Rattle.std.proofs.Common.{sym, ◌∙◌, arith}
use Rattle.std.proofs.lemmas.Slice.Eq.{bytes_eq-Decides}
use Rattle.accounts.proofs.NamedLemmas.{minute-found, minute-outside, minute-none}
use Rattle.accounts.proofs.named.minute.Goals as goal
use Rattle.accounts.proofs.named.minute.Goals.{else-minute-last-via-then-minute-last+else-eq, else-minute-last-via-else-minute-last}

pub returns-in_err-minute-clause-value : goal.returns-in_err-minute-clause-value
returns-in_err-minute-clause-value c =
    c.from_residual.ensures ∙ minute-none c.args.last c.args.word.now c.candidate.result c.requires c.candidate.ensures c.in_err-minute.was

pub returns-then-eq-clause-value : goal.returns-then-eq-clause-value
returns-then-eq-clause-value c =
    let same = (bytes_eq-Decides c.as_slice.result.now c.args.word.now).0 (sym c.eq.ensures ∙ c.if-eq.true) in
    minute-found c.args.last c.args.word.now c.candidate.result c.requires c.candidate.ensures c.in_ok-minute.minute c.in_ok-minute.was
    c.if-minute-last.true (sym same ∙ c.as_slice.ensures ∙ c.time_text.ensures)

pub returns-else-minute-last-clause-value : goal.returns-else-minute-last-clause-value
returns-else-minute-last-clause-value c =
    minute-outside c.args.last c.args.word.now c.candidate.result c.requires c.candidate.ensures c.in_ok-minute.minute c.in_ok-minute.was
    (λ below is. elim c.else-minute-last.branch [
      | else-minute-last-via-then-minute-last+else-eq w ↦
          let same = (bytes_eq-Decides w.as_slice.result.now c.args.word.now).1 (w.as_slice.ensures ∙ w.time_text.ensures ∙ sym is) in
          let other = sym w.eq.ensures ∙ w.if-eq.false in
          cc
      | else-minute-last-via-else-minute-last w ↦ omega arith
    ])
