use Rattle.std.proofs.Common.{◌∙◌, arith}
use Rattle.accounts.proofs.NamedLemmas.{number-found, number-outside, number-none}
use Rattle.accounts.proofs.spelled.number_between.Goals as goal
use Rattle.accounts.proofs.spelled.number_between.Goals.{else-low-number-via-then-low-number+else-number-high, else-low-number-via-else-low-number}

pub returns-in_err-number-clause-value : goal.returns-in_err-number-clause-value
returns-in_err-number-clause-value c =
    c.from_residual.ensures ∙ number-none c.args.low c.args.high c.args.word.now (omega arith) c.in_err-number.ensures.none

pub returns-then-number-high-clause-value : goal.returns-then-number-high-clause-value
returns-then-number-high-clause-value c =
    number-found c.args.low c.args.high c.args.word.now (omega arith) c.in_ok-number.number c.in_ok-number.ensures.some (omega arith) (omega arith)

pub returns-else-low-number-clause-value : goal.returns-else-low-number-clause-value
returns-else-low-number-clause-value c =
    number-outside c.args.low c.args.high c.args.word.now (omega arith) c.in_ok-number.number c.in_ok-number.ensures.some (omega arith) (λ above below. elim c.else-low-number.branch [
      | else-low-number-via-then-low-number+else-number-high w ↦ omega arith
      | else-low-number-via-else-low-number w ↦ omega arith
    ])
