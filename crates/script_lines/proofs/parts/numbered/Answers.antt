use Rattle.std.proofs.Common.{sym, ◌∙◌, arith, inl, inr}
use Rattle.script_lines.proofs.Spellings.{no_space, no_digits, other_number, good_number}
use Rattle.script_lines.proofs.parts.numbered.Goals as goal
use Rattle.script_lines.proofs.parts.numbered.Goals.{then-number-eq0-via-then-number-eq0, then-number-eq0-via-else-number-eq0+then-number-most}

pub returns-in_err-space : goal.returns-in_err-space
returns-in_err-space c = rw c.from_residual.ensures (no_space c.args.most c.args.bytes.now c.requires (sym c.space.ensures ∙ c.in_err-space.was))

pub returns-in_err-number : goal.returns-in_err-number
returns-in_err-number c =
    rw c.from_residual-in_err-number.ensures (no_digits c.args.most c.args.bytes.now c.in_ok-space.space c.requires (sym c.space.ensures ∙ c.in_ok-space.was)
    (λ n small is. c.in_err-number.ensures.none n small is))

pub returns-then-number-eq0 : goal.returns-then-number-eq0
returns-then-number-eq0 c =
    other_number c.args.most c.args.bytes.now c.in_ok-space.space c.in_ok-number.number c.requires (sym c.space.ensures ∙ c.in_ok-space.was)
    (omega arith) c.in_ok-number.ensures.some (λ is. elim c.then-number-eq0.either [
      | inl none ↦ omega (arith, none, is.low)
      | inr over ↦ omega (arith, over.1, is.high)
    ])

pub returns : goal.returns
returns c =
    good_number c.args.most c.args.bytes.now c.in_ok-space.space c.in_ok-number.number (sym c.space.ensures ∙ c.in_ok-space.was) c.in_ok-number.ensures.some
    c.if-number-eq0.false c.if-number-most.false
