use Rattle.std.proofs.Common.{◌∙◌, sym, arith}
use Rattle.desk_said.proofs.Counts.{count_found, count_none}
use Rattle.desk_said.proofs.names.count.Goals as goal

pub returns-in_err-count : goal.returns-in_err-count
returns-in_err-count c = c.from_residual.ensures ∙ sym (count_none c.args.word.now (λ n small is. c.in_err-count.ensures.none n small is))

pub returns : goal.returns
returns c = sym (count_found c.args.word.now c.in_ok-count.count c.in_ok-count.ensures.some (omega arith))
