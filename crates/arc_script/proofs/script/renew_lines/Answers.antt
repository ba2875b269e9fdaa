use Rattle.std.proofs.Common.{arith, rules}
use Rattle.arc_script.proofs.Named.{all_new, renewed}
use Rattle.arc_script.proofs.script.renew_lines.Goals as goal

pub loop-place-preserved : goal.loop-place-preserved
loop-place-preserved c = (
  search rules,
  renewed c.loop-place.lines c.loop-place.place c.name_of.result c.renew.new.self c.name_of.ensures.value c.renew.ensures c.loop-place.invariant.1,
)

pub returns : goal.returns
returns c = all_new c.loop-place.lines (λ k within. c.loop-place.invariant.1 k (omega (arith, within)))
