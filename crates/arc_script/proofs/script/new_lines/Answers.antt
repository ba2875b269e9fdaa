use Rattle.std.proofs.Common.{◌≡◌, ◌+◌, ap, arith, length, rules, subst, sym, ◌∙◌}
use Rattle.arc_script.specs.Feeding.{AreNew}
use Rattle.arc_script.specs.Names.{line_name}
use Rattle.arc_script.proofs.Named.{new_more}
use Rattle.arc_script.proofs.script.new_lines.Goals as goal

pub loop-lines-preserved : goal.loop-lines-preserved
loop-lines-preserved c =
    let lines = c.loop-lines.lines.items in
    let count : c.len-in-loop-lines.result ≡ length lines = omega arith in (
      search rules,
      subst AreNew (sym c.in-Ok.ensures.items)
          (new_more lines c.name_of-name.result c.new.result c.loop-lines.invariant.1
          (c.name_of-name.ensures.value ∙ ap (λ n. line_name (n + 1)) count) c.new.ensures),
    )
