use Rattle.std.proofs.Common.{List, length, rules, subst, sym}
use Rattle.std.specs.List.{AllWithin}
use Rattle.std.proofs.lemmas.List.Elements.{AllWithin-push}
use Rattle.desk_session.specs.Desks.{DeskValue}
use Rattle.arc_script.specs.Playing.{IsNewDesk}
use Rattle.arc_script.proofs.script.new_desks.Goals as goal

pub loop-desks-preserved : goal.loop-desks-preserved
loop-desks-preserved c = (
  search rules,
  subst (λ (xs : List DeskValue). AllWithin IsNewDesk xs 0 (length xs)) (sym c.in-Ok.ensures.items)
      (AllWithin-push IsNewDesk c.loop-desks.desks.items c.new_desk.result c.loop-desks.invariant.1 c.new_desk.ensures),
)
