use Rattle.std.proofs.Common.{◌≡◌, [], take, sym, ◌∙◌, ap, subst, arith, length-take}
use Rattle.arc_text.specs.LineCutting.{WasFed, LineCutterValue, Within}
use Rattle.arc_text.specs.LineHolding.{kept_in}
use Rattle.arc_text.specs.declared.line_cutter.Reach.TheVariants.{Short}
use Rattle.arc_text.proofs.LineCutterLaws.{kept_at, finished_none, finished_short, finished_over}
use Rattle.arc_text.proofs.line_cutter.LineCutter.finish.Goals as goal

pub returns-in-Short-eq0-clause-finishes : goal.returns-in-Short-eq0-clause-finishes
returns-in-Short-eq0-clause-finishes c stream fed =
    let inside = c.self.inside in
    let empty : Within [] ≡ kept_in inside.reach inside.len inside.bytes =
    ap (λ n. Within (take n inside.bytes)) (sym c.in-Short-eq0.is-1) ∙ ap (λ r. kept_in r inside.len inside.bytes) (sym c.in-Short-eq0.is-0) in
    finished_none stream c.args.self.now (empty ∙ ap (λ (v : LineCutterValue). v.kept) c.self.view_is) fed

pub returns-in-Short-default-clause-finishes : goal.returns-in-Short-default-clause-finishes
returns-in-Short-default-clause-finishes c stream fed =
    let inside = c.self.inside in
    let was = kept_at stream inside.bytes inside.limit inside.len inside.reach Short c.in-Short-default.is-0 (subst (WasFed stream) (sym c.self.view_is) fed) in
    let told = finished_short inside.limit stream (take inside.len inside.bytes) (omega (arith, length-take inside.len inside.bytes, c.in-Short-default.is-1.1)) was in
    rw c.in-Short-default.is-0 told

pub returns-in_default-clause-finishes : goal.returns-in_default-clause-finishes
returns-in_default-clause-finishes c stream fed =
    let inside = c.self.inside in
    finished_over inside.limit inside.len stream inside.bytes inside.reach c.in_default.not-Short-0 (subst (WasFed stream) (sym c.self.view_is) fed)
