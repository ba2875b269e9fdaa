use Rattle.std.proofs.Common.{length, sym, ap, subst, arith, length-take}
use Rattle.arc_text.specs.LineCutting.{WasFed}
use Rattle.arc_text.specs.declared.line_cutter.Reach.TheVariants.{Short, Returned, Overlong}
use Rattle.arc_text.proofs.LineCutterLaws.{kept_at, closed_short, closed_full, closed_long}
use Rattle.arc_text.proofs.line_cutter.LineCutter.close.Goals as goal

pub returns-in-Short-clause-feeds : goal.returns-in-Short-clause-feeds
returns-in-Short-clause-feeds c stream fed =
    let inside = c.self.inside in
    let was = kept_at stream inside.bytes inside.limit inside.len inside.reach Short c.in-Short.is (subst (WasFed stream) (sym c.self.view_is) fed) in
    let told = closed_short inside.limit inside.len (length c.stripped.result.now) stream inside.bytes (omega arith) was (ap length c.stripped.ensures) in
    rw c.in-Short.is told

pub returns-in-Returned-clause-feeds : goal.returns-in-Returned-clause-feeds
returns-in-Returned-clause-feeds c stream fed =
    let inside = c.self.inside in
    let was = kept_at stream inside.bytes inside.limit inside.len inside.reach Returned c.in-Returned.is (subst (WasFed stream) (sym c.self.view_is) fed) in
    closed_full inside.limit inside.len stream inside.bytes was (omega (arith, length-take inside.len inside.bytes))

pub returns-in-Overlong-clause-feeds : goal.returns-in-Overlong-clause-feeds
returns-in-Overlong-clause-feeds c stream fed =
    let inside = c.self.inside in
    let was = kept_at stream inside.bytes inside.limit inside.len inside.reach Overlong c.in-Overlong.is (subst (WasFed stream) (sym c.self.view_is) fed) in
    closed_long inside.limit stream was
