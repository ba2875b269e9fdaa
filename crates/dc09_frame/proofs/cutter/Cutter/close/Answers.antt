use Rattle.std.proofs.Common.{◌≡◌, sym, ◌∙◌, ap}
use Rattle.dc09_frame.specs.Cutting.{CutterValue}
use Rattle.dc09_frame.specs.Holding.{kept_in, cut_of_kept}
use Rattle.dc09_frame.proofs.BodyLaws.{held_body}
use Rattle.dc09_frame.proofs.CutterLaws.{returned_outside, returned}
use Rattle.dc09_frame.proofs.cutter.Cutter.close.Goals as goal

pub returns-in_err-cut-clause-feeds : goal.returns-in_err-cut-clause-feeds
returns-in_err-cut-clause-feeds c stream fed = rw c.from_residual.ensures (returned_outside stream c.args.self.now (sym c.in_err-cut.was ∙ c.cut.ensures) fed)

pub returns-clause-feeds : goal.returns-clause-feeds
returns-clause-feeds c stream fed =
    let inside = c.self.inside in
    let held : kept_in inside.piece inside.len inside.bytes ≡ c.args.self.now.kept = ap (λ (v : CutterValue). v.kept) c.self.view_is in
    returned stream inside.bytes inside.piece inside.len c.in_ok-cut.cut (sym c.in_ok-cut.was ∙ c.cut.ensures ∙ ap cut_of_kept (sym held)) (held ∙ fed)

pub returns-clause-body : goal.returns-clause-body
returns-clause-body c is =
    let inside = c.self.inside in
    let held : kept_in inside.piece inside.len inside.bytes ≡ c.args.self.now.kept = ap (λ (v : CutterValue). v.kept) c.self.view_is in
    held_body inside.piece inside.len inside.bytes c.in_ok-cut.cut c.self.invariant (ap cut_of_kept held ∙ sym c.cut.ensures ∙ c.in_ok-cut.was) (cc)
