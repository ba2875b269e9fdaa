use Rattle.std.proofs.Common.{◌≡◌, ◌+◌, ◌-◌, ◌++◌, ℕ, List, length, take, sym, ◌∙◌, ap, subst, arith, length-take}
use Rattle.std.proofs.lemmas.Bool.{eqb-false}
use Rattle.std.proofs.lemmas.Slice.{take-put_mid}
use borrow.Rule.Slice.PartMut.{put_mid}
use Rattle.arc_text.specs.LineCutting.{WasFed, kept_of}
use Rattle.arc_text.specs.LineHolding.{kept_in, reached}
use Rattle.arc_text.specs.Lines.{rest_of}
use Rattle.arc_text.specs.declared.line_cutter.Reach.TheVariants.{Short, Returned, Overlong}
use Rattle.arc_text.proofs.LineCutterLaws.{kept_at, short_after, full_after, long_after}
use Rattle.arc_text.proofs.line_cutter.LineCutter.keep.Goals as goal

pub returns-in-Short-clause-fed : goal.returns-in-Short-clause-fed
returns-in-Short-clause-fed c stream fed =
    let inside = c.self.inside in
    let was = kept_at stream inside.bytes inside.limit inside.len inside.reach Short c.in-Short.is (subst (WasFed stream) (sym c.self.view_is) fed) in
    let n : ℕ = c.min.result in
    let run : List ℕ = c.args.run.now in
    let end : ℕ = inside.len + length c.split_at.result.0.now in
    let field : List ℕ = put_mid inside.len (end - inside.len) inside.bytes c.copy_from_slice.new.self in
    let put : take end field ≡ take inside.len inside.bytes ++ take n run =
    take-put_mid inside.len (end - inside.len) inside.bytes c.copy_from_slice.new.self end (omega (arith, ap length c.copy_from_slice.ensures.after)) (omega arith)
    ∙ ap (λ (l : List ℕ). take inside.len inside.bytes ++ l) (c.copy_from_slice.ensures.after ∙ c.split_at.ensures.front) in
    ap (λ r. kept_in r end field) (c.reached-self-inside.ensures ∙ ap reached c.split_at.ensures.back)
    ∙ short_after inside.limit n inside.len end stream inside.bytes field run was (omega (arith, c.min.ensures, length-take inside.len inside.bytes)) put c.requires

pub returns-in-Returned-2-clause-fed : goal.returns-in-Returned-2-clause-fed
returns-in-Returned-2-clause-fed c stream fed =
    let inside = c.self.inside in
    let was = kept_at stream inside.bytes inside.limit inside.len inside.reach Returned c.in-Returned.is (subst (WasFed stream) (sym c.self.view_is) fed) in
    full_after inside.limit stream (take inside.len inside.bytes) c.args.run.now was (λ none. eqb-false (length c.args.run.now) 0 (sym c.is_empty.ensures ∙ c.if-is_empty.false) (ap length none)) c.requires

pub returns-in-Overlong-clause-fed : goal.returns-in-Overlong-clause-fed
returns-in-Overlong-clause-fed c stream fed =
    let inside = c.self.inside in
    let held = kept_at stream inside.bytes inside.limit inside.len inside.reach Overlong c.in-Overlong.is (subst (WasFed stream) (sym c.self.view_is) fed) in
    let after : kept_in inside.reach inside.len inside.bytes ≡ kept_of inside.limit (rest_of (stream ++ c.args.run.now)) =
    ap (λ r. kept_in r inside.len inside.bytes) c.in-Overlong.is ∙ long_after inside.limit stream c.args.run.now held c.requires in
    subst (WasFed (stream ++ c.args.run.now)) c.self.view_is after
