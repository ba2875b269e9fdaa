use Rattle.std.proofs.Common.{◌≡◌, ◌-◌, ◌++◌, List, ℕ, length, take, Ok, Err, refl, sym, ◌∙◌, ap, subst}
use Rattle.dc09_frame.specs.Cutting.{WasFed}
use Rattle.dc09_frame.specs.Frames.{bodies}
use Rattle.session_rules.specs.Inputs.{input_limit, in_limit}
use Rattle.line_session.specs.Lines.{LineValue}
use Rattle.line_session.specs.declared.line_end.LineEnd.TheVariants.{Spent}
use Rattle.line_session.proofs.GroupServed.{group_serves_named, group_serves_same}
use Rattle.line_session.proofs.line_state.LineState.take_together.Goals as goal

pub returns-then-room_behind-eq0-clause-served : goal.returns-then-room_behind-eq0-clause-served
returns-then-room_behind-eq0-clause-served g c name stream b h took s =
    let fed = subst (λ (v : LineValue). WasFed stream v.cutter) (sym c.self.view_is) took.fed in
    let named = ap (λ (v : LineValue). v.name) c.self.view_is ∙ took.named in
    let count : c.self.inside.count ≡ length stream = ap (λ (v : LineValue). v.count) c.self.view_is ∙ took.count in
    let bytes = c.up_to-bytes.ensures.value ∙ ap (λ n. take n c.args.piece.now) c.room_behind.ensures ∙ ap (λ n. take (input_limit - n) c.args.piece.now) count in
    group_serves_same name stream b h (Ok tt) (Err Spent) c.up_to-bytes.result.now (in_limit stream c.args.piece.now) refl (ap (λ (l : List ℕ). bodies (stream ++ l)) (sym bytes)) (group_serves_named named (c.in_ok-answer_together.ensures.served stream b h fed s))

pub returns-clause-served : goal.returns-clause-served
returns-clause-served g c name stream b h took s =
    let fed = subst (λ (v : LineValue). WasFed stream v.cutter) (sym c.self.view_is) took.fed in
    let named = ap (λ (v : LineValue). v.name) c.self.view_is ∙ took.named in
    let count : c.self.inside.count ≡ length stream = ap (λ (v : LineValue). v.count) c.self.view_is ∙ took.count in
    let bytes = c.up_to-bytes.ensures.value ∙ ap (λ n. take n c.args.piece.now) c.room_behind.ensures ∙ ap (λ n. take (input_limit - n) c.args.piece.now) count in
    group_serves_same name stream b h (Ok tt) (Ok tt) c.up_to-bytes.result.now (in_limit stream c.args.piece.now) refl (ap (λ (l : List ℕ). bodies (stream ++ l)) (sym bytes)) (group_serves_named named (c.in_ok-answer_together.ensures.served stream b h fed s))
