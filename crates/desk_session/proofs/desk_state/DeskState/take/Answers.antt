use Rattle.std.proofs.Common.{◌≡◌, ◌-◌, ◌++◌, List, ℕ, length, take, Ok, Err, refl, sym, ◌∙◌, ap, subst}
use Rattle.alarm_rules.specs.Setups.{meaning}
use Rattle.arc_text.specs.Lines.{ended_lines}
use Rattle.session_rules.specs.Inputs.{input_limit, in_limit}
use Rattle.desk_session.specs.Desks.{DeskValue, HasTaken}
use Rattle.desk_session.specs.Events.{up_to_quit}
use Rattle.desk_session.specs.declared.desk_end.DeskEnd.TheVariants.{Spent}
use Rattle.desk_session.proofs.Served.{serves_same}
use Rattle.desk_session.proofs.desk_state.DeskState.take.Goals as goal

pub returns-then-room_behind-eq0-clause-served : goal.returns-then-room_behind-eq0-clause-served
returns-then-room_behind-eq0-clause-served g c stream b h took s =
    let setup = meaning (g.H.Hall.seen c.args.hall.now).text in
    let fed = subst (λ (v : DeskValue). HasTaken setup stream v.cutter v.operator) (sym c.self.view_is) took.taken in
    let count : c.self.inside.count ≡ length stream = ap (λ (v : DeskValue). v.count) c.self.view_is ∙ took.count in
    let bytes = c.up_to-bytes.ensures.value ∙ ap (λ n. take n c.args.piece.now) c.room_behind.ensures ∙ ap (λ n. take (input_limit - n) c.args.piece.now) count in
    serves_same (ended_lines stream) b h (Ok tt) (Err Spent) (ended_lines (stream ++ c.up_to-bytes.result.now)) (ended_lines (stream ++ in_limit stream c.args.piece.now)) refl
    (ap (λ (l : List ℕ). up_to_quit (ended_lines (stream ++ l))) (sym bytes)) (c.in_ok-answer_ended.ensures.served stream b h fed s)

pub returns-clause-served : goal.returns-clause-served
returns-clause-served g c stream b h took s =
    let setup = meaning (g.H.Hall.seen c.args.hall.now).text in
    let fed = subst (λ (v : DeskValue). HasTaken setup stream v.cutter v.operator) (sym c.self.view_is) took.taken in
    let count : c.self.inside.count ≡ length stream = ap (λ (v : DeskValue). v.count) c.self.view_is ∙ took.count in
    let bytes = c.up_to-bytes.ensures.value ∙ ap (λ n. take n c.args.piece.now) c.room_behind.ensures ∙ ap (λ n. take (input_limit - n) c.args.piece.now) count in
    serves_same (ended_lines stream) b h (Ok tt) (Ok tt) (ended_lines (stream ++ c.up_to-bytes.result.now)) (ended_lines (stream ++ in_limit stream c.args.piece.now)) refl
    (ap (λ (l : List ℕ). up_to_quit (ended_lines (stream ++ l))) (sym bytes)) (c.in_ok-answer_ended.ensures.served stream b h fed s)
