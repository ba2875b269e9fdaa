use Rattle.std.proofs.Common.{◌≡◌, ◌+◌, ◌∷◌, ◌++◌, [], ℕ, List, take, Err, sym, ◌∙◌, ap, subst, append-nil, arith}
use Rattle.std.specs.Prelude.{Bool, true, false, IsTrue}
use Rattle.std.proofs.lemmas.List.{take_rest, take_all}
use Rattle.std.proofs.lemmas.List.Elements.{All-nil}
use Rattle.std.proofs.lemmas.Result.{err_from_is_err_and}
use Rattle.alarm_rules.specs.Setups.{meaning}
use Rattle.arc_io.proofs.Frames.{answers_none, answers_more, unfailed}
use Rattle.dc09_frame.specs.Cutting.{WasFed, Feeds, body_told}
use Rattle.dc09_frame.specs.Frames.{bodies}
use Rattle.session_rules.proofs.Keeping.{kept_more, kept_self}
use Rattle.line_session.specs.Dues.{IsDueUnder}
use Rattle.line_session.proofs.Fed.{fed_more, told_none, told_one, bodies_behind}
use Rattle.line_session.proofs.GroupServed.{holds_none, holds_same, holds_more, serves_ended, serves_all_held, group_serves_all}
use Rattle.line_session.proofs.pieces.Pieces.answer_together.Goals as goal

clash : (b : Bool) → IsTrue b → b ≡ false → ⊥
clash true h is = absurd (cc)
clash false h is = absurd (cc)

pub loop-at-init : goal.loop-at-init
loop-at-init g c = record {
  within = omega arith;
  kept = kept_self (g.H.Hall.seen c.args.hall.now) c.requires.ready;
  dues = rw c.new-waiting.ensures.1 (All-nil (IsDueUnder (meaning (g.H.Hall.seen c.args.hall.now).text)));
  fed = λ stream fed. subst (λ (s : List ℕ). WasFed s c.args.self.now.cutter) (sym (append-nil stream)) fed;
  held = λ stream b h fed s. holds_none c.args.name.now stream b h (g.H.Hall.seen c.args.hall.now) (g.P.Ends.seen c.args.port.now) c.new-waiting.result c.new-waiting.ensures.0 c.new-waiting.ensures.1
      c.requires.ready s (g.met.H.Hall.legal c.args.hall.now b h s);
  port = answers_none ⊥ (g.P.Ends.seen c.args.port.now) (λ f. f);
}

pub loop-at-preserved : goal.loop-at-preserved
loop-at-preserved g c =
    let bytes = c.args.bytes.now in
    let at = c.loop-at.at in
    let n = c.feed-count.result.0 in
    let told = c.feed-count.result.1 in
    let cutter = c.feed-count.new.self in
    let old = c.loop-at.invariant in
    let fed_by = λ (stream : List ℕ) (fed : WasFed stream c.args.self.now.cutter). fed_more stream bytes at n told cutter (subst (λ (p : List ℕ). Feeds (stream ++ take at bytes) (take n p) told cutter) (take_rest bytes at) (c.feed-count.ensures.feeds (stream ++ take at bytes) (old.fed stream fed))) in
    let none : body_told told cutter ≡ [] = told_none told cutter (λ e. clash c.is_whole.result (c.is_whole.ensures.1 e) c.if-is_whole.false) in
    record {
      within = omega (arith, c.feed-count.ensures.count);
      kept = old.kept;
      dues = old.dues;
      fed = λ stream fed. (fed_by stream fed).fed;
      held = λ stream b h fed s. holds_same c.args.name.now stream b h (take at bytes) (take (at + n) bytes)
          ((fed_by stream fed).added ∙ ap (λ (l : List (List ℕ)). bodies (stream ++ take at bytes) ++ l) none ∙ append-nil (bodies (stream ++ take at bytes))) (old.held stream b h fed s);
      port = old.port;
    }

pub loop-at-preserved-in-Continue-1 : goal.loop-at-preserved-in-Continue-1
loop-at-preserved-in-Continue-1 g c =
    let bytes = c.args.bytes.now in
    let at = c.loop-at.at in
    let n = c.feed-count.result.0 in
    let told = c.feed-count.result.1 in
    let cutter = c.feed-count.new.self in
    let body = c.body.result.now in
    let old = c.loop-at.invariant in
    let fed_by = λ (stream : List ℕ) (fed : WasFed stream c.args.self.now.cutter). fed_more stream bytes at n told cutter (subst (λ (p : List ℕ). Feeds (stream ++ take at bytes) (take n p) told cutter) (take_rest bytes at) (c.feed-count.ensures.feeds (stream ++ take at bytes) (old.fed stream fed))) in
    let one : body_told told cutter ≡ body ∷ [] = told_one told cutter (c.is_whole.ensures.0 c.if-is_whole.true) ∙ ap (λ (l : List ℕ). l ∷ []) (sym c.body.ensures) in
    record {
      within = omega (arith, c.feed-count.ensures.count);
      kept = kept_more old.kept c.in_ok-take.ensures.kept;
      dues = c.in_ok-take.ensures.dues;
      fed = λ stream fed. (fed_by stream fed).fed;
      held = λ stream b h fed s.
          let held = old.held stream b h fed s in
          holds_more c.args.name.now stream b h (take at bytes) (take (at + n) bytes) body
          ((fed_by stream fed).added ∙ ap (λ (l : List (List ℕ)). bodies (stream ++ take at bytes) ++ l) one) held
          (c.in_ok-take.ensures.takes b h held.some held.asked c.args.hall.now c.args.port.now held.held);
      port = answers_more old.port (unfailed c.in_ok-take.ensures.port);
    }

pub returns-in_err-take-clause-served : goal.returns-in_err-take-clause-served
returns-in_err-take-clause-served g c stream b h fed s =
    let bytes = c.args.bytes.now in
    let at = c.loop-at.at in
    let n = c.feed-count.result.0 in
    let told = c.feed-count.result.1 in
    let cutter = c.feed-count.new.self in
    let body = c.body.result.now in
    let old = c.loop-at.invariant in
    let f = fed_more stream bytes at n told cutter (subst (λ (p : List ℕ). Feeds (stream ++ take at bytes) (take n p) told cutter) (take_rest bytes at) (c.feed-count.ensures.feeds (stream ++ take at bytes) (old.fed stream fed))) in
    let one : body_told told cutter ≡ body ∷ [] = told_one told cutter (c.is_whole.ensures.0 c.if-is_whole.true) ∙ ap (λ (l : List ℕ). l ∷ []) (sym c.body.ensures) in
    let behind = bodies_behind stream bytes (at + n) in
    let p = err_from_is_err_and c.from_residual.result c.from_residual.ensures.1 in
    let end = c.in_err-take.field-0.0 in
    let same : c.from_residual.result ≡ Err end = p.1 ∙ ap Err p.2 in
    let held = old.held stream b h fed s in
    rw same
    (serves_ended c.args.name.now stream b h (take at bytes) (take (at + n) bytes) bytes body behind.0 c.take.new.self end c.in_err-take.ensures.ends
    (f.added ∙ ap (λ (l : List (List ℕ)). bodies (stream ++ take at bytes) ++ l) one) behind.1 held
    (c.in_err-take.ensures.takes b h held.some held.asked c.args.hall.now c.args.port.now held.held))

pub returns-clause-served : goal.returns-clause-served
returns-clause-served g c stream b h fed s =
    let old = c.loop-at.invariant in
    let held = old.held stream b h fed s in
    let all = take_all c.loop-at.at c.args.bytes.now (let past = c.loop-at-test.false in omega (arith, past)) in
    group_serves_all c.args.name.now c.answer.result stream c.args.bytes.now b h all
    (serves_all_held c.args.name.now stream b h (take c.loop-at.at c.args.bytes.now) _ c.answer.result held (c.answer.ensures.answers c.args.name.now b h held.some held.asked [] c.args.hall.now c.args.port.now held.held))
