use Rattle.std.proofs.Common.{◌≡◌, ◌+◌, ◌∷◌, ◌++◌, [], ℕ, List, take, Ok, Err, refl, sym, ◌∙◌, ap, subst, append-nil, arith}
use Rattle.std.specs.Prelude.{Bool, true, false, IsTrue}
use Rattle.std.proofs.lemmas.List.{take_rest}
use Rattle.std.proofs.lemmas.Result.{err_from_is_err_and}
use Rattle.arc_io.proofs.Frames.{answers_none, answers_more, unfailed}
use Rattle.dc09_frame.specs.Cutting.{WasFed, Feeds, body_told}
use Rattle.dc09_frame.specs.Frames.{bodies}
use Rattle.session_rules.proofs.Keeping.{kept_more, kept_self}
use Rattle.line_session.proofs.Fed.{fed_more, told_none, told_one, bodies_behind}
use Rattle.line_session.proofs.Served.{serves_none, serves_same, serves_more, serves_wider, early_err}
use Rattle.line_session.proofs.pieces.Pieces.answer_whole.Goals as goal

clash : (b : Bool) → IsTrue b → b ≡ false → ⊥
clash true h is = absurd (cc)
clash false h is = absurd (cc)

pub loop-at-init : goal.loop-at-init
loop-at-init g c = record {
  within = omega arith;
  kept = kept_self (g.H.Hall.seen c.args.hall.now) c.requires.ready;
  fed = λ stream fed. subst (λ (s : List ℕ). WasFed s c.args.self.now.cutter) (sym (append-nil stream)) fed;
  served = λ stream b h fed s. serves_none c.args.name.now stream b h (g.H.Hall.seen c.args.hall.now) (g.P.Ends.seen c.args.port.now) s (g.met.H.Hall.legal c.args.hall.now b h s);
  port = answers_none ⊥ (g.P.Ends.seen c.args.port.now) (λ f. f);
}

pub loop-at-preserved : goal.loop-at-preserved
loop-at-preserved g c =
    let bytes = c.args.bytes.now in
    let at = c.loop-at.at in
    let n = c.feed-count.result.0 in
    let told = c.feed-count.result.1 in
    let cutter = c.feed-count.new.self in
    let old = c.loop-at.invariant in
    let fed_by = λ (stream : List ℕ) (fed : WasFed stream c.args.self.now.cutter). fed_more stream bytes at n told cutter (subst (λ (p : List ℕ). Feeds (stream ++ take at bytes) (take n p) told cutter) (take_rest bytes at) (c.feed-count.ensures.feeds (stream ++ take at bytes) (old.fed stream fed))) in
    let none : body_told told cutter ≡ [] = told_none told cutter (λ e. clash c.is_whole.result (c.is_whole.ensures.1 e) c.if-is_whole.false) in
    record {
      within = omega (arith, c.feed-count.ensures.count);
      kept = old.kept;
      fed = λ stream fed. (fed_by stream fed).fed;
      served = λ stream b h fed s. serves_same c.args.name.now stream b h (Ok tt) (Ok tt) (take at bytes) (take (at + n) bytes) refl
          ((fed_by stream fed).added ∙ ap (λ (l : List (List ℕ)). bodies (stream ++ take at bytes) ++ l) none ∙ append-nil (bodies (stream ++ take at bytes))) (old.served stream b h fed s);
      port = old.port;
    }

pub loop-at-preserved-in-Continue-1 : goal.loop-at-preserved-in-Continue-1
loop-at-preserved-in-Continue-1 g c =
    let bytes = c.args.bytes.now in
    let at = c.loop-at.at in
    let n = c.feed-count.result.0 in
    let told = c.feed-count.result.1 in
    let cutter = c.feed-count.new.self in
    let body = c.body.result.now in
    let old = c.loop-at.invariant in
    let fed_by = λ (stream : List ℕ) (fed : WasFed stream c.args.self.now.cutter). fed_more stream bytes at n told cutter (subst (λ (p : List ℕ). Feeds (stream ++ take at bytes) (take n p) told cutter) (take_rest bytes at) (c.feed-count.ensures.feeds (stream ++ take at bytes) (old.fed stream fed))) in
    let one : body_told told cutter ≡ body ∷ [] = told_one told cutter (c.is_whole.ensures.0 c.if-is_whole.true) ∙ ap (λ (l : List ℕ). l ∷ []) (sym c.body.ensures) in
    record {
      within = omega (arith, c.feed-count.ensures.count);
      kept = kept_more old.kept c.in_ok-answer.ensures.kept;
      fed = λ stream fed. (fed_by stream fed).fed;
      served = λ stream b h fed s. serves_more c.args.name.now stream b h (Ok tt) (take at bytes) (take (at + n) bytes) body old.kept
          ((fed_by stream fed).added ∙ ap (λ (l : List (List ℕ)). bodies (stream ++ take at bytes) ++ l) one) (old.served stream b h fed s) (c.in_ok-answer.ensures.session b);
      port = answers_more old.port (unfailed c.in_ok-answer.ensures.port);
    }

pub returns-in_err-answer-clause-served : goal.returns-in_err-answer-clause-served
returns-in_err-answer-clause-served g c stream b h fed s =
    let bytes = c.args.bytes.now in
    let at = c.loop-at.at in
    let n = c.feed-count.result.0 in
    let told = c.feed-count.result.1 in
    let cutter = c.feed-count.new.self in
    let body = c.body.result.now in
    let old = c.loop-at.invariant in
    let f = fed_more stream bytes at n told cutter (subst (λ (p : List ℕ). Feeds (stream ++ take at bytes) (take n p) told cutter) (take_rest bytes at) (c.feed-count.ensures.feeds (stream ++ take at bytes) (old.fed stream fed))) in
    let one : body_told told cutter ≡ body ∷ [] = told_one told cutter (c.is_whole.ensures.0 c.if-is_whole.true) ∙ ap (λ (l : List ℕ). l ∷ []) (sym c.body.ensures) in
    let behind = bodies_behind stream bytes (at + n) in
    let p = err_from_is_err_and c.from_residual.result c.from_residual.ensures.1 in
    let end = c.in_err-answer.field-0.0 in
    let same : c.from_residual.result ≡ Err end = p.1 ∙ ap Err p.2 in
    rw same
    (serves_wider c.args.name.now stream b h (Err end) (take (at + n) bytes) bytes behind.0 (early_err end c.in_err-answer.ensures.ends) behind.1
    (serves_more c.args.name.now stream b h (Err end) (take at bytes) (take (at + n) bytes) body old.kept
    (f.added ∙ ap (λ (l : List (List ℕ)). bodies (stream ++ take at bytes) ++ l) one) (old.served stream b h fed s) (c.in_err-answer.ensures.session b)))
