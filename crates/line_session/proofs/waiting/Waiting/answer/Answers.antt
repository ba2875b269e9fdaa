use Rattle.std.proofs.Common.{◌≡◌, ◌++◌, [], List, All, Ok, Err, ◌∙◌, ap, subst, arith}
use Rattle.std.proofs.lemmas.Result.{err_from_is_err_and}
use Rattle.alarm_rules.specs.Setups.{meaning}
use Rattle.arc_io.proofs.Frames.{answers_more, unfailed}
use Rattle.session_rules.proofs.Keeping.{kept_more, kept_self}
use Rattle.line_session.specs.Dues.{Asked, IsDueUnder, bodies_in}
use Rattle.line_session.specs.declared.line_end.LineEnd.TheVariants.{WriteFault}
use Rattle.line_session.proofs.Answered.{goes_on, cuts, took_none, answers_ok, answers_err}
use Rattle.line_session.proofs.Apart.{reached_none, nil_of}
use Rattle.line_session.proofs.Sending.{all_back}
use Rattle.line_session.proofs.Waited.{held_same, held_none}
use Rattle.line_session.proofs.waiting.Waiting.answer.Goals as goal

pub returns-in_err-send-clause-answers : goal.returns-in_err-send-clause-answers
returns-in_err-send-clause-answers g c name b h bodies asked later first from held =
    let hall = g.H.Hall.seen c.args.hall.now in
    let end = c.in_err-send.field-0.0 in
    let took = took_none c.args.self.now.batch c.requires.ready held.session.holds held.session.legal (λ x s. g.met.H.Hall.in_force c.args.hall.now b x s) in
    let p = err_from_is_err_and c.from_residual.result c.from_residual.ensures.1 in
    let same : c.from_residual.result ≡ Err WriteFault = p.1 ∙ ap Err (p.2 ∙ c.in_err-send.ensures.ends) in
    rw same (cuts name b h bodies asked later c.args.self.now c.send.new.self (g.H.Hall.seen first) hall hall _ _ _ held 0 took end (λ up. up) c.in_err-send.ensures.sends)

pub returns-in_err-send-clause-port : goal.returns-in_err-send-clause-port
returns-in_err-send-clause-port g c =
    let p = err_from_is_err_and c.from_residual.result c.from_residual.ensures.1 in
    let same : c.from_residual.result ≡ Err c.in_err-send.field-0.0 = p.1 ∙ ap Err p.2 in
    rw same (answers_err c.in_err-send.field-0.0 (meaning (g.H.Hall.seen c.args.hall.now).text) 0 _ _ _ _ c.in_err-send.ensures.sends)

pub loop-alloc-init : goal.loop-alloc-init
loop-alloc-init g c =
    let hall = g.H.Hall.seen c.args.hall.now in
    let sent = c.in_ok-send.ensures.sends in
    record {
      kept = kept_self hall c.requires.ready;
      reached = reached_none [] (meaning hall.text) sent.1 c.send.new.self.dues.items sent.4;
      dues = all_back (IsDueUnder (meaning hall.text)) sent.0 c.send.new.self.dues.items (subst (All (IsDueUnder (meaning hall.text))) sent.2 c.requires.dues);
      answers = λ name b h bodies asked later first from held.
          goes_on name b h bodies asked later c.args.self.now c.send.new.self (g.H.Hall.seen first) hall hall _ _ _ held 0
          (took_none c.args.self.now.batch c.requires.ready held.session.holds held.session.legal (λ x s. g.met.H.Hall.in_force c.args.hall.now b x s)) (λ up. up) sent c.in_ok-send.ensures.calls;
      port = answers_ok ⊥ (meaning hall.text) 0 _ _ _ _ (λ f. f) sent;
    }

pub loop-alloc-preserved : goal.loop-alloc-preserved
loop-alloc-preserved g c =
    let old = c.loop-alloc.invariant in
    let some = c.in_ok-answer_some.ensures in
    record {
      kept = kept_more old.kept some.kept;
      reached = some.reached;
      dues = some.dues;
      answers = λ name b h bodies asked later first from held.
          let held_now = old.answers name b h bodies asked later first from held in
          held_same name b h later c.answer_some.new.self _ (Ok tt) held_now.2 (some.answers name b h held_now.0 held_now.1 later first from held_now.3);
      port = answers_more old.port (unfailed some.port);
    }

pub returns-in_err-answer_some-clause-answers : goal.returns-in_err-answer_some-clause-answers
returns-in_err-answer_some-clause-answers g c name b h bodies asked later first from held =
    let old = c.loop-alloc.invariant in
    let end = c.in_err-answer_some.field-0.0 in
    let p = err_from_is_err_and c.from_residual-in_err-answer_some.result c.from_residual-in_err-answer_some.ensures.1 in
    let same : c.from_residual-in_err-answer_some.result ≡ Err end = p.1 ∙ ap Err p.2 in
    let held_now = old.answers name b h bodies asked later first from held in
    rw same (held_same name b h later c.answer_some.new.self _ (Err end) held_now.2 (c.in_err-answer_some.ensures.answers name b h held_now.0 held_now.1 later first from held_now.3))

pub returns-clause-answers : goal.returns-clause-answers
returns-clause-answers g c name b h bodies asked later first from held =
    let old = c.loop-alloc.invariant in
    let held_now = old.answers name b h bodies asked later first from held in
    let none = held_none name b h held_now.0 (g.H.Hall.seen first) (g.H.Hall.seen c.loop-alloc.hall) (g.P.Ends.seen from) (g.P.Ends.seen c.loop-alloc.port) (nil_of c.loop-alloc.self.batch (let count = c.count.ensures.count in let none = c.loop-alloc-test.false in omega (arith, count, none))) old.reached held_now.3 in
    (held_now.0, held_now.2 ∙ ap (λ (l : List Asked). held_now.0 ++ bodies_in (l ++ later)) none.1, none.0)
