use Rattle.std.proofs.Common.{◌≡◌, ◌≤◌, ℕ, List, All, drop, length, Err, sym, ◌∙◌, ap, subst, arith}
use Rattle.std.specs.Prelude.{IfSome}
use Rattle.std.proofs.lemmas.Result.{err_from_is_err_and}
use Rattle.alarm_rules.specs.Setups.{meaning}
use Rattle.centre_core.specs.Batches.{IsDownThen}
use Rattle.centre_core.specs.GroupHalls.{ShowsLeft}
use Rattle.line_session.specs.Dues.{IsDueUnder}
use Rattle.line_session.specs.declared.line_end.LineEnd.TheVariants.{WriteFault}
use Rattle.line_session.proofs.Answered.{goes_on, stops, cuts, took_by, not_down, cut_some, shows_first, shows_some, answers_ok, answers_err, not_failed, stop_not_failed, on_ok}
use Rattle.line_session.proofs.Sending.{all_back}
use Rattle.line_session.proofs.waiting.Waiting.answer_some.Goals as goal
use Rattle.line_session.proofs.waiting.Waiting.answer_some.Goals.{in_default-2, in_default}

pub returns-in_err-send-clause-answers : goal.returns-in_err-send-clause-answers
returns-in_err-send-clause-answers g c name b h bodies asked later first from held =
    let hall' = g.H.Hall.seen c.submit_all-done.new.self in
    let sent = c.in_err-send.ensures.sends in
    let end = c.in_err-send.field-0.0 in
    let k = c.count-taken.result in
    let dones = c.submit_all-done.result.done in
    let k_is : k ≡ length dones = c.count-taken.ensures in
    let some : 1 ≤ k = cut_some (meaning hall'.text) k _ _ _ _ end c.requires.reached sent in
    let nd = not_down c.submit_all-done.result.stop dones c.submit_all-done.ensures.none (omega (arith, some, k_is)) in
    let few = c.count-count.ensures.few in
    let count = c.count-count.ensures.count in
    let took = took_by k dones k_is c.submit_all-done.ensures.kept (c.submit_all-done.ensures.goes_on b held.session.history held.session.holds)
    (λ x s. g.met.H.Hall.in_force c.submit_all-done.new.self b x s) c.submit_all-done.ensures.within (let w = c.submit_all-done.ensures.within in omega (arith, few, count, w)) in
    let p = err_from_is_err_and c.from_residual.result c.from_residual.ensures.1 in
    let same : c.from_residual.result ≡ Err WriteFault = p.1 ∙ ap Err (p.2 ∙ c.in_err-send.ensures.ends) in
    rw same (cuts name b h bodies asked later c.args.self.now c.send.new.self _ _ _ _ _ _ held k took end (λ up. c.submit_all-done.ensures.up nd) sent)

pub returns-in_err-send-clause-port : goal.returns-in_err-send-clause-port
returns-in_err-send-clause-port g c =
    let p = err_from_is_err_and c.from_residual.result c.from_residual.ensures.1 in
    let same : c.from_residual.result ≡ Err c.in_err-send.field-0.0 = p.1 ∙ ap Err p.2 in
    rw same (answers_err c.in_err-send.field-0.0 (meaning (g.H.Hall.seen c.submit_all-done.new.self).text) c.count-taken.result _ _ _ _ c.in_err-send.ensures.sends)

pub returns-in-Some-clause-answers : goal.returns-in-Some-clause-answers
returns-in-Some-clause-answers g c name b h bodies asked later first from held =
    let hall' = g.H.Hall.seen c.submit_all-done.new.self in
    let k = c.count-taken.result in
    let dones = c.submit_all-done.result.done in
    let k_is : k ≡ length dones = c.count-taken.ensures in
    let few = c.count-count.ensures.few in
    let count = c.count-count.ensures.count in
    let stop = c.in-Some.stop in
    let took = took_by k dones k_is c.submit_all-done.ensures.kept (c.submit_all-done.ensures.goes_on b held.session.history held.session.holds)
    (λ x s. g.met.H.Hall.in_force c.submit_all-done.new.self b x s) c.submit_all-done.ensures.within (let w = c.submit_all-done.ensures.within in omega (arith, few, count, w)) in
    let fewer = c.if-taken-count.true in
    let left = drop k c.args.self.now.batch in
    let shows : ShowsLeft hall' stop c.submit_all-done.new.batch = subst (λ o. IfSome o (λ s. ShowsLeft hall' s c.submit_all-done.new.batch)) c.in-Some.is c.submit_all-done.ensures.cause in
    stops name b h bodies asked later c.args.self.now c.send.new.self _ _ _ _ _ _ held k took stop left c.in_ok-send.ensures.sends (omega (arith, fewer, count))
    (λ event reading more is. shows_first hall' stop left c.submit_all-done.new.batch shows
    (λ not. c.submit_all-done.ensures.off (λ down. not (subst IsDownThen c.in-Some.is down)) ∙ ap (λ (n : ℕ). drop n c.args.self.now.batch) (sym k_is)) event reading more is)
    (λ x event reading. g.met.H.GroupHall.untold c.submit_all-done.new.self b x event reading)

pub returns-in-Some-clause-stop : goal.returns-in-Some-clause-stop
returns-in-Some-clause-stop g c =
    let hall' = g.H.Hall.seen c.submit_all-done.new.self in
    shows_some hall' c.in-Some.stop c.submit_all-done.new.batch
    (subst (λ o. IfSome o (λ s. ShowsLeft hall' s c.submit_all-done.new.batch)) c.in-Some.is c.submit_all-done.ensures.cause)

pub returns-in-Some-clause-port : goal.returns-in-Some-clause-port
returns-in-Some-clause-port g c =
    answers_ok _ (meaning (g.H.Hall.seen c.submit_all-done.new.self).text) c.count-taken.result _ _ _ _ (stop_not_failed c.in-Some.stop) c.in_ok-send.ensures.sends

pub returns-clause-dues : goal.returns-clause-dues
returns-clause-dues g c =
    let hall' = g.H.Hall.seen c.submit_all-done.new.self in
    let sent = c.in_ok-send.ensures.sends in
    let all = subst (λ (t : List ℕ). All (IsDueUnder (meaning t)) c.args.self.now.dues.items) (sym c.submit_all-done.ensures.kept.text) c.requires.dues in
    on_ok c.match-stop.result (all_back (IsDueUnder (meaning hall'.text)) sent.0 c.send.new.self.dues.items (subst (All (IsDueUnder (meaning hall'.text))) sent.2 all))

pub returns-clause-answers : goal.returns-clause-answers
returns-clause-answers g c name b h bodies asked later first from held =
    let hall' = g.H.Hall.seen c.submit_all-done.new.self in
    let k = c.count-taken.result in
    let dones = c.submit_all-done.result.done in
    let k_is : k ≡ length dones = c.count-taken.ensures in
    let few = c.count-count.ensures.few in
    let count = c.count-count.ensures.count in
    let took = took_by k dones k_is c.submit_all-done.ensures.kept (c.submit_all-done.ensures.goes_on b held.session.history held.session.holds)
    (λ x s. g.met.H.Hall.in_force c.submit_all-done.new.self b x s) c.submit_all-done.ensures.within (let w = c.submit_all-done.ensures.within in omega (arith, few, count, w)) in
    let step = λ (nd : IsDownThen c.submit_all-done.result.stop → ⊥). goes_on name b h bodies asked later c.args.self.now c.send.new.self _ _ _ _ _ _ held k took (λ up. c.submit_all-done.ensures.up nd) c.in_ok-send.ensures.sends
    (c.in_ok-send.ensures.calls ∙ c.submit_all-done.ensures.off nd ∙ ap (λ (n : ℕ). drop n c.args.self.now.batch) (sym k_is)) in
    elim c.match-stop.branch [
      | in_default-2 w ↦ rw w.result-is (step (not_down c.submit_all-done.result.stop dones c.submit_all-done.ensures.none (let all = w.if-taken-count.false in let some = c.requires.some in omega (arith, k_is, all, count, some))))
      | in_default w ↦ rw w.result-is (step (λ down. subst IsDownThen w.in_default.is down))
    ]

pub returns-clause-port : goal.returns-clause-port
returns-clause-port g c =
    elim c.match-stop.branch [
      | in_default-2 w ↦ answers_ok _ (meaning (g.H.Hall.seen c.submit_all-done.new.self).text) c.count-taken.result _ _ _ _ (not_failed c.match-stop.result w.result-is) c.in_ok-send.ensures.sends
      | in_default w ↦ answers_ok _ (meaning (g.H.Hall.seen c.submit_all-done.new.self).text) c.count-taken.result _ _ _ _ (not_failed c.match-stop.result w.result-is) c.in_ok-send.ensures.sends
    ]
