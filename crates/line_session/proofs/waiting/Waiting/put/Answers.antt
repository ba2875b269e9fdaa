use Rattle.std.proofs.Common.{◌≡◌, ◌++◌, ◌∷◌, [], List, Err, sym, ◌∙◌, ap, append-nil}
use Rattle.std.proofs.lemmas.Result.{err_from_is_err_and}
use Rattle.alarm_rules.specs.Setups.{meaning}
use Rattle.line_session.specs.Dues.{Asked, bodies_in}
use Rattle.line_session.proofs.Grouped.{group_line_same}
use Rattle.line_session.proofs.Put.{dues_put, judged_still}
use Rattle.line_session.proofs.Waited.{one_more, held_as, held_put, held_same}
use Rattle.line_session.proofs.waiting.Waiting.put.Goals as goal

pub returns-in_default-clause-dues : goal.returns-in_default-clause-dues
returns-in_default-clause-dues g c = dues_put (meaning (g.H.Hall.seen c.args.hall.now).text) c.in_default.ensures.put c.requires.piece c.requires.dues

pub returns-in_default-clause-takes : goal.returns-in_default-clause-takes
returns-in_default-clause-takes g c name b h bodies asked a first from judged held = (
  bodies,
  asked ++ a ∷ [],
  one_more bodies asked a ∙ ap (λ (l : List Asked). bodies ++ bodies_in l) (sym (append-nil (asked ++ a ∷ []))),
  held_put name b h bodies (g.H.Hall.seen first) (g.H.Hall.seen c.args.hall.now) (g.P.Ends.seen from) (g.P.Ends.seen c.args.port.now) a c.args.judged judged c.in_default.ensures.put held,
)

pub returns-in_err-answer-clause-takes : goal.returns-in_err-answer-clause-takes
returns-in_err-answer-clause-takes g c name b h bodies asked a first from judged held =
    let back = c.in-Some.ensures.back in
    let same_held = held_as name b h bodies (g.H.Hall.seen first) (g.H.Hall.seen c.args.hall.now) (g.P.Ends.seen from) (g.P.Ends.seen c.args.port.now) back.1 back.2 held in
    let p = err_from_is_err_and c.from_residual.result c.from_residual.ensures.1 in
    let same : c.from_residual.result ≡ Err c.in_err-answer.field-0.0 = p.1 ∙ ap Err p.2 in
    rw same (group_line_same (one_more bodies asked a) (c.in_err-answer.ensures.answers name b h bodies asked (a ∷ []) first from same_held))

pub returns-in-Some-offer-clause-takes : goal.returns-in-Some-offer-clause-takes
returns-in-Some-offer-clause-takes g c name b h bodies asked a first from judged held =
    let back = c.in-Some.ensures.back in
    let again = c.in-Some-offer.ensures.back in
    let same_held = held_as name b h bodies (g.H.Hall.seen first) (g.H.Hall.seen c.args.hall.now) (g.P.Ends.seen from) (g.P.Ends.seen c.args.port.now) back.1 back.2 held in
    let ans = c.in_ok-answer.ensures.answers name b h bodies asked (a ∷ []) first from same_held in
    let held_now = held_as name b h ans.0 (g.H.Hall.seen first) (g.H.Hall.seen c.answer.new.hall) (g.P.Ends.seen from) (g.P.Ends.seen c.answer.new.port) again.1 again.2 ans.2 in
    held_same name b h [] c.offer-2.new.self _ c.answer_alone.result (one_more bodies asked a ∙ ans.1)
    (c.answer_alone.ensures.answers name b h ans.0 a c.offer-2.new.self first from (judged_still c.in_ok-answer.ensures.kept.text (again.0 ∙ back.0) judged) held_now)

pub returns-in-None-clause-takes : goal.returns-in-None-clause-takes
returns-in-None-clause-takes g c name b h bodies asked a first from judged held =
    let back = c.in-Some.ensures.back in
    let same_held = held_as name b h bodies (g.H.Hall.seen first) (g.H.Hall.seen c.args.hall.now) (g.P.Ends.seen from) (g.P.Ends.seen c.args.port.now) back.1 back.2 held in
    let ans = c.in_ok-answer.ensures.answers name b h bodies asked (a ∷ []) first from same_held in (
      ans.0,
      a ∷ [],
      one_more bodies asked a ∙ ans.1,
      held_put name b h ans.0 (g.H.Hall.seen first) (g.H.Hall.seen c.answer.new.hall) (g.P.Ends.seen from) (g.P.Ends.seen c.answer.new.port) a c.in-Some.judged
          (judged_still c.in_ok-answer.ensures.kept.text back.0 judged) c.in-None.ensures.put ans.2,
    )
