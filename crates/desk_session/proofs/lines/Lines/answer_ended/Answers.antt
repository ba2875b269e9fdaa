use Rattle.std.proofs.Common.{◌≡◌, ◌+◌, ◌∷◌, ◌++◌, [], ℕ, List, take, drop, Ok, Err, refl, sym, ◌∙◌, ap, subst, append-nil, arith}
use Rattle.std.proofs.lemmas.List.{take_rest, take_all}
use Rattle.std.proofs.lemmas.Result.{err_from_is_err_and}
use Rattle.alarm_rules.specs.Setups.{meaning}
use Rattle.arc_io.proofs.Frames.{answers_none, answers_more, unfailed}
use Rattle.arc_text.specs.LineCutting.{Feeds, cut_of}
use Rattle.arc_text.specs.Lines.{ended_lines}
use Rattle.session_rules.proofs.Keeping.{kept_more, kept_self}
use Rattle.desk_session.specs.Desks.{HasTaken}
use Rattle.desk_session.specs.Events.{acts_after, is_known, up_to_quit}
use Rattle.desk_session.proofs.Fed.{came_none, came_line, taken_none, taken_line, taken_known, quits_by, lines_behind, fed_err}
use Rattle.desk_session.proofs.Served.{serves_none, serves_same, serves_more, serves_wider}
use Rattle.desk_session.proofs.lines.Lines.answer_ended.Goals as goal

pub loop-at-init : goal.loop-at-init
loop-at-init g c =
    let setup = meaning (g.H.Hall.seen c.args.hall.now).text in
    record {
      within = omega arith;
      limit = c.requires.limit;
      named = c.requires.named;
      kept = kept_self (g.H.Hall.seen c.args.hall.now) c.requires.ready;
      fed = λ stream fed. subst (λ (s : List ℕ). HasTaken setup s c.args.self.now.cutter c.args.self.now.operator) (sym (append-nil stream)) fed;
      served = λ stream b h fed s. serves_same (ended_lines stream) b h (Ok tt) (Ok tt) (ended_lines stream) (ended_lines (stream ++ [])) refl (ap (λ (l : List ℕ). up_to_quit (ended_lines l)) (append-nil stream))
          (serves_none (ended_lines stream) b h (g.H.Hall.seen c.args.hall.now) (g.P.Ends.seen c.args.port.now) s (g.met.H.Hall.legal c.args.hall.now b h s));
      port = answers_none ⊥ (g.P.Ends.seen c.args.port.now) (λ f. f);
    }

pub loop-at-preserved : goal.loop-at-preserved
loop-at-preserved g c =
    let bytes = c.args.bytes.now in
    let at = c.loop-at.at in
    let n = c.feed-count.result.0 in
    let cutter = c.feed-count.new.self in
    let operator = c.loop-at.self.operator in
    let setup = meaning (g.H.Hall.seen c.args.hall.now).text in
    let old = c.loop-at.invariant in
    let came = λ (stream : List ℕ) (fed : HasTaken setup stream c.args.self.now.cutter c.args.self.now.operator).
    came_none stream bytes at n cutter (subst (λ o. Feeds (stream ++ take at bytes) (take n (drop at bytes)) o cutter) c.in_default.is
    (subst (λ (p : List ℕ). Feeds (stream ++ take at bytes) (take n p) c.feed-count.result.1 cutter) (take_rest bytes at) (c.feed-count.ensures.feeds (stream ++ take at bytes) (old.fed stream fed).fed))) in
    record {
      within = omega (arith, c.feed-count.ensures.count);
      limit = c.feed-count.ensures.limit ∙ old.limit;
      named = old.named;
      kept = old.kept;
      fed = λ stream fed. taken_none stream bytes at n setup c.loop-at.self.cutter operator (old.fed stream fed) cutter (came stream fed);
      served = λ stream b h fed s. serves_same (ended_lines stream) b h (Ok tt) (Ok tt) (ended_lines (stream ++ take at bytes)) (ended_lines (stream ++ take (at + n) bytes)) refl
          (ap up_to_quit (came stream fed).ended) (old.served stream b h fed s);
      port = old.port;
    }

pub loop-at-preserved-in-Continue-1 : goal.loop-at-preserved-in-Continue-1
loop-at-preserved-in-Continue-1 g c =
    let bytes = c.args.bytes.now in
    let at = c.loop-at.at in
    let n = c.feed-count.result.0 in
    let told = c.in-Some.cut in
    let cutter = c.feed-count.new.self in
    let operator = c.loop-at.self.operator in
    let command = c.command_in-command.result in
    let hall = g.H.Hall.seen c.args.hall.now in
    let setup = meaning hall.text in
    let old = c.loop-at.invariant in
    let limit = c.feed-count.ensures.limit ∙ old.limit in
    let came = λ (stream : List ℕ) (fed : HasTaken setup stream c.args.self.now.cutter c.args.self.now.operator).
    came_line stream bytes at n told cutter (subst (λ o. Feeds (stream ++ take at bytes) (take n (drop at bytes)) o cutter) c.in-Some.is
    (subst (λ (p : List ℕ). Feeds (stream ++ take at bytes) (take n p) c.feed-count.result.1 cutter) (take_rest bytes at) (c.feed-count.ensures.feeds (stream ++ take at bytes) (old.fed stream fed).fed))) in
    let typed = λ (stream : List ℕ) (fed : HasTaken setup stream c.args.self.now.cutter c.args.self.now.operator).
    c.command_in-command.ensures.value (came stream fed).line ((came stream fed).cut ∙ ap (λ l. cut_of l (came stream fed).line) limit) (c.line.ensures ∙ (came stream fed).kept) in
    let acts = c.in_ok-answer.ensures.acts ∙ ap (λ (t : List ℕ). acts_after (meaning t) operator command) old.kept.text in
    record {
      within = omega (arith, c.feed-count.ensures.count);
      limit = limit;
      named = c.in_ok-answer.ensures.named;
      kept = kept_more old.kept c.in_ok-answer.ensures.kept;
      fed = λ stream fed. taken_line stream bytes at n setup c.loop-at.self.cutter operator (old.fed stream fed) told cutter c.answer.new.operator command (came stream fed) (typed stream fed) acts (c.in_ok-answer.ensures.goes_on refl);
      served = λ stream b h fed s.
          let before = old.fed stream fed in
          let lines = ended_lines (stream ++ take at bytes) in
          serves_same (ended_lines stream) b h (Ok tt) (Ok tt) (lines ++ (came stream fed).line ∷ []) (ended_lines (stream ++ take (at + n) bytes)) refl (ap up_to_quit (came stream fed).ended)
          (serves_more (ended_lines stream) b h lines fed.goes_on before.goes_on (Ok tt) (came stream fed).line operator old.kept before.acts (old.served stream b h fed s)
          (λ x sx. c.in_ok-answer.ensures.session (came stream fed).line b x (typed stream fed)
          (ap (λ (t : List ℕ). is_known (meaning t) operator) old.kept.text ∙ taken_known setup (stream ++ take at bytes) c.loop-at.self.cutter operator before) sx));
      port = answers_more old.port (unfailed c.in_ok-answer.ensures.port);
    }

pub returns-in_err-answer-clause-fed : goal.returns-in_err-answer-clause-fed
returns-in_err-answer-clause-fed g c stream fed =
    let bytes = c.args.bytes.now in
    let at = c.loop-at.at in
    let n = c.feed-count.result.0 in
    let told = c.in-Some.cut in
    let cutter = c.feed-count.new.self in
    let operator = c.loop-at.self.operator in
    let command = c.command_in-command.result in
    let setup = meaning (g.H.Hall.seen c.args.hall.now).text in
    let old = c.loop-at.invariant in
    let came = came_line stream bytes at n told cutter (subst (λ o. Feeds (stream ++ take at bytes) (take n (drop at bytes)) o cutter) c.in-Some.is
    (subst (λ (p : List ℕ). Feeds (stream ++ take at bytes) (take n p) c.feed-count.result.1 cutter) (take_rest bytes at) (c.feed-count.ensures.feeds (stream ++ take at bytes) (old.fed stream fed).fed))) in
    let typed = c.command_in-command.ensures.value came.line (came.cut ∙ ap (λ l. cut_of l came.line) (c.feed-count.ensures.limit ∙ old.limit)) (c.line.ensures ∙ came.kept) in
    let behind = lines_behind stream bytes (at + n) in
    let p = err_from_is_err_and c.from_residual.result c.from_residual.ensures.1 in
    let end = c.in_err-answer.field-0.0 in
    let same : c.from_residual.result ≡ Err end = p.1 ∙ ap Err p.2 in
    rw same
    (fed_err end setup (stream ++ bytes) (stream ++ take (at + n) bytes) cutter c.answer.new.operator behind.0 c.in_err-answer.ensures.short
    (λ is. quits_by stream bytes at n setup c.loop-at.self.cutter operator (old.fed stream fed) told cutter command came typed (c.in_err-answer.ensures.quit (ap Err is))) behind.1)

pub returns-in_err-answer-clause-served : goal.returns-in_err-answer-clause-served
returns-in_err-answer-clause-served g c stream b h fed s =
    let bytes = c.args.bytes.now in
    let at = c.loop-at.at in
    let n = c.feed-count.result.0 in
    let told = c.in-Some.cut in
    let cutter = c.feed-count.new.self in
    let operator = c.loop-at.self.operator in
    let command = c.command_in-command.result in
    let setup = meaning (g.H.Hall.seen c.args.hall.now).text in
    let old = c.loop-at.invariant in
    let before = old.fed stream fed in
    let lines = ended_lines (stream ++ take at bytes) in
    let came = came_line stream bytes at n told cutter (subst (λ o. Feeds (stream ++ take at bytes) (take n (drop at bytes)) o cutter) c.in-Some.is
    (subst (λ (p : List ℕ). Feeds (stream ++ take at bytes) (take n p) c.feed-count.result.1 cutter) (take_rest bytes at) (c.feed-count.ensures.feeds (stream ++ take at bytes) before.fed))) in
    let typed = c.command_in-command.ensures.value came.line (came.cut ∙ ap (λ l. cut_of l came.line) (c.feed-count.ensures.limit ∙ old.limit)) (c.line.ensures ∙ came.kept) in
    let behind = lines_behind stream bytes (at + n) in
    let p = err_from_is_err_and c.from_residual.result c.from_residual.ensures.1 in
    let end = c.in_err-answer.field-0.0 in
    let same : c.from_residual.result ≡ Err end = p.1 ∙ ap Err p.2 in
    rw same
    (serves_same (ended_lines stream) b h (Err end) (Err end) (ended_lines (stream ++ take (at + n) bytes) ++ behind.0) (ended_lines (stream ++ bytes)) refl (ap up_to_quit behind.1)
    (serves_wider (ended_lines stream) b h end (ended_lines (stream ++ take (at + n) bytes)) behind.0 c.in_err-answer.ensures.short
    (λ is. quits_by stream bytes at n setup c.loop-at.self.cutter operator before told cutter command came typed (c.in_err-answer.ensures.quit (ap Err is)))
    (serves_same (ended_lines stream) b h (Err end) (Err end) (lines ++ came.line ∷ []) (ended_lines (stream ++ take (at + n) bytes)) refl (ap up_to_quit came.ended)
    (serves_more (ended_lines stream) b h lines fed.goes_on before.goes_on (Err end) came.line operator old.kept before.acts (old.served stream b h fed s)
    (λ x sx. c.in_err-answer.ensures.session came.line b x typed
    (ap (λ (t : List ℕ). is_known (meaning t) operator) old.kept.text ∙ taken_known setup (stream ++ take at bytes) c.loop-at.self.cutter operator before) sx)))))

pub returns-clause-fed : goal.returns-clause-fed
returns-clause-fed g c stream fed =
    let all = take_all c.loop-at.at c.args.bytes.now (omega arith) in
    subst (λ (l : List ℕ). HasTaken (meaning (g.H.Hall.seen c.args.hall.now).text) (stream ++ l) c.loop-at.self.cutter c.loop-at.self.operator) all (c.loop-at.invariant.fed stream fed)

pub returns-clause-served : goal.returns-clause-served
returns-clause-served g c stream b h fed s =
    let all = take_all c.loop-at.at c.args.bytes.now (omega arith) in
    serves_same (ended_lines stream) b h (Ok tt) (Ok tt) (ended_lines (stream ++ take c.loop-at.at c.args.bytes.now)) (ended_lines (stream ++ c.args.bytes.now)) refl
    (ap (λ (l : List ℕ). up_to_quit (ended_lines (stream ++ l))) (sym all)) (c.loop-at.invariant.served stream b h fed s)
