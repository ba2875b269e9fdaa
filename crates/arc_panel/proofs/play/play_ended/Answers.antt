use Rattle.std.proofs.Common.{◌≡◌, ◌++◌, ℕ, ◌<◌, List, take, Err, Option, Some, None, refl, sym, ◌∙◌, ap, subst, append-nil, arith}
use Rattle.std.proofs.lemmas.List.{take_rest, take_all}
use Rattle.std.proofs.lemmas.Result.{err_from_is_err_and}
use Rattle.arc_io.proofs.Frames.{writes_more}
use Rattle.std.specs.Prelude.{OnSome}
use Rattle.arc_text.specs.LineCutting.{WasFed, cut_of}
use Rattle.arc_text.specs.declared.line_cut.LineCut.{LineCut}
use Rattle.arc_text.specs.Lines.{ended_lines}
use Rattle.arc_panel.specs.Playing.{SoFar}
use Rattle.arc_panel.proofs.Fed.{no_line, one_line}
use Rattle.arc_panel.proofs.Pieces.{halts_within}
use Rattle.arc_panel.proofs.play.play_ended.Goals as goal

some_fed : (n : ℕ) (o : Option LineCut) (told : LineCut) → o ≡ Some told → OnSome o (0 < n) → 0 < n
some_fed n None told is some = absurd cc
some_fed n (Some cut) told is some = some

pub loop-at-init : goal.loop-at-init
loop-at-init g c = record {
  within = omega arith;
  limit = c.requires.limit;
  few = omega arith;
  count = c.requires.count;
  only = record { rest = refl };
  fed = λ stream fed. subst (λ (l : List ℕ). WasFed l c.args.cutter.now) (sym (append-nil stream)) fed;
  played = λ s p stream fed so. subst (λ (l : List ℕ). SoFar s p (ended_lines l) c.args.player.now (g.P.Ends.seen c.args.port.now)) (sym (append-nil stream)) so;
}

pub loop-at-preserved : goal.loop-at-preserved
loop-at-preserved g c =
    let bytes = c.args.bytes.now in
    let at = c.loop-at.at in
    let n = c.feed-count.result.0 in
    let old = c.loop-at.invariant in
    let came = λ (stream : List ℕ) (fed : WasFed stream c.args.cutter.now).
    no_line stream bytes at n _ c.feed-count.result.1 c.feed-count.new.self (take_rest bytes at)
    (c.feed-count.ensures.feeds (stream ++ take at bytes) (old.fed stream fed)) c.in_default.is in
    record {
      within = omega (arith, c.feed-count.ensures.count);
      limit = c.feed-count.ensures.limit ∙ old.limit;
      few = omega (arith, old.few);
      count = old.count;
      only = old.only;
      fed = λ stream fed. (came stream fed).fed;
      played = λ s p stream fed so. subst (λ l. SoFar s p l c.loop-at.player (g.P.Ends.seen c.loop-at.port)) (sym (came stream fed).ended) (old.played s p stream fed so);
    }

pub loop-at-preserved-in-Continue-1 : goal.loop-at-preserved-in-Continue-1
loop-at-preserved-in-Continue-1 g c =
    let bytes = c.args.bytes.now in
    let at = c.loop-at.at in
    let n = c.feed-count.result.0 in
    let old = c.loop-at.invariant in
    let told = c.in-Some.cut in
    let limit = c.feed-count.ensures.limit ∙ old.limit in
    let played = c.in_ok-play_line.ensures in
    let came = λ (stream : List ℕ) (fed : WasFed stream c.args.cutter.now).
    one_line stream bytes at n _ c.feed-count.result.1 c.feed-count.new.self (take_rest bytes at)
    (c.feed-count.ensures.feeds (stream ++ take at bytes) (old.fed stream fed)) told c.in-Some.is in
    record {
      within = omega (arith, c.feed-count.ensures.count);
      limit = limit;
      few = omega (arith, old.few, played.number, some_fed n c.feed-count.result.1 told c.in-Some.is c.feed-count.ensures.some);
      count = played.count;
      only = writes_more old.only played.only;
      fed = λ stream fed. (came stream fed).fed;
      played = λ s p stream fed so.
          let line = came stream fed in
          let before = old.played s p stream fed so in
          subst (λ l. SoFar s p l c.play_line.new.player (g.P.Ends.seen c.play_line.new.port)) (sym line.ended)
          (played.played s p (ended_lines (stream ++ take at bytes)) line.line (line.cut ∙ ap (λ l. cut_of l line.line) limit) (c.line.ensures ∙ line.kept) before);
    }

pub returns-in_err-play_line-clause-halted : goal.returns-in_err-play_line-clause-halted
returns-in_err-play_line-clause-halted g c =
    let bytes = c.args.bytes.now in
    let at = c.loop-at.at in
    let n = c.feed-count.result.0 in
    let old = c.loop-at.invariant in
    let told = c.in-Some.cut in
    let limit = c.feed-count.ensures.limit ∙ old.limit in
    let came = λ (stream : List ℕ) (fed : WasFed stream c.args.cutter.now).
    one_line stream bytes at n _ c.feed-count.result.1 c.feed-count.new.self (take_rest bytes at)
    (c.feed-count.ensures.feeds (stream ++ take at bytes) (old.fed stream fed)) told c.in-Some.is in
    let e = err_from_is_err_and c.from_residual.result c.from_residual.ensures.1 in
    let end = c.in_err-play_line.field-0.0 in
    let same : c.from_residual.result ≡ Err end = e.1 ∙ ap Err e.2 in
    rw same (λ s p stream fed so.
    let line = came stream fed in
    let before = old.played s p stream fed so in
    halts_within s p stream bytes at n told c.feed-count.new.self line end (g.P.Ends.seen c.play_line.new.port)
    (c.in_err-play_line.ensures.halted s p (ended_lines (stream ++ take at bytes)) line.line (line.cut ∙ ap (λ l. cut_of l line.line) limit) (c.line.ensures ∙ line.kept) before))

pub returns-clause-fed : goal.returns-clause-fed
returns-clause-fed g c stream fed =
    let all = take_all c.loop-at.at c.args.bytes.now (omega arith) in
    subst (λ (l : List ℕ). WasFed (stream ++ l) c.loop-at.cutter) all (c.loop-at.invariant.fed stream fed)

pub returns-clause-played : goal.returns-clause-played
returns-clause-played g c s p stream fed so =
    let all = take_all c.loop-at.at c.args.bytes.now (omega arith) in
    subst (λ (l : List ℕ). SoFar s p (ended_lines (stream ++ l)) c.loop-at.player (g.P.Ends.seen c.loop-at.port)) all
    (c.loop-at.invariant.played s p stream fed so)
