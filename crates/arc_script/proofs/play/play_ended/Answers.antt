use Rattle.std.proofs.Common.{◌≡◌, ◌++◌, ℕ, List, take, Err, refl, sym, ◌∙◌, ap, subst, append-nil, arith}
use Rattle.std.proofs.lemmas.List.{take_rest, take_all}
use Rattle.std.proofs.lemmas.Result.{err_from_is_err_and}
use Rattle.arc_io.proofs.Frames.{writes_more}
use Rattle.arc_text.specs.LineCutting.{WasFed, cut_of}
use Rattle.arc_text.specs.Lines.{ended_lines}
use Rattle.arc_script.proofs.FedLines.{no_line, one_line}
use Rattle.arc_script.proofs.Playing.{PlayedAll, halted_line, line_came, played_line, played_none}
use Rattle.arc_script.proofs.ToldShort.{told_short}
use Rattle.arc_script.proofs.play.play_ended.Goals as goal

pub loop-at-init : goal.loop-at-init
loop-at-init g c =
    let seen = g.D.Disk.seen in
    let script = c.args.script.now in
    let port = g.P.Ends.seen c.args.port.now in
    record {
      within = omega arith;
      limit = c.requires.limit;
      ready = c.requires.ready;
      only = record { rest = refl };
      fed = λ stream fed. subst (λ (l : List ℕ). WasFed l c.args.cutter.now) (sym (append-nil stream)) fed;
      played = λ b stream fed short so number.
          subst (λ (l : List ℕ). PlayedAll seen b (ended_lines l) script c.args.store port) (sym (append-nil stream)) (so, number);
    }

pub play_line-requires-clause-short : goal.play_line-requires-clause-short
play_line-requires-clause-short g c =
    let seen = g.D.Disk.seen in
    let bytes = c.args.bytes.now in
    let at = c.loop-at.at in
    let n = c.feed-count.result.0 in
    let cutter = c.feed-count.new.self in
    let old = c.loop-at.invariant in
    let told = c.in-Some.cut in
    let limit = c.feed-count.ensures.limit ∙ old.limit in
    let came = λ (stream : List ℕ) (fed : WasFed stream c.args.cutter.now).
    one_line stream bytes at n _ c.feed-count.result.1 cutter (take_rest bytes at)
    (c.feed-count.ensures.feeds (stream ++ take at bytes) (old.fed stream fed)) told c.in-Some.is in
    let line = came c.requires.fed.0 c.requires.fed.1 in
    told_short told line.line c.line.result.now (line.cut ∙ ap (λ l. cut_of l line.line) limit) (c.line.ensures ∙ line.kept)

pub play_line-requires-clause-ready : goal.play_line-requires-clause-ready
play_line-requires-clause-ready g c = c.loop-at.invariant.ready

pub loop-at-preserved-in_default : goal.loop-at-preserved-in_default
loop-at-preserved-in_default g c =
    let seen = g.D.Disk.seen in
    let bytes = c.args.bytes.now in
    let at = c.loop-at.at in
    let n = c.feed-count.result.0 in
    let cutter = c.feed-count.new.self in
    let old = c.loop-at.invariant in
    let came = λ (stream : List ℕ) (fed : WasFed stream c.args.cutter.now).
    no_line stream bytes at n _ c.feed-count.result.1 cutter (take_rest bytes at)
    (c.feed-count.ensures.feeds (stream ++ take at bytes) (old.fed stream fed)) c.in_default.is in
    record {
      within = omega (arith, c.feed-count.ensures.count);
      limit = c.feed-count.ensures.limit ∙ old.limit;
      ready = old.ready;
      only = old.only;
      fed = λ stream fed. (came stream fed).fed;
      played = λ b stream fed short so number.
          played_none seen b stream bytes at n short cutter c.loop-at.script c.loop-at.store (g.P.Ends.seen c.loop-at.port) (came stream fed)
          (old.played b stream fed short so number);
    }

pub loop-at-preserved : goal.loop-at-preserved
loop-at-preserved g c =
    let seen = g.D.Disk.seen in
    let bytes = c.args.bytes.now in
    let at = c.loop-at.at in
    let n = c.feed-count.result.0 in
    let cutter = c.feed-count.new.self in
    let old = c.loop-at.invariant in
    let told = c.in-Some.cut in
    let limit = c.feed-count.ensures.limit ∙ old.limit in
    let came = λ (stream : List ℕ) (fed : WasFed stream c.args.cutter.now).
    one_line stream bytes at n _ c.feed-count.result.1 cutter (take_rest bytes at)
    (c.feed-count.ensures.feeds (stream ++ take at bytes) (old.fed stream fed)) told c.in-Some.is in
    let line_done = c.in_default-play_line.ensures in
    record {
      within = omega (arith, c.feed-count.ensures.count);
      limit = limit;
      ready = line_done.ready;
      only = writes_more old.only line_done.only;
      fed = λ stream fed. (came stream fed).fed;
      played = λ b stream fed short so number.
          let line = came stream fed in
          let before = old.played b stream fed short so number in
          played_line seen b stream bytes at n short told cutter line c.loop-at.script c.play_line.new.script c.loop-at.store c.play_line.new.store
          (g.P.Ends.seen c.loop-at.port) (g.P.Ends.seen c.play_line.new.port) before line_done.number
          (line_done.played b (ended_lines (stream ++ take at bytes)) line.line (line.cut ∙ ap (λ l. cut_of l line.line) limit)
          (c.line.ensures ∙ line.kept) (line_came seen b stream bytes at n short told cutter line) before.0 before.1);
    }

pub loop-at-preserved-in-Err : goal.loop-at-preserved-in-Err
loop-at-preserved-in-Err g c =
    let seen = g.D.Disk.seen in
    let bytes = c.args.bytes.now in
    let at = c.loop-at.at in
    let n = c.feed-count.result.0 in
    let cutter = c.feed-count.new.self in
    let old = c.loop-at.invariant in
    let told = c.in-Some.cut in
    let limit = c.feed-count.ensures.limit ∙ old.limit in
    let came = λ (stream : List ℕ) (fed : WasFed stream c.args.cutter.now).
    one_line stream bytes at n _ c.feed-count.result.1 cutter (take_rest bytes at)
    (c.feed-count.ensures.feeds (stream ++ take at bytes) (old.fed stream fed)) told c.in-Some.is in
    let line_done = c.in-Err.ensures in
    let left_done = c.in_ok-store.ensures in
    record {
      within = omega (arith, c.feed-count.ensures.count);
      limit = limit;
      ready = left_done.ready;
      only = writes_more old.only (writes_more line_done.only left_done.only);
      fed = λ stream fed. (came stream fed).fed;
      played = λ b stream fed short so number.
          let line = came stream fed in
          let lines = ended_lines (stream ++ take at bytes) in
          let before = old.played b stream fed short so number in
          played_line seen b stream bytes at n short told cutter line c.loop-at.script c.play_left.new.script c.loop-at.store c.in_ok-store.store
          (g.P.Ends.seen c.loop-at.port) (g.P.Ends.seen c.play_left.new.port) before (λ few. left_done.number ∙ line_done.number few)
          (left_done.played b lines line.line (line_done.left b lines line.line (line.cut ∙ ap (λ l. cut_of l line.line) limit)
          (c.line.ensures ∙ line.kept) (line_came seen b stream bytes at n short told cutter line) before.0 before.1));
    }

pub returns-in_err-store-clause-halted : goal.returns-in_err-store-clause-halted
returns-in_err-store-clause-halted g c =
    let seen = g.D.Disk.seen in
    let bytes = c.args.bytes.now in
    let at = c.loop-at.at in
    let n = c.feed-count.result.0 in
    let cutter = c.feed-count.new.self in
    let old = c.loop-at.invariant in
    let told = c.in-Some.cut in
    let limit = c.feed-count.ensures.limit ∙ old.limit in
    let came = λ (stream : List ℕ) (fed : WasFed stream c.args.cutter.now).
    one_line stream bytes at n _ c.feed-count.result.1 cutter (take_rest bytes at)
    (c.feed-count.ensures.feeds (stream ++ take at bytes) (old.fed stream fed)) told c.in-Some.is in
    let e = err_from_is_err_and c.from_residual.result c.from_residual.ensures.1 in
    let halted = c.in_err-store.field-0.0 in
    let same : c.from_residual.result ≡ Err halted = e.1 ∙ ap Err e.2 in
    rw same (λ b stream fed short so number.
    let line = came stream fed in
    let lines = ended_lines (stream ++ take at bytes) in
    let before = old.played b stream fed short so number in
    halted_line seen b stream bytes at n short told cutter line halted.end (g.P.Ends.seen c.play_left.new.port) halted.disk c.play_left.new.script.tally
    (λ more. c.in_err-store.ensures.halted b lines more line.line (c.in-Err.ensures.left b lines line.line (line.cut ∙ ap (λ l. cut_of l line.line) limit)
    (c.line.ensures ∙ line.kept) (line_came seen b stream bytes at n short told cutter line) before.0 before.1)))

pub returns-in_err-store-clause-limit : goal.returns-in_err-store-clause-limit
returns-in_err-store-clause-limit g c = c.feed-count.ensures.limit ∙ c.loop-at.invariant.limit

pub returns-in_err-store-clause-only : goal.returns-in_err-store-clause-only
returns-in_err-store-clause-only g c = writes_more c.loop-at.invariant.only (writes_more c.in-Err.ensures.only c.in_err-store.ensures.only)

pub returns-clause-fed : goal.returns-clause-fed
returns-clause-fed g c stream fed =
    let all = take_all c.loop-at.at c.args.bytes.now (omega arith) in
    subst (λ (l : List ℕ). WasFed (stream ++ l) c.loop-at.cutter) all (c.loop-at.invariant.fed stream fed)

pub returns-clause-played : goal.returns-clause-played
returns-clause-played g c b stream fed short so number =
    let seen = g.D.Disk.seen in
    let all = take_all c.loop-at.at c.args.bytes.now (omega arith) in
    subst (λ (l : List ℕ). PlayedAll seen b (ended_lines (stream ++ l)) c.loop-at.script c.loop-at.store (g.P.Ends.seen c.loop-at.port)) all
    (c.loop-at.invariant.played b stream fed short so number)

pub returns-clause-limit : goal.returns-clause-limit
returns-clause-limit g c = c.loop-at.invariant.limit

pub returns-clause-ready : goal.returns-clause-ready
returns-clause-ready g c = c.loop-at.invariant.ready

pub returns-clause-only : goal.returns-clause-only
returns-clause-only g c = c.loop-at.invariant.only
