use Rattle.std.proofs.Common.{◌+◌, arith}
use Rattle.dc09_frame.proofs.CutterLaws.{run_clear, took_front, took_feed, took_return, stopped_at_return, answers_cut}
use Rattle.dc09_frame.proofs.cutter.Cutter.feed.Goals as goal

pub keep-requires : goal.keep-requires
keep-requires c = run_clear c.args.piece.now c.loop-taken.taken c.run_length-run.result c.run_length-run.ensures.value

pub loop-taken-preserved-then-end-eq10 : goal.loop-taken-preserved-then-end-eq10
loop-taken-preserved-then-end-eq10 c =
    let front = took_front c.args.self.now c.loop-taken.self c.keep.new.self c.args.piece.now c.loop-taken.taken c.run_length-run.result c.loop-taken.invariant.took c.run_length-run.ensures.value c.keep.ensures in
    record {
      within = omega arith;
      took = took_feed c.args.self.now c.keep.new.self c.open.new.self c.args.piece.now (c.loop-taken.taken + c.run_length-run.result) front c.if-taken-piece.true c.if-end-eq10.true c.open.ensures;
      start = λ none. absurd (omega arith);
    }

pub returns-in-Some-clause-feeds : goal.returns-in-Some-clause-feeds
returns-in-Some-clause-feeds c =
    let front = took_front c.args.self.now c.loop-taken.self c.keep.new.self c.args.piece.now c.loop-taken.taken c.run_length-run.result c.loop-taken.invariant.took c.run_length-run.ensures.value c.keep.ensures in
    let end = stopped_at_return c.args.piece.now c.loop-taken.taken c.run_length-run.result c.run_length-run.ensures.value c.if-taken-piece.true c.if-end-eq10.false in
    answers_cut c.args.self.now c.keep.new.self c.close.new.self c.args.piece.now (c.loop-taken.taken + c.run_length-run.result) c.in-Some.cut front c.if-taken-piece.true end c.in-Some.ensures.feeds

pub loop-taken-preserved-in_default : goal.loop-taken-preserved-in_default
loop-taken-preserved-in_default c =
    let front = took_front c.args.self.now c.loop-taken.self c.keep.new.self c.args.piece.now c.loop-taken.taken c.run_length-run.result c.loop-taken.invariant.took c.run_length-run.ensures.value c.keep.ensures in
    let end = stopped_at_return c.args.piece.now c.loop-taken.taken c.run_length-run.result c.run_length-run.ensures.value c.if-taken-piece.true c.if-end-eq10.false in
    record {
      within = omega arith;
      took = took_return c.args.self.now c.keep.new.self c.close.new.self c.args.piece.now (c.loop-taken.taken + c.run_length-run.result) front c.if-taken-piece.true end c.in_default.ensures.feeds;
      start = λ none. absurd (omega arith);
    }

pub loop-taken-preserved : goal.loop-taken-preserved
loop-taken-preserved c =
    let front = took_front c.args.self.now c.loop-taken.self c.keep.new.self c.args.piece.now c.loop-taken.taken c.run_length-run.result c.loop-taken.invariant.took c.run_length-run.ensures.value c.keep.ensures in
    record { within = omega arith; took = front; start = λ none. absurd (omega arith) }
