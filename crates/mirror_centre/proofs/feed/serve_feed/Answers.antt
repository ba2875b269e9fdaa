use Rattle.std.proofs.Common.{refl, ◌∙◌, arith}
use Rattle.arc_io.proofs.Moments.{quiet_start, quiet_then}
use Rattle.mirror_centre.specs.Answers.{IsAnsweredWith}
use Rattle.mirror_centre.proofs.Asks.{answers_before, fed_by, none_answered_before, read_then, so_more, so_none}
use Rattle.mirror_centre.proofs.feed.serve_feed.Goals as goal

pub asks-init : goal.asks-init
asks-init g c =
    let seen = g.D.Disk.seen in
    let first = c.args.store.now in
    record {
      few = omega arith;
      not_ended = c.requires.not_ended;
      so = λ b h s. so_none (IsAnsweredWith seen b h first) (g.P.Ends.seen c.args.port.now);
      stands = λ b h s. s;
      state = refl;
      same = refl;
      quiet = quiet_start (seen first.journal.disk) (g.met.D.Disk.only_now first.journal.disk);
      at_open = refl;
      limits = refl;
    }

pub asks-preserved : goal.asks-preserved
asks-preserved g c =
    let seen = g.D.Disk.seen in
    let old = c.asks.invariant in
    let first = c.args.store.now in
    let mid = c.asks.store in
    let new = c.serve_ask.new.store in
    let e = c.in_default.ensures in
    let p = g.P.Ends.seen c.args.port.now in
    let q = g.P.Ends.seen c.asks.port in
    let r = g.P.Ends.seen c.serve_ask.new.port in
    record {
      few = e.few;
      not_ended = e.not_ended;
      so = λ b h s. so_more (IsAnsweredWith seen b h first) c.asks.answered p q r (old.so b h s)
          (answers_before seen b h first mid old.state old.same old.quiet.same q r (e.asked b h (old.stands b h s)));
      stands = λ b h s. e.stands b h (old.stands b h s);
      state = e.state ∙ old.state;
      same = read_then first.journal mid.journal new.journal old.same e.same;
      quiet = quiet_then (seen first.journal.disk) (seen mid.journal.disk) (seen new.journal.disk) old.quiet e.quiet;
      at_open = e.at_open ∙ old.at_open;
      limits = e.limits ∙ old.limits;
    }

pub returns-in-Err : goal.returns-in-Err
returns-in-Err g c =
    let seen = g.D.Disk.seen in
    let old = c.asks.invariant in
    let first = c.args.store.now in
    let mid = c.asks.store in
    let new = c.serve_ask.new.store in
    let e = c.in-Err.ensures in
    let p = g.P.Ends.seen c.args.port.now in
    let q = g.P.Ends.seen c.asks.port in
    let r = g.P.Ends.seen c.serve_ask.new.port in
    record {
      fed = λ b h s. fed_by (IsAnsweredWith seen b h first) c.in-Err.end c.asks.answered p q r (old.so b h s)
          (none_answered_before seen b h first mid old.state old.same old.quiet.same c.in-Err.end c.asks.answered q r (e.none b h (old.stands b h s)));
      shown = e.shown;
      stands = λ b h s. e.stands b h (old.stands b h s);
      quiet = quiet_then (seen first.journal.disk) (seen mid.journal.disk) (seen new.journal.disk) old.quiet e.quiet;
      at_open = e.at_open ∙ old.at_open;
      limits = e.limits ∙ old.limits;
    }
