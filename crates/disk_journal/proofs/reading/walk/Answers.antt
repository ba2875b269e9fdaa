use Rattle.std.proofs.Common.{◌≡◌, ◌≤◌, ◌+◌, length, drop, ◌∙◌, arith}
use Rattle.arc_io.specs.Areas.{part}
use Rattle.arc_io.proofs.Moments.{quiet_then}
use Rattle.disk_journal.specs.Records.{length_in}
use Rattle.disk_journal.proofs.Again.{gate_within, told_then, told_first, walks_on}
use Rattle.disk_journal.proofs.reading.walk.Goals as goal

pub size_at-requires-clause-within : goal.size_at-requires-clause-within
size_at-requires-clause-within g c =
    let w = c.requires.stands in
    let inv = c.loop.invariant in
    let o = (g.D.Disk.seen c.args.disk.now).told in
    told_then (λ s. c.loop.at + 5 ≤ length (part c.args.area s)) o (g.D.Disk.seen c.loop.disk).told inv.quiet.same
    (gate_within c.args.area o w.0 w.1 w.2 c.loop.counter c.loop.at (inv.walked w.0 w.1 w.2 w.3 w.4))

pub loop-preserved : goal.loop-preserved
loop-preserved g c =
    let inv = c.loop.invariant in
    let o = (g.D.Disk.seen c.args.disk.now).told in
    let at = c.loop.at in
    let n = c.in_ok-size.size in
    let sized = told_first (λ s. n ≡ length_in (drop (at + 1) (part c.args.area s))) o (g.D.Disk.seen c.loop.disk).told inv.quiet.same c.in_ok-size.ensures.size in
    record {
      up_to = omega (arith, c.loop-test.true);
      before = omega (arith, inv.before, c.size_at.ensures.later);
      met_none = c.in_ok-size.ensures.met_none ∙ inv.met_none;
      walked = walks_on o c.args.area c.args.next c.args.place c.args.i c.loop.counter at n c.saturating_add-at.result (omega (arith, c.loop-test.true)) sized
          (λ few. omega (arith, few, c.saturating_add-at.ensures)) inv.walked;
      quiet = quiet_then (g.D.Disk.seen c.args.disk.now) (g.D.Disk.seen c.loop.disk) (g.D.Disk.seen c.size_at.new.disk) inv.quiet c.size_at.ensures.quiet;
    }
