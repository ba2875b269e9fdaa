use Rattle.std.proofs.Common.{arith}
use Rattle.line_gate.proofs.Carried.{later_self, later_further}
use Rattle.arc_serving.proofs.Lists.{nothing}
use Rattle.arc_serving.proofs.Seats.{none_done, one_done}
use Rattle.arc_serving.proofs.bench.unseat_each.Goals as goal

pub loop-jobs-init : goal.loop-jobs-init
loop-jobs-init g c =
    let long = c.args.came.now.ok.0 in
    let none = c.requires.empty in record {
      so_far = none_done c.args.first.now c.args.jobs.now.items _ c.args.came.now.items (nothing c.args.came.now.items (omega arith));
      pass = c.number.ensures.pass;
      later = later_self c.args.first.now;
      places = c.requires.places;
      room = omega arith;
    }

pub loop-jobs-preserved : goal.loop-jobs-preserved
loop-jobs-preserved g c =
    let w = c.loop-jobs.invariant in
    let last = c.take_last-job.ensures in
    let one = c.unseat_one.ensures in
    let length = last.len in
    let place = one.place in
    let room = one.room in
    let places = w.places in
    let rooms = w.room in record {
      so_far = one_done c.loop-jobs.first c.unseat_one.new.first c.args.jobs.now.items c.loop-jobs.jobs.items c.take_last-job.new.self.items c.take_last-job.result _ _ _
          c.loop-jobs.came.items c.unseat_one.new.came.items w.so_far last.items one.later one.taken one.doors one.came;
      pass = one.pass;
      later = later_further c.args.first.now c.loop-jobs.first c.unseat_one.new.first w.later one.later;
      places = omega arith;
      room = omega arith;
    }
