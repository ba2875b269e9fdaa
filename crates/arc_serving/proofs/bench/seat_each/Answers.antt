use Rattle.std.proofs.Common.{ap, map, arith}
use Rattle.arc_serving.proofs.Seats.{seating_more, seating_still}
use Rattle.arc_serving.proofs.bench.seat_each.Goals as goal

pub loop-first-preserved : goal.loop-first-preserved
loop-first-preserved g c =
    let w = c.loop-first.invariant in
    let one = c.in_ok-seat_one.ensures in
    let room = one.room in
    let count = one.count in
    let below = c.loop-first-test.true in record {
      so_far = seating_more g.N.GateName.terms _ _ _ _ _ c.args.first.now c.loop-first.first c.seat_one.new.first w.so_far one.seats one.pass one.later;
      few = omega arith;
      places = omega arith;
      doors_room = omega arith;
      jobs_room = omega arith;
      enough = w.enough;
    }

pub returns-in_err-seat_one-clause-later : goal.returns-in_err-seat_one-clause-later
returns-in_err-seat_one-clause-later g c =
    let one = c.in_err-seat_one.ensures in
    let w = c.loop-first.invariant.so_far in
    (seating_still g.N.GateName.terms _ (map g.A.Door.seen c.loop-first.doors.items) _ c.loop-first.jobs.items _ c.args.first.now c.loop-first.first c.seat_one.new.first w
    (ap (λ d. map g.A.Door.seen d.items) one.none.0) (ap (λ j. j.items) one.none.1) one.pass one.later).later

pub returns-in_err-seat_one-clause-seated : goal.returns-in_err-seat_one-clause-seated
returns-in_err-seat_one-clause-seated g c =
    let one = c.in_err-seat_one.ensures in
    let w = c.loop-first.invariant.so_far in
    (seating_still g.N.GateName.terms _ (map g.A.Door.seen c.loop-first.doors.items) _ c.loop-first.jobs.items _ c.args.first.now c.loop-first.first c.seat_one.new.first w
    (ap (λ d. map g.A.Door.seen d.items) one.none.0) (ap (λ j. j.items) one.none.1) one.pass one.later).seated
