use Rattle.std.proofs.Common.{◌≡◌, ◌≤◌, length, arith}
use Rattle.std.proofs.lemmas.Grind.{common_steps}
use Rattle.supervision.specs.Deadlines.{with_room}
use Rattle.supervision.proofs.Room.{with_places}
use Rattle.supervision.proofs.watch.Watch.reserve.Goals as goal

pub invariant_of-self-2 : goal.invariant_of-self-2
invariant_of-self-2 c =
    let made : c.resize.new.self.items ≡ with_room c.args.places c.self.inside.deadlines.items = grind (arith, common_steps) in
    let long : length c.resize.new.self.items ≡ c.args.places = grind (arith, common_steps) in
    let room : c.args.places ≤ c.reserve.new.self.room = grind (arith, common_steps) in
    with_places c.self.inside.deadlines.items c.resize.new.self.items c.args.places c.self.inside.sorted c.reserve.new.self c.self.invariant
    made long c.reserve.ensures.pairs room
