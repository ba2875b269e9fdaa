-- There is room for the act in the copy, so as many steps are left as it says.
use Rattle.std.proofs.Common.{sym, ap, ◌∙◌}
use Rattle.std.specs.Option.{option_map}
use Rattle.centre_rules.specs.Standing.{stands_at, standing_of}
use Rattle.open_incidents.proofs.OrderLemmas.{few_acts, acts_pushed, recorded, room_stood}
use Rattle.open_incidents.proofs.orders.act.Goals as goal

pub returns : goal.returns
returns c =
    let lapse = c.args.lapse in
    let at = c.args.acted.at in
    let is = standing_of lapse at c.args.table.now.incidents in
    let one = stands_at lapse at c.in-Some.i.now in
    let found = sym c.open_at.ensures ∙ ap (option_map (λ i. stands_at lapse at i.now)) c.in-Some.is in
    let expected = sym c.expected_step.ensures ∙ c.in-Some-expected_step.is in
    let few = few_acts c.args.number is one c.in-Some-expected_step.step (room_stood lapse at c.args.table.now.incidents c.requires) found expected in
    let acts = acts_pushed c.args.acted one.acts c.copy-acts.result c.push.new.self c.push.result few c.copy-acts.ensures c.push.ensures.room.1 c.push.ensures.pushed in
    recorded c.args.acted c.args.number is one c.in-Some-expected_step.step c.push.new.self c.left.result found c.if-not-holds.ensures expected c.if-ne.ensures acts
    c.left.ensures.left
