use Rattle.std.proofs.Common.{◌≡◌, Err, rules, ◌∙◌}
use Rattle.arc_script.specs.PageWords.{page_seen}
use Rattle.arc_script.specs.Steps.{before_tick}
use Rattle.arc_script.proofs.Ticks.{tick_leaves, tick_left, ticks, ticks_leave, stops_before, stops_unsaid, up_ok}
use Rattle.arc_script.proofs.tick.tick.Goals as goal

pub returns-in_err-done-clause-stop : goal.returns-in_err-done-clause-stop
returns-in_err-done-clause-stop g c =
    let script = c.args.script.now in
    let stop = c.in_err-done.field-0.0 in
    let is : c.from_residual-in_err-done.result ≡ Err stop = search rules in
    stops_before g.D.Disk.seen c.args.store.now c.begin_first.new.store c.submit.new.self c.from_residual-in_err-done.result stop script.clock script.setup
    c.args.moment c.in_ok-begin_first.ensures.begun c.in_ok-begin_first.ensures.held is c.in_err-done.ensures.stop c.in_err-done.ensures.cause
    (c.submit.ensures.text ∙ c.in_ok-begin_first.ensures.set) c.submit.ensures.already c.submit.ensures.met
    (tick_left g.D.Disk.seen g.met.D.Disk.only_now c.args.store.now c.begin_first.new.store c.submit.new.self script.clock script.setup c.args.moment
    c.in_ok-begin_first.ensures.begun c.in_ok-begin_first.ensures.left c.submit.ensures.at_open c.submit.ensures.already c.submit.ensures.unrecorded
    c.submit.ensures.any_moment stop c.requires.clock c.in_err-done.ensures.cause c.in_err-done.ensures.unwritten)

pub returns-clause-ticked : goal.returns-clause-ticked
returns-clause-ticked g c =
    let script = c.args.script.now in
    let moment = c.args.moment in
    ticks g.D.Disk.seen c.args.store.now c.submit.new.self (page_seen c.args.page.now) (page_seen c.say_tick.new.page)
    c.say_tick.result (λ base. before_tick script.clock base script.setup moment) moment c.in_ok-done.done.at c.in_ok-done.done.reply
    (λ base h over. c.in_ok-done.ensures.done base (before_tick script.clock base script.setup moment h) (c.in_ok-begin_first.ensures.begun base h over))
    (up_ok g.D.Disk.seen c.submit.new.self c.in_ok-done.done c.in_ok-done.ensures.down) c.say_tick.ensures.text

pub returns-clause-stop : goal.returns-clause-stop
returns-clause-stop g c =
    let script = c.args.script.now in
    let moment = c.args.moment in
    stops_unsaid g.D.Disk.seen c.args.store.now c.submit.new.self
    c.say_tick.result script.clock script.setup moment c.in_ok-done.done.at c.in_ok-done.done.reply c.say_tick.ensures.stop
    (λ base h over. c.in_ok-done.ensures.done base (before_tick script.clock base script.setup moment h) (c.in_ok-begin_first.ensures.begun base h over))
    (up_ok g.D.Disk.seen c.submit.new.self c.in_ok-done.done c.in_ok-done.ensures.down)
    (tick_leaves g.D.Disk.seen g.met.D.Disk.only_now c.args.store.now c.begin_first.new.store c.submit.new.self script.clock script.setup moment
    c.in_ok-begin_first.ensures.begun c.in_ok-begin_first.ensures.left c.submit.ensures.at_open c.submit.ensures.already c.submit.ensures.unrecorded
    c.submit.ensures.any_moment (up_ok g.D.Disk.seen c.submit.new.self c.in_ok-done.done c.in_ok-done.ensures.down))

pub returns-clause-left : goal.returns-clause-left
returns-clause-left g c =
    let script = c.args.script.now in
    ticks_leave g.D.Disk.seen c.args.store.now c.submit.new.self c.say_tick.result script.clock script.setup c.args.moment
    (tick_leaves g.D.Disk.seen g.met.D.Disk.only_now c.args.store.now c.begin_first.new.store c.submit.new.self script.clock script.setup c.args.moment
    c.in_ok-begin_first.ensures.begun c.in_ok-begin_first.ensures.left c.submit.ensures.at_open c.submit.ensures.already c.submit.ensures.unrecorded
    c.submit.ensures.any_moment (up_ok g.D.Disk.seen c.submit.new.self c.in_ok-done.done c.in_ok-done.ensures.down))
