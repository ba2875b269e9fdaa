use Rattle.std.proofs.Common.{ap, refl}
use Rattle.std.proofs.lemmas.Result.{on_ok_weaker, IfErr-weaker}
use Rattle.script_lines.specs.Lines.{Feed, Message, Command}
use Rattle.script_lines.specs.Reading.{asked}
use Rattle.arc_script.specs.PageWords.{page_seen}
use Rattle.arc_script.specs.declared.script.Script.{Script}
use Rattle.arc_script.proofs.Carry.{stays_as}
use Rattle.arc_script.proofs.Stepping.{command_came, line_carries, line_stops, own_moment, time_carries, time_stops}
use Rattle.arc_script.proofs.step.carry_out.Goals as goal

pub returns-in-Time-clause-carried : goal.returns-in-Time-clause-carried
returns-in-Time-clause-carried g c =
    let script = c.args.script.now in
    let is = ap asked c.in-Time.is in
    let same = own_moment script.clock (asked c.args.wanted) c.in-Time.moment c.args.moment is c.requires.at in
    time_carries g.D.Disk.seen script c.tick.new.script c.args.store.now c.tick.new.store (asked c.args.wanted) c.in-Time.moment c.args.moment
    (stays_as _ c.tick.ensures.rest refl refl c.tick.ensures.tells c.tick.ensures.at_open c.tick.ensures.limits) c.tick.ensures.rest c.requires.moment is same
    (page_seen c.args.page.now) (page_seen c.tick.new.page) c.tick.result c.tick.ensures.ticked c.tick.ensures.set
    c.tick.ensures.clock c.tick.ensures.left

pub returns-in-Time-clause-stop : goal.returns-in-Time-clause-stop
returns-in-Time-clause-stop g c =
    let script = c.args.script.now in
    let is = ap asked c.in-Time.is in
    let same = own_moment script.clock (asked c.args.wanted) c.in-Time.moment c.args.moment is c.requires.at in
    time_stops g.D.Disk.seen script c.tick.new.script c.args.store.now c.tick.new.store (asked c.args.wanted) c.in-Time.moment c.args.moment
    (stays_as _ c.tick.ensures.rest refl refl c.tick.ensures.tells c.tick.ensures.at_open c.tick.ensures.limits) c.tick.ensures.rest c.requires.moment is same
    c.tick.result c.tick.ensures.stop

pub returns-in-Feed-clause-carried : goal.returns-in-Feed-clause-carried
returns-in-Feed-clause-carried g c =
    line_carries g.D.Disk.seen c.args.script.now c.feed.new.script c.args.store.now c.feed.new.store (Feed c.in-Feed.line c.in-Feed.digits.now) c.args.moment
    (stays_as _ c.feed.ensures.rest refl refl c.feed.ensures.tells c.feed.ensures.at_open c.feed.ensures.limits) c.requires.moment tt refl (asked c.args.wanted) (ap asked c.in-Feed.is)
    (page_seen c.args.page.now) (page_seen c.feed.new.page) c.feed.result (ap (λ (k : Script). k.clock) c.feed.ensures.rest) c.requires.at
    (λ Told. c.feed.ensures.fed) c.feed.ensures.took c.feed.ensures.set

pub returns-in-Feed-clause-stop : goal.returns-in-Feed-clause-stop
returns-in-Feed-clause-stop g c =
    line_stops g.D.Disk.seen c.args.script.now c.feed.new.script c.args.store.now c.feed.new.store (Feed c.in-Feed.line c.in-Feed.digits.now) c.args.moment
    (stays_as _ c.feed.ensures.rest refl refl c.feed.ensures.tells c.feed.ensures.at_open c.feed.ensures.limits) c.requires.moment tt refl (asked c.args.wanted) (ap asked c.in-Feed.is)
    c.feed.result (λ Told. c.feed.ensures.stop)

pub returns-in-Message-clause-carried : goal.returns-in-Message-clause-carried
returns-in-Message-clause-carried g c =
    line_carries g.D.Disk.seen c.args.script.now c.message.new.script c.args.store.now c.message.new.store (Message c.in-Message.line c.in-Message.body.now) c.args.moment
    (stays_as _ c.message.ensures.rest refl refl c.message.ensures.tells c.message.ensures.at_open c.message.ensures.limits) c.requires.moment tt refl (asked c.args.wanted) (ap asked c.in-Message.is)
    (page_seen c.args.page.now) (page_seen c.message.new.page) c.message.result (ap (λ (k : Script). k.clock) c.message.ensures.rest) c.requires.at
    (λ Told. c.message.ensures.fed) c.message.ensures.took c.message.ensures.set

pub returns-in-Message-clause-stop : goal.returns-in-Message-clause-stop
returns-in-Message-clause-stop g c =
    line_stops g.D.Disk.seen c.args.script.now c.message.new.script c.args.store.now c.message.new.store (Message c.in-Message.line c.in-Message.body.now) c.args.moment
    (stays_as _ c.message.ensures.rest refl refl c.message.ensures.tells c.message.ensures.at_open c.message.ensures.limits) c.requires.moment tt refl (asked c.args.wanted) (ap asked c.in-Message.is)
    c.message.result (λ Told. c.message.ensures.stop)

pub returns-in-Command-clause-carried : goal.returns-in-Command-clause-carried
returns-in-Command-clause-carried g c =
    line_carries g.D.Disk.seen c.args.script.now c.command.new.script c.args.store.now c.command.new.store (Command c.in-Command.desk c.in-Command.text.now) c.args.moment
    (stays_as _ c.command.ensures.rest refl refl c.command.ensures.tells c.command.ensures.at_open c.command.ensures.limits) c.requires.moment tt refl (asked c.args.wanted) (ap asked c.in-Command.is)
    (page_seen c.args.page.now) (page_seen c.command.new.page) c.command.result (ap (λ (k : Script). k.clock) c.command.ensures.rest) c.requires.at
    (λ Told. on_ok_weaker c.command.result (λ all base before count number h next stands readable up.
    all base before c.args.moment count number h next c.requires.blank stands readable up) c.command.ensures.answered)
    (on_ok_weaker c.command.result (λ all before count next. all before c.args.moment count next) c.command.ensures.took) c.command.ensures.set

pub returns-in-Command-clause-stop : goal.returns-in-Command-clause-stop
returns-in-Command-clause-stop g c =
    let script = c.args.script.now in
    line_stops g.D.Disk.seen c.args.script.now c.command.new.script c.args.store.now c.command.new.store (Command c.in-Command.desk c.in-Command.text.now) c.args.moment
    (stays_as _ c.command.ensures.rest refl refl c.command.ensures.tells c.command.ensures.at_open c.command.ensures.limits) c.requires.moment tt refl (asked c.args.wanted) (ap asked c.in-Command.is)
    c.command.result (λ Told. IfErr-weaker c.command.result _ _ (λ stop all base before count h next stands readable up.
    command_came g.D.Disk.seen Told base script.setup c.args.moment before c.in-Command.desk c.in-Command.text.now h c.args.store.now c.command.new.store
    stop script.tally c.command.new.script.tally (all base before c.args.moment count h next c.requires.blank stands readable up)) c.command.ensures.stop)
