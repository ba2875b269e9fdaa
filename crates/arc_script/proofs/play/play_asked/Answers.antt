use Rattle.std.proofs.Common.{Some, ap, sym}
use Rattle.arc_io.specs.Seen.{PortSeen}
use Rattle.script_lines.specs.Reading.{asked}
use Rattle.arc_script.specs.PageWords.{page_seen}
use Rattle.arc_script.proofs.LineEnds.{cut_halts, goes_further, stop_halts, wanted_halts}
use Rattle.arc_script.proofs.play.play_asked.Goals as goal

pub returns-in_default-clause-ended : goal.returns-in_default-clause-ended
returns-in_default-clause-ended g c b lines typed asks may so more disk tally closed =
    wanted_halts g.D.Disk.seen c.args.script.now c.args.store.now (g.P.Ends.seen c.args.port.now) (asked c.args.wanted) c.args.moment c.requires.short
    c.requires.at disk tally closed b lines more typed asks may so

pub returns-in-Err-clause-ended : goal.returns-in-Err-clause-ended
returns-in-Err-clause-ended g c b lines typed asks may so more disk tally closed =
    stop_halts g.D.Disk.seen c.args.script.now c.args.store.now (g.P.Ends.seen c.args.port.now) (asked c.args.wanted) c.args.moment c.requires.short
    c.requires.at c.in-Err.stop c.carry_out.new.script c.carry_out.new.store disk tally c.in-Err.ensures.stop c.carry_out.ensures.rest.2 closed
    b lines more typed asks may so

pub returns-in-Ok-put-clause-played : goal.returns-in-Ok-put-clause-played
returns-in-Ok-put-clause-played g c =
    let none = ap (λ (k : PortSeen). k.written) c.in-Ok.ensures.blank in
    goes_further g.D.Disk.seen c.args.script.now c.args.store.now (g.P.Ends.seen c.args.port.now) (asked c.args.wanted) c.args.moment c.requires.short
    c.requires.at c.carry_out.new.script c.carry_out.new.store (page_seen c.in-Ok.page) (page_seen c.carry_out.new.page) c.text.result.now none
    (ap Some (sym c.text.ensures)) c.carry_out.ensures.rest.2 c.in_default-carry_out.ensures.carried (g.P.Ends.seen c.put.new.sink)
    c.in-Ok-put.field-0 c.put.result c.in-Ok-put.is c.put.ensures

pub returns-clause-ended : goal.returns-clause-ended
returns-clause-ended g c b lines typed asks may so more disk tally closed =
    let none = ap (λ (k : PortSeen). k.written) c.in-Ok.ensures.blank in
    cut_halts g.D.Disk.seen c.args.script.now c.args.store.now (g.P.Ends.seen c.args.port.now) (asked c.args.wanted) c.args.moment c.requires.short
    c.requires.at c.carry_out.new.script c.carry_out.new.store (page_seen c.in-Ok.page) (page_seen c.carry_out.new.page) c.text.result.now none
    (ap Some (sym c.text.ensures)) c.carry_out.ensures.rest.2 c.in_default-carry_out.ensures.carried (g.P.Ends.seen c.put.new.sink)
    c.in-Err-put.field-0 c.put.result disk tally c.in-Err-put.is c.put.ensures closed b lines more typed asks may so
