use Rattle.std.proofs.Common.{refl, ◌∙◌}
use Rattle.arc_panel.specs.Reading.{said}
use Rattle.arc_panel.proofs.Lining.{goes_on}
use Rattle.arc_panel.proofs.play.play_line.Goals as goal

pub returns-in-Ok-put-clause-played : goal.returns-in-Ok-put-clause-played
returns-in-Ok-put-clause-played g c s p lines typed cut is so =
    goes_on s p lines c.args.player.now (g.P.Ends.seen c.args.port.now) so typed (said c.in-Some.read) _ (g.P.Ends.seen c.put.new.sink) c.bytes.result.now
    (c.in-Some.ensures.said so.history typed cut is (c.moment.ensures ∙ so.at)) (c.in-Ok.ensures.stands s so.history so.stands) c.in-Ok.ensures.moment refl
    (c.bytes.ensures ∙ c.in-Ok.ensures.text s so.history so.stands) c.in-Ok-put.ensures.taken c.in-Ok-put.ensures.cause.later
