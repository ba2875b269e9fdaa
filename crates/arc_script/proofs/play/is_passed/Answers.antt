use Rattle.std.proofs.Common.{sym, ◌∙◌}
use Rattle.arc_script.proofs.AskedAt.{passed_long, passed_whole}
use Rattle.arc_script.proofs.play.is_passed.Goals as goal

pub returns-in-Whole : goal.returns-in-Whole
returns-in-Whole c = λ typed is has. c.is_skipped.ensures ∙ passed_whole c.args.cut c.args.line.now typed is has c.in-Whole.is

pub returns-in-TooLong : goal.returns-in-TooLong
returns-in-TooLong c = λ typed is has. sym (passed_long c.args.cut c.args.line.now typed is has c.in-TooLong.is)
