use Rattle.line_session.proofs.Followed.{line_then}
use Rattle.line_session.proofs.laws.law_sessions_join.Goals as goal

pub returns : goal.returns
returns g c name end b xs ys h first mid last p q r kept one next = line_then name b kept one next
