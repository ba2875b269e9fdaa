use Rattle.std.proofs.Common.{refl}
use Rattle.desk_session.proofs.Followed.{desk_then}
use Rattle.desk_session.proofs.laws.law_sessions_join.Goals as goal

pub returns : goal.returns
returns g c end b operator xs ys h first mid last p q r kept one next = desk_then kept refl one (next one.session.history one.session.holds)
