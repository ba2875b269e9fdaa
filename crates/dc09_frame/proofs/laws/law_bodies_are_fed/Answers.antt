use Rattle.dc09_frame.proofs.BodyLaws.{bodies_fed}
use Rattle.dc09_frame.proofs.laws.law_bodies_are_fed.Goals as goal

pub returns : goal.returns
returns c stream taken told value fed = bodies_fed stream taken told value fed
