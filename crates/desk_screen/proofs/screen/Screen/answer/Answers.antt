use Rattle.desk_screen.proofs.Turns.{goes_on}
use Rattle.desk_screen.specs.Inputs.{Answer}
use Rattle.desk_screen.proofs.screen.Screen.answer.Goals as goal

pub returns-clause-stands : goal.returns-clause-stands
returns-clause-stands c s h = goes_on (Answer c.args.line.now) c.told.result c.args.self.now c.told.new.self s c.told.ensures h
