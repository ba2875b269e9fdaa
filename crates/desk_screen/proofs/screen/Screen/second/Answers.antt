use Rattle.desk_screen.proofs.Turns.{goes_on}
use Rattle.desk_screen.specs.Inputs.{Second}
use Rattle.desk_screen.proofs.screen.Screen.second.Goals as goal

pub returns-clause-stands : goal.returns-clause-stands
returns-clause-stands c s h = goes_on Second c.ticked.result c.args.self.now c.ticked.new.self s c.ticked.ensures h
