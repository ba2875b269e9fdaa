use Rattle.desk_screen.proofs.Turns.{goes_on}
use Rattle.desk_screen.specs.Inputs.{Made}
use Rattle.desk_screen.proofs.screen.Screen.made.Goals as goal

pub returns-clause-stands : goal.returns-clause-stands
returns-clause-stands c s h = goes_on Made c.joined.result c.args.self.now c.joined.new.self s c.joined.ensures h
