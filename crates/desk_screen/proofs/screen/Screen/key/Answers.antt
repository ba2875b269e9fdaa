use Rattle.desk_screen.proofs.Turns.{goes_on}
use Rattle.desk_screen.specs.Inputs.{Key}
use Rattle.desk_screen.proofs.screen.Screen.key.Goals as goal

pub returns-clause-stands : goal.returns-clause-stands
returns-clause-stands c s h = goes_on (Key c.args.key) c.pressed.result c.args.self.now c.pressed.new.self s c.pressed.ensures h
