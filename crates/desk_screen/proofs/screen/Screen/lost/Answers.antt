use Rattle.desk_screen.proofs.Turns.{goes_on}
use Rattle.desk_screen.specs.Inputs.{Lost}
use Rattle.desk_screen.proofs.screen.Screen.lost.Goals as goal

pub returns-clause-stands : goal.returns-clause-stands
returns-clause-stands c s h = goes_on Lost c.parted.result c.args.self.now c.parted.new.self s c.parted.ensures h
