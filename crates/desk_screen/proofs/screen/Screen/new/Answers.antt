use Rattle.std.proofs.Common.{[], refl, ap}
use Rattle.desk_screen.specs.Bell.{quiet, muted}
use Rattle.desk_screen.specs.Orders.{is_connected, user, way, wish, undone, show_owed, list_owed}
use Rattle.desk_screen.specs.Owning.{own}
use Rattle.desk_screen.specs.Plain.{answered}
use Rattle.desk_screen.specs.Series.{series}
use Rattle.desk_screen.specs.Typing.{last_key, typed, name}
use Rattle.desk_screen.specs.Watching.{silence, queue, total, clock}
use Rattle.desk_screen.specs.declared.keyboard.Keyboard.{Keyboard}
use Rattle.desk_screen.proofs.Owns.{nobody}
use Rattle.desk_screen.proofs.Whole.{has_no_pin}
use Rattle.desk_screen.proofs.screen.Screen.new.Goals as goal

pub returns : goal.returns
unfolding is_connected user way wish undone show_owed list_owed silence own queue total clock quiet muted last_key typed name answered series
returns c = record {
  proper = tt;
  once = tt;
  cause = tt;
  pin = has_no_pin [];
  connected = refl;
  user = refl;
  way = refl;
  wish = refl;
  undone = refl;
  show = refl;
  list = refl;
  silence = refl;
  own = refl;
  owns = nobody _;
  queue = c.new.ensures;
  total = refl;
  clock = refl;
  quiet = refl;
  muted = refl;
  last = ap (λ (k : Keyboard). k.last) c.new-2.ensures;
  typed = ap (λ (k : Keyboard). k.typed) c.new-2.ensures;
  name = ap (λ (k : Keyboard). k.name) c.new-2.ensures;
  answered = refl;
  series = refl;
}
