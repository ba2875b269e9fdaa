-- A screen without the digits of a PIN.
use Rattle.std.specs.Prelude.{ℕ, List, Option, Some, None, length, replicate}
use Rattle.std.specs.Option.{option_map}
use Rattle.desk_screen.specs.Orders.{masked}
use Rattle.desk_screen.specs.declared.keyboard.Keyboard.{Keyboard}
use Rattle.desk_screen.specs.declared.screen.Screen.{Screen}

-- Where nobody is logged in and a name was typed, what is typed is a PIN: a star stands for each of its digits.
abbrev pub starred : Option (List ℕ) → Option (List ℕ) → List ℕ → List ℕ
starred None None typed = typed
starred None (Some name) typed = replicate (length typed) 42
starred (Some user) name typed = typed

abbrev pub starred_keyboard : Option (List ℕ) → Keyboard → Keyboard
starred_keyboard user keyboard = record keyboard { typed = starred user keyboard.name keyboard.typed }

-- A screen with stars in place of the PIN that is typed, and of that of a login which waits to be sent. Nowhere else does it keep one.
abbrev pub without_pin : Screen → Screen
without_pin screen = record screen {
  session = record screen.session { wish = option_map masked screen.session.wish };
  keyboard = starred_keyboard screen.session.user screen.keyboard;
}
