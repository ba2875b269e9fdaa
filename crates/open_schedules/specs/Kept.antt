-- What a week keeps.
use Rattle.std.specs.Prelude.{◌≡◌, ◌<◌, ◌≤◌, ℕ, List, length, take, All}
use Rattle.arc_data.specs.declared.window.Window.{Window}

-- a window of a day of the week that begins before it ends, and ends with the day or earlier
pub record IsWindow (w : Window) : Type 0 where
  pub weekday : w.weekday ≤ 6
  pub order : w.from < w.to
  pub end : w.to ≤ 1440

-- the first windows of the 28, so many as are in use, are windows
pub record IsKept (len : ℕ) (windows : List Window) : Type 0 where
  pub room : len ≤ 28
  pub all : length windows ≡ 28
  pub valid : All IsWindow (take len windows)
