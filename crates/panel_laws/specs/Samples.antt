-- Worlds are there in which events are acknowledged, so the law speaks of something.
use Rattle.std.specs.Prelude.{◌≡◌}
use Rattle.panel_rules.specs.declared.Fate.TheVariants.{Acked}
use Rattle.panel_rules.specs.Marks.{fate}
use Rattle.panel_laws.specs.Worlds.{World, IsWorld, marks_after}

-- a world in which the panel's first event is acknowledged
pub record IsAnswered (w : World) : Type 0 where
  pub world : IsWorld w
  pub acknowledged : fate (marks_after w.setting w.steps) 1 ≡ Acked

abbrev pub SomeAreAnswered : Type 0
SomeAreAnswered = (w : World) × IsAnswered w
