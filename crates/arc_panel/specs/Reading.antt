-- What the reader of a panel's lines answers.
use Rattle.std.specs.Prelude.{List, ℕ, Option, Some, None}
use Rattle.panel_rules.specs.Panels.{Happening, Queue, Step, Hear}
use Rattle.arc_panel.specs.Lines.{Says}
use Rattle.arc_panel.specs.declared.line.PanelLine.{PanelLine}
use Rattle.arc_panel.specs.declared.line.PanelLine.TheVariants as Read

-- what was read, without the borrows
abbrev pub said : PanelLine → Happening
said (Read.Step now) = Step now
said (Read.Queue token content) = Queue token content.now
said (Read.Hear body) = Hear body.now

-- what the line says was read, or it says nothing
abbrev pub IsReadAs : List ℕ → Option PanelLine → Type 0
IsReadAs line (Some read) = Says line (said read)
IsReadAs line None = (x : Happening) → Says line x → ⊥
