-- What was played so far, and how a line ends the playing.
use Rattle.std.specs.Prelude.{◌≡◌, ◌<◌, ◌≤◌, ◌⊎◌, ◌+◌, ◌++◌, ℕ, List, [], ◌∷◌, Option, Some, None, length, take}
use Rattle.std.specs.Io.KnownBytes.{append_known}
use Rattle.arc_io.specs.Causes.{Rose}
use Rattle.arc_io.specs.Seen.{PortSeen}
use Rattle.panel_core.specs.Standing.{StandsFor}
use Rattle.panel_rules.specs.Panels.{Setting, Happening}
use Rattle.arc_panel.specs.Lines.{AreSaid, IsPlayable, moment}
use Rattle.arc_panel.specs.Texts.{line_of, text_of}
use Rattle.arc_panel.specs.Reading.{said}
use Rattle.arc_panel.specs.declared.line.PanelLine.{PanelLine}
use Rattle.arc_panel.specs.declared.play.PanelEnd.{PanelEnd}
use Rattle.arc_panel.specs.declared.play.Player.{Player}
use Rattle.arc_panel.specs.declared.play.PanelEnd.TheVariants.{Done, ReadFault, WriteFault, Spent, BadLine, Memory}

-- These lines were played, and no more, since the port told p.
pub record SoFar (s : Setting) (p : PortSeen) (lines : List (List ℕ)) (player : Player) (p' : PortSeen) : Type 0 where
  pub history : List Happening
  pub says_all : AreSaid [] lines history
  pub stands : StandsFor s history player.panel
  pub at : player.panel.stepped ≡ moment history
  pub counted : player.number ≡ length lines
  pub output : p'.written ≡ append_known p.written (text_of s history)
  pub writes : p.write_faults ≤ p'.write_faults

-- What an end says of the line behind those that were played: that it says nothing, that its output was cut short, or that memory was
-- wanted for it.
abbrev pub HaltsAt : Setting → PortSeen → List (List ℕ) → List ℕ → List Happening → PanelEnd → PortSeen → Type 0
HaltsAt s p lines line h Done p' = ⊥
HaltsAt s p lines line h ReadFault p' = ⊥
HaltsAt s p lines line h Spent p' = ⊥
HaltsAt s p lines line h WriteFault p' =
    Rose p.write_faults p'.write_faults
    × ((x : Happening) × IsPlayable h line x
    × ((count : ℕ) × (count < length (line_of s h x)) × (p'.written ≡ append_known p.written (text_of s h ++ take count (line_of s h x)))))
HaltsAt s p lines line h (BadLine number) p' =
    (number ≡ length lines + 1) × ((x : Happening) → IsPlayable h line x → ⊥) × (p'.written ≡ append_known p.written (text_of s h))
HaltsAt s p lines line h Memory p' = ((x : Happening) × IsPlayable h line x) × (p'.written ≡ append_known p.written (text_of s h))

-- This line, behind those that were played, ended the playing.
pub record Halts (s : Setting) (p : PortSeen) (lines : List (List ℕ)) (line : List ℕ) (end : PanelEnd) (p' : PortSeen) : Type 0 where
  pub history : List Happening
  pub says_all : AreSaid [] lines history
  pub halted : HaltsAt s p lines line history end p'

-- a line behind these ended the playing, of all these lines
pub record HaltsIn (s : Setting) (p : PortSeen) (before all : List (List ℕ)) (end : PanelEnd) (p' : PortSeen) : Type 0 where
  pub played : List (List ℕ)
  pub line : List ℕ
  pub more : List (List ℕ)
  pub later : List (List ℕ)
  pub all_are : all ≡ played ++ line ∷ more
  pub played_are : played ≡ before ++ later
  pub halts : Halts s p played line end p'

-- all lines were played
pub record WholeOf (s : Setting) (p : PortSeen) (all : List (List ℕ)) (p' : PortSeen) : Type 0 where
  pub history : List Happening
  pub says_all : AreSaid [] all history
  pub output : p'.written ≡ append_known p.written (text_of s history)

-- all were, or a line ended it
abbrev pub Finishes : Setting → PortSeen → List (List ℕ) → List (List ℕ) → PanelEnd → PortSeen → Type 0
Finishes s p before all end p' = ((end ≡ Done) × WholeOf s p all p') ⊎ HaltsIn s p before all end p'

-- what a line says here, or that it says nothing here
abbrev pub IsSaid : List Happening → List ℕ → Option PanelLine → Type 0
IsSaid h line (Some read) = IsPlayable h line (said read)
IsSaid h line None = (x : Happening) → IsPlayable h line x → ⊥
