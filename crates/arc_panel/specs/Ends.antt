-- How the playing of a panel's lines ended, and what was written.
use Rattle.std.specs.Prelude.{◌≡◌, ◌<◌, ◌≤◌, ◌+◌, ◌++◌, ℕ, List, [], ◌∷◌, true, codes, length, take}
use Rattle.std.specs.Io.KnownBytes.{prepend_known, append_known, IsAtEnd}
use Rattle.arc_io.specs.Causes.{Rose}
use Rattle.arc_io.specs.Seen.{PortSeen}
use Rattle.arc_io.specs.Told.{IsReadOut}
use Rattle.panel_rules.specs.Panels.{Setting, Happening}
use Rattle.arc_text.specs.Lines.{ended_lines}
use Rattle.session_rules.specs.Inputs.{input_limit}
use Rattle.session_rules.specs.Reading.{IsNotAhead, OnlyReadsAndWrites, lines_read}
use Rattle.arc_panel.specs.Lines.{AreSaid, IsPlayable}
use Rattle.arc_panel.specs.Texts.{line_of, text_of}
use Rattle.arc_panel.specs.declared.play.PanelEnd.{PanelEnd}
use Rattle.arc_panel.specs.declared.play.PanelEnd.TheVariants.{Done, ReadFault, WriteFault, Spent, BadLine, Memory}

-- the setting of the panel of an account: the line `0`, and the number 1 of the first message
abbrev pub setting_of : List ℕ → Setting
setting_of account = record { account = account; line = codes "0"; first = 1 }

-- What was played of some lines: the first of them say what happened. Those behind were not played.
pub record Played (lines : List (List ℕ)) : Type 0 where
  pub front : List (List ℕ)
  pub behind : List (List ℕ)
  pub history : List Happening
  pub split : lines ≡ front ++ behind
  pub said : AreSaid [] front history

-- all lines were played, and the output is theirs
pub record IsWhole (s : Setting) (lines : List (List ℕ)) (played : Played lines) (p p' : PortSeen) : Type 0 where
  pub none_behind : played.behind ≡ []
  pub output : p'.written ≡ append_known p.written (text_of s played.history)

-- the next line is not played
pub record StopsAt (read : List ℕ) (lines : List (List ℕ)) (played : Played lines) : Type 0 where
  pub line : List ℕ
  pub more : List (List ℕ)
  pub next : played.behind ≡ line ∷ more
  -- all lines were played but those that end in the last bytes read
  pub ahead : IsNotAhead ended_lines read played.front

-- it has this number, from 1 on, and says nothing here; the output is that of the lines before it
pub record IsBad (s : Setting) (read : List ℕ) (lines : List (List ℕ)) (played : Played lines) (number : ℕ) (p p' : PortSeen) : Type 0 where
  pub at : StopsAt read lines played
  pub numbered : number ≡ length played.front + 1
  pub wrong : (x : Happening) → IsPlayable played.history at.line x → ⊥
  pub output : p'.written ≡ append_known p.written (text_of s played.history)

-- it says something, of whose output so many bytes were written behind that of the lines before it
pub record IsCutOff (s : Setting) (read : List ℕ) (lines : List (List ℕ)) (played : Played lines) (count : ℕ) (p p' : PortSeen)
    : Type 0 where
  pub at : StopsAt read lines played
  pub happens : Happening
  pub says : IsPlayable played.history at.line happens
  pub output : p'.written ≡ append_known p.written (text_of s played.history ++ take count (line_of s played.history happens))

-- What an end says of what was played, of the bytes that were read: where a write failed, the output of the next line lacks a byte at
-- least, and where memory was wanted, it has none.
abbrev pub EndsAs : Setting → List ℕ → (lines : List (List ℕ)) → Played lines → PanelEnd → PortSeen → PortSeen → Type 0
EndsAs s read lines played Done p p' = IsReadOut p' × (length read < input_limit) × IsWhole s lines played p p'
EndsAs s read lines played ReadFault p p' =
    Rose p.read_faults p'.read_faults × (length read < input_limit) × IsWhole s lines played p p'
EndsAs s read lines played Spent p p' = (length read ≡ input_limit) × IsWhole s lines played p p'
EndsAs s read lines played WriteFault p p' =
    (count : ℕ) × (cut : IsCutOff s read lines played count p p') × Rose p.write_faults p'.write_faults
    × (count < length (line_of s played.history cut.happens))
EndsAs s read lines played (BadLine number) p p' = IsBad s read lines played number p p'
EndsAs s read lines played Memory p p' = IsCutOff s read lines played 0 p p'

-- What a panel of this setting did with the bytes that were read of the port: their lines, and what was played of them. Where a read
-- has met the input's end, the last line may lack its line feed. All but what is about reading and writing stayed.
pub record HasPlayed (s : Setting) (end : PanelEnd) (p p' : PortSeen) : Type 0 where
  pub read : List ℕ
  pub taken : p.left ≡ prepend_known read p'.left
  pub out : p'.ended ≡ true → IsAtEnd p'.left
  pub most : length read ≤ input_limit
  pub played : Played (lines_read p'.ended read)
  pub ends : EndsAs s read (lines_read p'.ended read) played end p p'
  pub others : OnlyReadsAndWrites p p'
