-- What the reader of a script's lines answers.
use Rattle.std.specs.Prelude.{◌≡◌, ℕ, List, Option, Some, None}
use Rattle.std.specs.Borrow.{Bor}
use Rattle.script_lines.specs.Lines.{Asked, Time, Feed, Message, Command, Reopen, Asks, IsNumber, numbered}
use Rattle.script_lines.specs.declared.line.ScriptLine.{ScriptLine}
use Rattle.script_lines.specs.declared.line.ScriptLine.TheVariants as Read

-- what was read, without the borrows
abbrev pub asked : ScriptLine → Asked
asked (Read.Time moment) = Time moment
asked (Read.Feed line digits) = Feed line digits.now
asked (Read.Message line body) = Message line body.now
asked (Read.Command desk text) = Command desk text.now
asked Read.Reopen = Reopen

-- what the line asks for was read, or it asks for nothing
abbrev pub IsReadAs : List ℕ → Option ScriptLine → Type 0
IsReadAs line (Some read) = Asks line (asked read)
IsReadAs line None = (a : Asked) → Asks line a → ⊥

-- a number from 1 to the most, one space, and what follows, were read, or the bytes are no such thing
abbrev pub IsNumbered : ℕ → List ℕ → Option (ℕ × Bor (List ℕ)) → Type 0
IsNumbered most bytes (Some read) = (bytes ≡ numbered read.0 read.1.now) × IsNumber most read.0
IsNumbered most bytes None = (n : ℕ) (text : List ℕ) → IsNumber most n → bytes ≡ numbered n text → ⊥
