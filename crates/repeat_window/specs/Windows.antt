-- What a window keeps.
use Rattle.std.specs.Prelude.{◌≡◌, ◌≤◌, ℕ, List, length, map, reverse, take, Option, Some, if◌then◌else◌}
use Rattle.arc_data.specs.declared.event.Message.{Message}
use Rattle.arc_data.specs.declared.event.Past.{Past}
use Rattle.centre_rules.specs.Answers.{repeats}
use Rattle.centre_rules.specs.Limits.{messages_kept}

-- there is room for 32 messages, and no more stand there; the sequences are theirs, the newest first
pub record IsWindow (items : List Past) (capacity : ℕ) (sequences : List ℕ) : Type 0 where
  pub room : capacity ≡ messages_kept
  pub few : length items ≤ messages_kept
  pub kept : take (length items) sequences ≡ map (λ p. p.message.seq) (reverse items)

-- the moment of the newest message that makes this one a repeat, after one more message
abbrev pub newest_of : Message → ℕ → Option ℕ → Past → Option ℕ
newest_of m at newest p = if repeats m at p then Some p.at else newest
