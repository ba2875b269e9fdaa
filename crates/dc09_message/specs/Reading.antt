-- What the readers of a message give of its blocks.
use Rattle.std.specs.Prelude.{ℕ, List, Option, Some, None, if◌then◌else◌}
use Rattle.std.specs.Option.{option_map}
use Rattle.arc_data.specs.declared.event.Token.{Token}
use Rattle.alarm_rules.specs.Signals.{has_signals}
use Rattle.dc09_frame.specs.Headers.{◌>>=◌}
use Rattle.dc09_frame.specs.declared.header.Header.{Header}
use Rattle.dc09_message.specs.Blocks.{Blocks, blocks_at}
use Rattle.dc09_message.specs.Contents.{kept, after_bar, data_behind}
use Rattle.dc09_message.specs.Verdicts.{on_sealed, on_plain}
use Rattle.dc09_message.specs.declared.kind.MessageKind.{MessageKind}
use Rattle.dc09_message.specs.declared.outcome.Verdict.{Verdict}

-- of blocks and their tail: the first content, the contents and the brackets between them, without the last `]`, and the tail
abbrev pub parts_of : Blocks × List ℕ → List ℕ × List ℕ × List ℕ
parts_of found = (found.0.first, kept found.0.first found.0.further, found.1)

abbrev pub parts_at : List ℕ → Option (List ℕ × List ℕ × List ℕ)
parts_at bytes = option_map parts_of (blocks_at bytes)

-- the data of a report, at the end of its first block
abbrev pub data_with_signals : Token → List ℕ → Option (List ℕ)
data_with_signals token contents = if has_signals token contents then Some contents else None

unfoldable pub data_in : Token → Header → List ℕ → Option (List ℕ)
data_in token h first = after_bar h first >>= (λ rest. data_behind h rest >>= data_with_signals token)

-- the verdict on a message of a known account, by the account's key
abbrev pub on_key : ℕ → Header → MessageKind → List ℕ → Option (List ℕ) → Verdict
on_key now h kind rest key = if h.sealed then on_sealed now h kind rest key else on_plain h kind rest key
