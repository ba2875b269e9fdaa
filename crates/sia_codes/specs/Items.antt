-- What the reader keeps of an item.
use Rattle.std.specs.Prelude.{length}
use Rattle.alarm_rules.specs.SiaCodes.{Item as Parts, item_bytes, signal_of_item}
use Rattle.sia_codes.specs.declared.item.Item.{Item}

-- its signal, and how many bytes it has
abbrev pub kept_of : Parts → Item
kept_of parts = record { signal = signal_of_item parts; length = length (item_bytes parts) }
