-- The signals of items, where there are no more than fit.
use Rattle.std.specs.Prelude.{ℕ, List, [], ◌++◌, if◌then◌else◌, Option, Some, None, nat_le, length}
use Rattle.std.specs.List.{filter_map}
use Rattle.arc_data.specs.declared.signal.Signal.{Signal}
use Rattle.alarm_rules.specs.SiaCodes.{Item, items_of, signal_of_item}

abbrev pub up_to_eight : List Signal → Option (List Signal)
up_to_eight signals = if nat_le (length signals) 8 then Some signals else None

-- signals, and then those of the items
abbrev pub signals_with : List Signal → Option (List Item) → Option (List Signal)
signals_with signals None = None
signals_with signals (Some items) = up_to_eight (signals ++ filter_map signal_of_item items)

-- the signals of all items of a text, which may be none
abbrev pub signals_of : List ℕ → Option (List Signal)
signals_of text = signals_with [] (items_of text)
