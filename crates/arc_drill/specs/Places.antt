-- The places of the script, and what is left of it from each on.
use Rattle.std.specs.Prelude.{ℕ, ◌+◌, ◌-◌, ◌++◌, List}
use Rattle.std.specs.List.{flat_map, range_with_len}
use Rattle.arc_drill.specs.Texts.{drill_text, message_lines, closing_lines, desk_lines}
use Rattle.arc_drill.specs.declared.place.Next.{Next}
use Rattle.arc_drill.specs.declared.place.Next.TheVariants.{Beginning, Message, Closing}

-- the messages from this number on, and what comes behind them; or the closings from this number on
abbrev pub text_from : ℕ → Next → List ℕ
text_from n Beginning = drill_text n
text_from n (Message i) = flat_map message_lines (range_with_len i (n + 1 - i)) ++ desk_lines
text_from n (Closing k) = flat_map closing_lines (range_with_len k (21 - k))

-- the number of a place, and the last number of a place of its kind in the script of n messages

abbrev pub number_of : Next → ℕ
number_of Beginning = 1
number_of (Message i) = i
number_of (Closing k) = k

abbrev pub last_of : ℕ → Next → ℕ
last_of n Beginning = 1
last_of n (Message i) = n + 1
last_of n (Closing k) = 21
