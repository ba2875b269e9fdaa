-- SIA data (a profile of DC-03).
use Rattle.std.specs.Prelude.{ℕ, suc, ◌+◌, ◌==◌, ◌&&◌, ◌||◌, ◌++◌, List, [], ◌∷◌, Bool, if◌then◌else◌, Option, Some, None}
use Rattle.std.specs.Prelude.{option_and_then, length, take, drop, codes}
use Rattle.std.specs.List.{find, filter_map, list_any, take_while, before_first}
use Rattle.std.specs.Option.{option_map, option_map_or}
use Rattle.std.specs.Str.{bytes_eq}
use Rattle.arc_data.specs.Digits.{is_between, is_digit, is_capital_hex}
use Rattle.arc_data.specs.declared.signal.Class.{Class}
use Rattle.arc_data.specs.declared.signal.Class.TheVariants.{Fire, Medical, Panic, Gas, Burglary, Tamper, Environment, CommFail}
use Rattle.arc_data.specs.declared.signal.Class.TheVariants.{Trouble, LateClose, Unlisted, Test, OpenClose, Bypass, Cancel}
use Rattle.arc_data.specs.declared.signal.Kind.{Kind}
use Rattle.arc_data.specs.declared.signal.Kind.TheVariants.{New, Restore, Opening, Closing, LogOnly}
use Rattle.arc_data.specs.declared.signal.Signal.{Signal}
use Prim.Native.Nat.{zero}

-- The grammar.

-- `a` to `z`
abbrev pub is_lower : ℕ → Bool
is_lower b = is_between 97 122 b

-- `A` to `Z`
abbrev pub is_upper : ℕ → Bool
is_upper b = is_between 65 90 b

-- `0` to `9`, `:`, `-` and `.`
abbrev pub is_modifier_byte : ℕ → Bool
is_modifier_byte b = is_digit b || (b == 58) || (b == 45) || (b == 46)

abbrev pub is_slash : ℕ → Bool
is_slash b = b == 47

-- an item: a modifier has two letters and a run, an event has a code, an address and a free text
pub data Item : Type 0 where
  Modifier : List ℕ → List ℕ → Item
  Event : List ℕ → List ℕ → List ℕ → Item

-- the bytes of an item
abbrev pub item_bytes : Item → List ℕ
item_bytes (Modifier letters run) = letters ++ run
item_bytes (Event code address text) = code ++ address ++ text

-- the address that begins a text: the longest run of `0` to `9` and `A` to `F` among its first 8 bytes
abbrev pub address_at : List ℕ → List ℕ
address_at text = take_while is_capital_hex (take 8 text)

-- the event of a code and what follows it: the address, and then all bytes up to the next `/` or the end
abbrev pub event_of : List ℕ → List ℕ → Item
event_of code rest = Event code (address_at rest) (before_first is_slash (drop (length (address_at rest)) rest))

-- The item that begins a text: two lower-case letters and then the longest run of digits, `:`, `-` and `.`; or two upper-case
-- letters, which are a code, and then the rest of an event.
unfoldable pub item_at : List ℕ → Option Item
item_at (a ∷ b ∷ rest) =
    if is_lower a && is_lower b then Some (Modifier (a ∷ b ∷ []) (take_while is_modifier_byte rest))
    else if is_upper a && is_upper b then Some (event_of (a ∷ b ∷ []) rest)
    else None
item_at other = None

-- before an item, and after the last one, one `/` may stand
abbrev pub after_slash : List ℕ → List ℕ
after_slash [] = []
after_slash (b ∷ rest) = if is_slash b then rest else b ∷ rest

-- an item before others, where those could be read
abbrev pub item_before : Item → Option (List Item) → Option (List Item)
item_before item later = option_map (λ items. item ∷ items) later

-- the items of a text that is at its end or at an item: nothing, or an item and those after it
abbrev pub items_from : (List ℕ → Option (List Item)) → List ℕ → Option (List Item)
items_from items_after [] = Some []
items_from items_after (b ∷ rest) =
    option_and_then (λ item. item_before item (items_after (drop (length (item_bytes item)) (b ∷ rest)))) (item_at (b ∷ rest))

-- the items of a text, where there are fewer than so many
unfoldable pub items_below : ℕ → List ℕ → Option (List Item)
items_below zero text = None
items_below (suc count) text = items_from (items_below count) (after_slash text)

-- the items of a text: there are no more than it has bytes
abbrev pub items_of : List ℕ → Option (List Item)
items_of text = items_below (length text + 1) text

-- what follows the `N` or `O` that SIA data begins with
abbrev pub after_letter : List ℕ → Option (List ℕ)
after_letter [] = None
after_letter (b ∷ rest) = if (b == 78) || (b == 79) then Some rest else None

-- the items of SIA data
abbrev pub sia_items : List ℕ → Option (List Item)
sia_items text = option_and_then items_of (after_letter text)

-- The table.

-- The codes of each class and kind. This assignment is the project's own.
unfoldable pub sia_table : List (Class × Kind × List (List ℕ))
sia_table =
    (Fire, New, codes "FA" ∷ codes "KA" ∷ [])
    ∷ (Fire, Restore, codes "FH" ∷ codes "FR" ∷ codes "KR" ∷ [])
    ∷ (Medical, New, codes "MA" ∷ codes "QA" ∷ [])
    ∷ (Medical, Restore, codes "MR" ∷ codes "QR" ∷ [])
    ∷ (Panic, New, codes "HA" ∷ codes "PA" ∷ [])
    ∷ (Panic, Restore, codes "HR" ∷ codes "PR" ∷ [])
    ∷ (Gas, New, codes "GA" ∷ [])
    ∷ (Gas, Restore, codes "GR" ∷ [])
    ∷ (Burglary, New, codes "BA" ∷ codes "BV" ∷ codes "UA" ∷ [])
    ∷ (Burglary, Restore, codes "BR" ∷ codes "UR" ∷ [])
    ∷ (Tamper, New, codes "TA" ∷ [])
    ∷ (Tamper, Restore, codes "TR" ∷ [])
    ∷ (Environment, New, codes "WA" ∷ codes "ZA" ∷ [])
    ∷ (Environment, Restore, codes "WR" ∷ codes "ZR" ∷ [])
    ∷ (CommFail, New, codes "YC" ∷ [])
    ∷ (CommFail, Restore, codes "YK" ∷ [])
    ∷ (Trouble, New, codes "AT" ∷ codes "BT" ∷ codes "FT" ∷ codes "YT" ∷ [])
    ∷ (Trouble, Restore, codes "AR" ∷ codes "BJ" ∷ codes "FJ" ∷ codes "YR" ∷ [])
    ∷ (LateClose, New, codes "CI" ∷ [])
    ∷ (OpenClose, Opening, codes "OP" ∷ codes "OG" ∷ codes "OR" ∷ [])
    ∷ (OpenClose, Closing, codes "CL" ∷ codes "CF" ∷ codes "CG" ∷ [])
    ∷ (Bypass, LogOnly, codes "BB" ∷ codes "BU" ∷ [])
    ∷ (Cancel, LogOnly, codes "BC" ∷ [])
    ∷ (Test, LogOnly, codes "RP" ∷ codes "RX" ∷ [])
    ∷ []

-- the class and kind that list the code; a code that none lists is Unlisted and New
unfoldable pub sia_meaning : List ℕ → Class × Kind
sia_meaning code = option_map_or (λ row. (row.0, row.1)) (find (λ row. list_any (bytes_eq code) row.2) sia_table) (Unlisted, New)

-- The signals.

-- the signal of a code
abbrev pub sia_signal : List ℕ → Signal
sia_signal code = record { class = (sia_meaning code).0; kind = (sia_meaning code).1; code = code }

-- the signal of an event; a modifier has none
abbrev pub signal_of_item : Item → Option Signal
signal_of_item (Modifier letters run) = None
signal_of_item (Event code address text) = Some (sia_signal code)

-- signals in a number that a message may have
abbrev pub in_number : List Signal → Option (List Signal)
in_number signals = if is_between 1 8 (length signals) then Some signals else None

-- the signals of SIA data: those of its events, in order, 1 to 8 of them
unfoldable pub sia_signals : List ℕ → Option (List Signal)
sia_signals text = option_and_then (λ items. in_number (filter_map signal_of_item items)) (sia_items text)
