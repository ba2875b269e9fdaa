-- The code of each signal is a short text.
use Rattle.std.proofs.Common.{◌≡◌, ◌<◌, ℕ, zero, suc, ◌+◌, List, [], ◌∷◌, length, take, drop, Bool, true, false, cond, Option, Some, None, refl, arith}
use Rattle.std.specs.Prelude.{◌&&◌, ◌==◌, if◌then◌else◌, option_and_then, slice_range, slice_index}
use Rattle.std.specs.List.{filter_map, cons_option, before_first, position_or_len, take_while}
use Rattle.std.specs.Option.{option_map, unwrap_or}
use Rattle.std.proofs.lemmas.Bool.{false≢true}
use Rattle.std.proofs.lemmas.Bool.Decides.{nat_tests}
use Rattle.std.proofs.lemmas.List.{length-take}
use Rattle.arc_data.specs.Digits.{is_between, AreBytes}
use Rattle.arc_data.specs.declared.event.Token.{Token}
use Rattle.arc_data.specs.declared.event.Token.TheVariants.{SiaDcs, AdmCid}
use Rattle.arc_data.specs.declared.signal.Signal.{Signal}
use Rattle.alarm_rules.specs.ContactId.{is_contact_id, signal_of_code, contact_id_signal}
use Rattle.alarm_rules.specs.SiaCodes.{Item, Modifier, Event, item_bytes, event_of, item_at, after_slash, item_before, items_from, items_below, items_of, sia_items, after_letter, is_upper, is_lower, is_modifier_byte, signal_of_item, in_number, sia_signals}
use Rattle.alarm_rules.specs.Signals.{signals, data_of}
use Rattle.summary_rules.specs.Lists.{Every}
use Rattle.summary_rules.specs.Fields.{Given, IsTextUpTo}

abbrev HasCode : Signal → Type 0
HasCode x = IsTextUpTo 32 x.code

-- Parts of bytes are bytes.

bytes_take : (n : ℕ) (xs : List ℕ) → AreBytes xs → AreBytes (take n xs)
bytes_take zero xs w = tt
bytes_take (suc n) [] w = tt
bytes_take (suc n) (x ∷ xs) w = (w.0, bytes_take n xs w.1)

bytes_drop : (n : ℕ) (xs : List ℕ) → AreBytes xs → AreBytes (drop n xs)
bytes_drop zero xs w = w
bytes_drop (suc n) [] w = tt
bytes_drop (suc n) (x ∷ xs) w = bytes_drop n xs w.1

bytes_before : (test : ℕ → Bool) (xs : List ℕ) → AreBytes xs → AreBytes (before_first test xs)
bytes_before test xs w = bytes_take (position_or_len test xs) xs w

-- Contact ID.

three : (xs : List ℕ) → AreBytes xs → IsTextUpTo 32 (slice_range xs 1 4)
three xs w = record { size = omega (arith, length-take 3 (drop 1 xs)); bytes = bytes_take 3 (drop 1 xs) (bytes_drop 1 xs w) }

contact_codes : (text : List ℕ) → AreBytes text → Given HasCode (contact_id_signal text)
unfolding contact_id_signal
contact_codes text w = by (is_contact_id text)
  where
    by : (b : Bool) → Given HasCode (if b then Some (signal_of_code (slice_index text 0) (slice_range text 1 4)) else None)
    by true = three text w
    by false = tt

one_code : (o : Option Signal) → Given HasCode o → Given (Every HasCode) (option_map (λ (x : Signal). x ∷ []) o)
one_code None w = tt
one_code (Some x) w = (w, tt)

-- SIA.

IsGoodItem : Item → Type 0
IsGoodItem (Modifier letters run) = Unit {0}
IsGoodItem (Event code address text) = IsTextUpTo 32 code

upper_byte : (b : ℕ) → is_upper b ≡ true → b < 256
upper_byte b h = grind (arith, nat_tests)

left : (a b : Bool) → (a && b) ≡ true → a ≡ true
left true b e = refl
left false b e = absurd (false≢true e)

right : (a b : Bool) → (a && b) ≡ true → b ≡ true
right true b e = e
right false b e = absurd (false≢true e)

item_good : (text : List ℕ) → Given IsGoodItem (item_at text)
unfolding item_at IsGoodItem
item_good [] = tt
item_good (a ∷ []) = tt
item_good (a ∷ b ∷ rest) = by (is_lower a && is_lower b) (is_upper a && is_upper b) refl
  where
    by : (l u : Bool) → (is_upper a && is_upper b) ≡ u
        → Given IsGoodItem (cond l (Some (Modifier (a ∷ b ∷ []) (take_while is_modifier_byte rest))) (cond u (Some (event_of (a ∷ b ∷ []) rest)) None))
    by true u e = tt
    by false true e = record { size = omega arith; bytes = (upper_byte a (left (is_upper a) (is_upper b) e), (upper_byte b (right (is_upper a) (is_upper b) e), tt)) }
    by false false e = tt

before_good : (item : Item) (o : Option (List Item)) → IsGoodItem item → Given (Every IsGoodItem) o → Given (Every IsGoodItem) (item_before item o)
before_good item None w v = tt
before_good item (Some items) w v = (w, v)

from_good : (items_after : List ℕ → Option (List Item)) → ((text : List ℕ) → Given (Every IsGoodItem) (items_after text)) → (text : List ℕ)
    → Given (Every IsGoodItem) (items_from items_after text)
from_good items_after g [] = tt
from_good items_after g (b ∷ rest) = by (item_at (b ∷ rest)) (item_good (b ∷ rest))
  where
    by : (o : Option Item) → Given IsGoodItem o
        → Given (Every IsGoodItem) (option_and_then (λ item. item_before item (items_after (drop (length (item_bytes item)) (b ∷ rest)))) o)
    by None w = tt
    by (Some item) w = before_good item (items_after (drop (length (item_bytes item)) (b ∷ rest))) w (g (drop (length (item_bytes item)) (b ∷ rest)))

below_good : (count : ℕ) (text : List ℕ) → Given (Every IsGoodItem) (items_below count text)
unfolding items_below
below_good zero text = tt
below_good (suc count) text = from_good (items_below count) (below_good count) (after_slash text)

items_good : (o : Option (List ℕ)) → Given (Every IsGoodItem) (option_and_then items_of o)
items_good None = tt
items_good (Some text) = below_good (length text + 1) text

signal_good : (item : Item) → IsGoodItem item → Given HasCode (signal_of_item item)
unfolding IsGoodItem
signal_good (Modifier letters run) w = tt
signal_good (Event code address text) w = w

signals_good : (items : List Item) → Every IsGoodItem items → Every HasCode (filter_map signal_of_item items)
signals_good [] w = tt
signals_good (item ∷ items) w = by (signal_of_item item) (signal_good item w.0) (signals_good items w.1)
  where
    by : (o : Option Signal) → Given HasCode o → Every HasCode (filter_map signal_of_item items) → Every HasCode (cons_option o (filter_map signal_of_item items))
    by None v rest = rest
    by (Some x) v rest = (v, rest)

number_good : (xs : List Signal) → Every HasCode xs → Given (Every HasCode) (in_number xs)
number_good xs w = by (is_between 1 8 (length xs))
  where
    by : (b : Bool) → Given (Every HasCode) (if b then Some xs else None)
    by true = w
    by false = tt

of_items : (o : Option (List Item)) → Given (Every IsGoodItem) o → Given (Every HasCode) (option_and_then (λ items. in_number (filter_map signal_of_item items)) o)
of_items None w = tt
of_items (Some items) w = number_good (filter_map signal_of_item items) (signals_good items w)

sia_codes : (text : List ℕ) → Given (Every HasCode) (sia_signals text)
unfolding sia_signals
sia_codes text = of_items (sia_items text) (items_good (after_letter text))

-- Of each content.

content_codes : (token : Token) (content : List ℕ) → AreBytes content → Given (Every HasCode) (signals token content)
content_codes SiaDcs content w = sia_codes (data_of content)
content_codes AdmCid content w = one_code (contact_id_signal (data_of content)) (contact_codes (data_of content) (bytes_before (λ b. b == 93) content w))

unwrapped : (o : Option (List Signal)) → Given (Every HasCode) o → Every HasCode (unwrap_or o [])
unwrapped None w = tt
unwrapped (Some xs) w = w

pub codes_of : (token : Token) (content : List ℕ) → AreBytes content → Every (λ (x : Signal). IsTextUpTo 32 x.code) (unwrap_or (signals token content) [])
codes_of token content w = unwrapped (signals token content) (content_codes token content w)
