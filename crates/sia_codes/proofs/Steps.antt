-- Items one after another, and the signals read so far.
use Rattle.std.proofs.Common.{◌≡◌, ℕ, suc, ◌-◌, ◌<◌, ◌≤◌, List, [], ◌∷◌, ◌++◌, length, drop, Bool, false, Option, Some, None, refl, sym, ◌∙◌, ap, subst, arith, append_assoc, append-nil, add-one, length-append, length-drop}
use Rattle.std.proofs.lemmas.Bool.Decides.{nat_tests}
use Rattle.std.specs.Prelude.{option_to_list, IsSome, ◌==◌}
use Rattle.std.specs.Option.{option_map}
use Rattle.std.specs.List.{filter_map}
use Rattle.arc_data.specs.declared.signal.Signal.{Signal}
use Rattle.alarm_rules.specs.SiaCodes.{Item as Parts, Modifier, Event, item_bytes, item_at, after_slash, item_before, items_from, items_below, signal_of_item}
use Rattle.sia_codes.specs.declared.item.Item.{Item}
use Rattle.sia_codes.specs.Items.{kept_of}
use Rattle.sia_codes.specs.Events.{up_to_eight, signals_with, signals_of}

-- what is still to be read where the text is at its end or at an item
abbrev pub items_at : ℕ → List ℕ → Option (List Parts)
items_at count text = items_from (items_below count) text

filter_map-cons : (item : Parts) (items : List Parts) → filter_map signal_of_item (item ∷ items) ≡ option_to_list (signal_of_item item) ++ filter_map signal_of_item items
filter_map-cons (Modifier letters run) items = refl
filter_map-cons (Event code address text) items = refl

-- an item before others
signals_with-item_before : (signals : List Signal) (item : Parts) (later : Option (List Parts)) → signals_with signals (item_before item later) ≡ signals_with (signals ++ option_to_list (signal_of_item item)) later
signals_with-item_before signals item None = refl
signals_with-item_before signals item (Some items) = ap up_to_eight (ap (λ found. signals ++ found) (filter_map-cons item items) ∙ sym (append_assoc signals (option_to_list (signal_of_item item)) (filter_map signal_of_item items)))

-- one item more
pub signals_with-item : (signals : List Signal) (count : ℕ) (item : Parts) (text : List ℕ) → 0 < length text → item_at text ≡ Some item
    → signals_with signals (items_at (suc count) text) ≡ signals_with (signals ++ option_to_list (signal_of_item item)) (items_at count (after_slash (drop (length (item_bytes item)) text)))
unfolding items_below
signals_with-item signals count item [] some is = absurd (omega arith)
signals_with-item signals count item (b ∷ rest) some is = rw is (signals_with-item_before signals item (items_at count (after_slash (drop (length (item_bytes item)) (b ∷ rest)))))

-- what is no item
pub signals_with-none : (signals : List Signal) (count : ℕ) (text : List ℕ) → 0 < length text → item_at text ≡ None → signals_with signals (items_at count text) ≡ None
signals_with-none signals count [] some is = absurd (omega arith)
signals_with-none signals count (b ∷ rest) some is = rw is refl

up_to_eight-more : (signals : List Signal) → 8 < length signals → up_to_eight signals ≡ None
up_to_eight-more signals more = grind (arith, nat_tests)

up_to_eight-within : (signals : List Signal) → length signals ≤ 8 → up_to_eight signals ≡ Some signals
up_to_eight-within signals within = grind (arith, nat_tests)

-- a ninth event
pub signals_with-nine : (signals : List Signal) (later : Option (List Parts)) → 8 < length signals → signals_with signals later ≡ None
signals_with-nine signals None more = refl
signals_with-nine signals (Some items) more = up_to_eight-more (signals ++ filter_map signal_of_item items) (omega (arith, length-append signals (filter_map signal_of_item items)))

-- the end
pub signals_with-end : (signals : List Signal) (count : ℕ) → length signals ≤ 8 → signals_with signals (items_at count []) ≡ Some signals
signals_with-end signals count within = ap up_to_eight (append-nil signals) ∙ up_to_eight-within signals within

-- the beginning
pub signals_of-start : (text : List ℕ) → signals_of text ≡ signals_with [] (items_at (length text) (after_slash text))
unfolding items_below
signals_of-start text = rw add-one refl

-- A text of items of which the signals so far are read and the rest still is to be.
pub record IsReading (text : List ℕ) (signals : List Signal) (rest : List ℕ) : Type 0 where
  pub count : ℕ
  pub room : length rest ≤ count
  pub within : length signals ≤ 8
  pub same : signals_of text ≡ signals_with signals (items_at count rest)

pub reading-start : (text rest : List ℕ) → rest ≡ after_slash text → length rest ≤ length text → IsReading text [] rest
reading-start text rest is le = record { count = length text; room = le; within = omega arith; same = signals_of-start text ∙ ap (λ after. signals_with [] (items_at (length text) after)) (sym is) }

one_less : (count : ℕ) (text : List ℕ) → length text ≤ count → 0 < length text → count ≡ suc (count - 1)
one_less count text room some = omega arith

pub reading-step : (text : List ℕ) (signals new : List Signal) (rest next : List ℕ) (item : Parts) → IsReading text signals rest → 0 < length rest → item_at rest ≡ Some item → 0 < length (item_bytes item)
    → new ≡ signals ++ option_to_list (signal_of_item item) → length new ≤ 8 → next ≡ after_slash (drop (length (item_bytes item)) rest) → length next ≤ length (drop (length (item_bytes item)) rest) → IsReading text new next
reading-step text signals new rest next item reading some is_item some_bytes is_new within is_next shorter = record {
  count = reading.count - 1;
  room = omega (arith, length-drop (length (item_bytes item)) rest, reading.room);
  within = within;
  same = reading.same
      ∙ ap (λ n. signals_with signals (items_at n rest)) (one_less reading.count rest reading.room some)
      ∙ signals_with-item signals (reading.count - 1) item rest some is_item
      ∙ ap (λ found. signals_with found (items_at (reading.count - 1) (after_slash (drop (length (item_bytes item)) rest)))) (sym is_new)
      ∙ ap (λ after. signals_with new (items_at (reading.count - 1) after)) (sym is_next);
}

pub reading-none : (text : List ℕ) (signals : List Signal) (rest : List ℕ) → IsReading text signals rest → 0 < length rest → item_at rest ≡ None → signals_of text ≡ None
reading-none text signals rest reading some is = reading.same ∙ signals_with-none signals reading.count rest some is

one_signal : (signal : Option Signal) → IsSome signal → length (option_to_list signal) ≡ 1
one_signal None is = absurd cc
one_signal (Some signal) is = refl

pub reading-nine : (text : List ℕ) (signals : List Signal) (rest : List ℕ) (item : Parts) → IsReading text signals rest → 0 < length rest → item_at rest ≡ Some item → length signals ≡ 8 → IsSome (signal_of_item item) → signals_of text ≡ None
reading-nine text signals rest item reading some is_item full is_event =
    reading.same
    ∙ ap (λ n. signals_with signals (items_at n rest)) (one_less reading.count rest reading.room some)
    ∙ signals_with-item signals (reading.count - 1) item rest some is_item
    ∙ signals_with-nine (signals ++ option_to_list (signal_of_item item)) (items_at (reading.count - 1) (after_slash (drop (length (item_bytes item)) rest)))
    (omega (arith, length-append signals (option_to_list (signal_of_item item)), one_signal (signal_of_item item) is_event))

pub reading-end : (text : List ℕ) (signals : List Signal) (rest : List ℕ) → IsReading text signals rest → length rest ≡ 0 → signals_of text ≡ Some signals
reading-end text signals [] reading is = reading.same ∙ signals_with-end signals reading.count reading.within
reading-end text signals (b ∷ rest) reading is = absurd (omega arith)

-- The same for what the reader keeps of an item.

found_in : (read : Option Parts) (found : Item) → Some found ≡ option_map kept_of read → (parts : Parts) × (read ≡ Some parts) × (found ≡ kept_of parts)
found_in None found is = absurd cc
found_in (Some parts) found is = (parts, refl, cc)

pub not_empty : (text : List ℕ) (empty : Bool) → empty ≡ (length text == 0) → empty ≡ false → 0 < length text
not_empty [] empty is false_is = absurd cc
not_empty (b ∷ text) empty is false_is = omega arith

pub reading-found : (text : List ℕ) (signals new : List Signal) (rest after next : List ℕ) (found : Item) → IsReading text signals rest → 0 < length rest → Some found ≡ option_map kept_of (item_at rest)
    → 0 < found.length → new ≡ signals ++ option_to_list found.signal → length new ≤ 8 → after ≡ drop found.length rest → next ≡ after_slash after → length next ≤ length after → IsReading text new next
reading-found text signals new rest after next found reading some is =
    let read = found_in (item_at rest) found is in
    let P : Item → Type 0 = λ k. 0 < k.length → new ≡ signals ++ option_to_list k.signal → length new ≤ 8 → after ≡ drop k.length rest → next ≡ after_slash after → length next ≤ length after → IsReading text new next in
    subst P (sym read.2) (λ some_bytes is_new within is_after is_next shorter. reading-step text signals new rest next read.0 reading some read.1 some_bytes is_new within (is_next ∙ ap after_slash is_after) (omega (arith, ap length is_after, shorter)))

pub reading-full : (text : List ℕ) (signals : List Signal) (rest : List ℕ) (found : Item) → IsReading text signals rest → 0 < length rest → Some found ≡ option_map kept_of (item_at rest) → length signals ≡ 8 → IsSome found.signal → signals_of text ≡ None
reading-full text signals rest found reading some is full =
    let read = found_in (item_at rest) found is in
    let P : Item → Type 0 = λ k. IsSome k.signal → signals_of text ≡ None in
    subst P (sym read.2) (λ is_event. reading-nine text signals rest read.0 reading some read.1 full is_event)
