-- SIA data by the rules of its grammar, apart from any way to read it.
use Rattle.std.specs.Prelude.{◌≡◌, ◌≤◌, ◌⊎◌, ◌++◌, ◌&&◌, ℕ, List, [], ◌∷◌, Bool, true, false, not, Some, length}
use Rattle.std.specs.List.{list_all}
use Rattle.arc_data.specs.Digits.{is_capital_hex}
use Rattle.alarm_rules.specs.SiaCodes.{Item, Modifier, Event, is_lower, is_upper, is_modifier_byte, is_slash, item_bytes, sia_items}

-- the text begins with a byte that passes the test
abbrev pub begins : (ℕ → Bool) → List ℕ → Bool
begins test [] = false
begins test (b ∷ rest) = test b

-- the text is two bytes that pass the test
abbrev pub is_pair : (ℕ → Bool) → List ℕ → Bool
is_pair test (a ∷ b ∷ []) = test a && test b
is_pair test other = false

abbrev pub is_no_slash : ℕ → Bool
is_no_slash b = not (is_slash b)

-- a modifier before a text: two lower-case letters, and a run of digits, `:`, `-` and `.` that the text does not continue
pub record IsModifier (letters run text : List ℕ) : Type 0 where
  pub letters_are : is_pair is_lower letters ≡ true
  pub run_is : list_all is_modifier_byte run ≡ true
  pub run_ends : begins is_modifier_byte text ≡ false

-- An event before a text: two upper-case letters; an address of at most 8 bytes from `0` to `9` and `A` to `F`, which has 8 or
-- is not continued; and a free text without `/`, which the end or a `/` follows.
pub record IsEvent (code address free text : List ℕ) : Type 0 where
  pub code_is : is_pair is_upper code ≡ true
  pub address_is : list_all is_capital_hex address ≡ true
  pub address_fits : length address ≤ 8
  pub address_ends : (length address ≡ 8) ⊎ (begins is_capital_hex (free ++ text) ≡ false)
  pub free_is : list_all is_no_slash free ≡ true
  pub free_ends : begins is_no_slash text ≡ false

abbrev pub IsItem : Item → List ℕ → Type 0
IsItem (Modifier letters run) text = IsModifier letters run text
IsItem (Event code address free) text = IsEvent code address free text

-- the text is the rest, or one `/` and the rest
abbrev pub MaySlash : List ℕ → List ℕ → Type 0
MaySlash text rest = (text ≡ rest) ⊎ (text ≡ 47 ∷ rest)

-- the text is these items, before each of which one `/` may stand, and after them one `/` may stand
abbrev pub AreItems : List Item → List ℕ → Type 0
AreItems [] text = MaySlash text []
AreItems (item ∷ items) text = (rest : List ℕ) × MaySlash text (item_bytes item ++ rest) × IsItem item rest × AreItems items rest

-- the data is `N` or `O` and these items
abbrev pub IsSiaData : List Item → List ℕ → Type 0
IsSiaData items text = (rest : List ℕ) × ((text ≡ 78 ∷ rest) ⊎ (text ≡ 79 ∷ rest)) × AreItems items rest

-- What is read is spelled so.
abbrev pub ReadIsSpelled : Type 0
ReadIsSpelled = (text : List ℕ) (items : List Item) → sia_items text ≡ Some items → IsSiaData items text

-- What is spelled so is read.
abbrev pub SpelledIsRead : Type 0
SpelledIsRead = (text : List ℕ) (items : List Item) → IsSiaData items text → sia_items text ≡ Some items
