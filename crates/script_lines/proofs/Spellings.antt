-- Numbers, a space, and what follows it.
use Rattle.std.proofs.Common.{◌≡◌, ℕ, zero, suc, ◌+◌, ◌%◌, ◌<◌, ◌≤◌, ◌^◌, List, [], ◌∷◌, ◌++◌, length, Bool, true, false, eqb, ltb, take, drop, get_or, ◌-◌, Some, None, refl, sym, ap, subst, ◌∙◌, arith}
use Rattle.std.specs.Prelude.{decimal}
use Rattle.std.specs.List.{list_any, position, position_or_len}
use Rattle.std.proofs.lemmas.Bool.{or_parts, or_from, ne_eqb, lt-ltb, eqb-true}
use Rattle.std.proofs.lemmas.List.{length-append, take-append-drop, take_rest}
use Rattle.std.proofs.lemmas.List.Quantifiers.{position-Some}
use Rattle.std.proofs.Math.Seq.{drop-cons}
use Rattle.std.proofs.lemmas.Fmt.{decimal_injective, decimal_by_steps}
use Rattle.std.proofs.lemmas.List.Folds.{list_any-append}
use Rattle.script_lines.specs.Lines.{IsNumber, numbered}
use Rattle.script_lines.specs.Reading.{IsNumbered}

abbrev pub is_space : ℕ → Bool
is_space b = eqb b 32

-- no byte is a space
abbrev pub IsWord : List ℕ → Type 0
IsWord word = list_any is_space word ≡ false

digit_word : (m : ℕ) → m < 10 → IsWord ((48 + m) ∷ [])
digit_word m small = or_from _ _ (ne_eqb (48 + m) 32 (λ is. omega arith)) refl

pub decimal_word : (n : ℕ) → n < 2 ^ 64 → IsWord (decimal n)
decimal_word =
    decimal_by_steps (λ m ds. IsWord ds) (λ m small. digit_word m small)
    (λ m ds big before. list_any-append is_space ds ((48 + m % 10) ∷ []) ∙ or_from _ _ before (digit_word (m % 10) (omega arith)))

-- where a word ends
place_of : (word rest : List ℕ) → IsWord word → position_or_len is_space (word ++ 32 ∷ rest) ≡ length word
place_of [] rest none = refl
place_of (b ∷ word) rest none =
    let parts = or_parts (is_space b) (list_any is_space word) none in
    rw (parts.0, place_of word rest parts.1) (omega arith)

word_inside : (word rest : List ℕ) → ltb (length word) (length (word ++ 32 ∷ rest)) ≡ true
word_inside word rest = lt-ltb (length word) (length (word ++ 32 ∷ rest)) (rw (length-append word (32 ∷ rest)) (omega arith))

pub word_found : (word rest : List ℕ) → IsWord word → position is_space (word ++ 32 ∷ rest) ≡ Some (length word)
word_found word rest none = rw (place_of word rest none, word_inside word rest) refl

front_of : (word rest : List ℕ) → take (length word) (word ++ rest) ≡ word
front_of [] rest = refl
front_of (b ∷ word) rest = ap (λ l. b ∷ l) (front_of word rest)

-- a number and a text: the first space stands behind the number's digits
pub record IsPlaced (n : ℕ) (bytes : List ℕ) : Type 0 where
  pub at : position is_space bytes ≡ Some (length (decimal n))
  pub digits : take (length (decimal n)) bytes ≡ decimal n

pub placed : (n : ℕ) (text bytes : List ℕ) → n < 2 ^ 64 → bytes ≡ numbered n text → IsPlaced n bytes
placed n text bytes small is =
    rw is record {
      at = word_found (decimal n) text (decimal_word n small);
      digits = front_of (decimal n) (32 ∷ text);
    }

same_some : {A : Type 0} (a b : A) → Some a ≡ Some b → a ≡ b
same_some a b same = cc

-- two words with texts behind a space are the same in both parts
pub same_parts : (a b s t : List ℕ) → IsWord a → IsWord b → a ++ 32 ∷ s ≡ b ++ 32 ∷ t → (a ≡ b) × (s ≡ t)
same_parts [] [] s t one two same = (refl, cc)
same_parts [] (y ∷ b) s t one two same =
    let parts = or_parts (is_space y) (list_any is_space b) two in
    let is : 32 ≡ y = cc in
    absurd (let bad : is_space 32 ≡ false = ap is_space is ∙ parts.0 in cc)
same_parts (x ∷ a) [] s t one two same =
    let parts = or_parts (is_space x) (list_any is_space a) one in
    let is : x ≡ 32 = cc in
    absurd (let bad : is_space 32 ≡ false = ap is_space (sym is) ∙ parts.0 in cc)
same_parts (x ∷ a) (y ∷ b) s t one two same =
    let first : x ≡ y = cc in
    let more : a ++ 32 ∷ s ≡ b ++ 32 ∷ t = cc in
    let parts = same_parts a b s t (or_parts (is_space x) (list_any is_space a) one).1 (or_parts (is_space y) (list_any is_space b) two).1 more in
    (ap (λ h. h ∷ a) first ∙ ap (λ l. y ∷ l) parts.0, parts.1)

pub same_numbered : (n m : ℕ) (s t : List ℕ) → n < 2 ^ 64 → m < 2 ^ 64 → numbered n s ≡ numbered m t → (n ≡ m) × (s ≡ t)
same_numbered n m s t one two same =
    let parts = same_parts (decimal n) (decimal m) s t (decimal_word n one) (decimal_word m two) same in
    (decimal_injective n m one two parts.0, parts.1)

-- Where no number and text stand.

pub no_space : (most : ℕ) (bytes : List ℕ) → most < 2 ^ 16 → position is_space bytes ≡ None → IsNumbered most bytes None
no_space most bytes few none = λ n text within is.
    let at = placed n text bytes (omega (arith, within.high, few)) is in
    absurd (let bad = sym at.at ∙ none in cc)

pub no_digits : (most : ℕ) (bytes : List ℕ) (end : ℕ) → most < 2 ^ 16 → position is_space bytes ≡ Some end
    → ((n : ℕ) → n < 2 ^ 64 → take end bytes ≡ decimal n → ⊥) → IsNumbered most bytes None
no_digits most bytes end few space none = λ n text within is.
    let small : n < 2 ^ 64 = omega (arith, within.high, few) in
    let at = placed n text bytes small is in
    let same : end ≡ length (decimal n) = same_some end _ (sym space ∙ at.at) in
    none n small (ap (λ k. take k bytes) same ∙ at.digits)

pub other_number : (most : ℕ) (bytes : List ℕ) (end m : ℕ) → most < 2 ^ 16 → position is_space bytes ≡ Some end → m < 2 ^ 64
    → take end bytes ≡ decimal m → (IsNumber most m → ⊥) → IsNumbered most bytes None
other_number most bytes end m few space small read none = λ n text within is.
    let lower : n < 2 ^ 64 = omega (arith, within.high, few) in
    let at = placed n text bytes lower is in
    let same : end ≡ length (decimal n) = same_some end _ (sym space ∙ at.at) in
    let number : m ≡ n = decimal_injective m n small lower (sym read ∙ ap (λ k. take k bytes) same ∙ at.digits) in
    none (subst (IsNumber most) (sym number) within)

-- Where they stand.

pub split_at : (bytes : List ℕ) (end : ℕ) → position is_space bytes ≡ Some end → bytes ≡ take end bytes ++ 32 ∷ drop (end + 1) bytes
split_at bytes end found =
    let at = position-Some is_space bytes end 0 found in
    let next : suc end ≡ end + 1 = omega arith in
    let byte : get_or bytes end 0 ≡ 32 = eqb-true _ 32 at.1 in
    sym (take-append-drop end bytes) ∙ ap (λ l. take end bytes ++ l) (drop-cons bytes end 0 at.0 ∙ ap (λ b. b ∷ drop (suc end) bytes) byte ∙ ap (λ k. 32 ∷ drop k bytes) next)

positive : (m : ℕ) → (m ≡ 0 → ⊥) → 1 ≤ m
positive zero some = absurd (some refl)
positive (suc m) some = omega arith

pub good_number : (most : ℕ) (bytes : List ℕ) (end m : ℕ) → position is_space bytes ≡ Some end → take end bytes ≡ decimal m
    → (m ≡ 0 → ⊥) → m ≤ most → (bytes ≡ numbered m (take (length bytes - (end + 1)) (drop (end + 1) bytes))) × IsNumber most m
good_number most bytes end m found read some few = (
  split_at bytes end found ∙ ap (λ l. l ++ 32 ∷ drop (end + 1) bytes) read ∙ ap (λ l. decimal m ++ 32 ∷ l) (sym (take_rest bytes (end + 1))),
  record { low = positive m some; high = few },
)
