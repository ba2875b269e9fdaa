-- Texts that decimal numbers print, and what the standard parser gives of them.
use Rattle.std.proofs.Common.{◌≡◌, ℕ, ◌<◌, ◌^◌, true, false, eqb, List, [], ◌∷◌, length, get_or, Option, Result, Ok, Err, refl, sym, ◌∙◌, ap, arith, inl, inr}
use Rattle.std.specs.Prelude.{decimal, IfSome, IfNone}
use Rattle.std.specs.Result.{result_ok}
use Rattle.std.specs.Str.Parse.{ParsesUnsigned, AllDigits, digits_value}
use Rattle.std.proofs.lemmas.Bool.{ne_eqb, eqb-false, cases_lt}
use Rattle.std.proofs.lemmas.Str.Parse.{IsNumeralModel, numerals_by_value, tells_digits, parse_plain}
use Rattle.std.proofs.lemmas.Fmt.{parse-decimal, decimal-digits_value, first_decimal, decimal_digit}
use Rattle.arc_text.specs.Words.{has_needless_front}

own : IsNumeralModel (AllDigits 10) (digits_value 10)
own = numerals_by_value (AllDigits 10) tells_digits

-- a text whose first digit isn't 0 is plain
plain_first : (text : List ℕ) → 48 < get_or text 0 0 → has_needless_front text ≡ false
plain_first [] lt = refl
plain_first (b ∷ []) lt = ne_eqb b 43 (λ is. omega arith)
plain_first (b ∷ c ∷ bs) lt = rw (ne_eqb b 43 (λ is. omega arith), ne_eqb b 48 (λ is. omega arith)) refl

pub plain-decimal : (n : ℕ) → n < 2 ^ 64 → has_needless_front (decimal n) ≡ false
plain-decimal n lt = elim (cases_lt 0 n) [
  | inl some ↦ plain_first (decimal n) (first_decimal n some lt)
  | inr none ↦ let is : n ≡ 0 = omega arith in rw (is, decimal_digit 0 (omega arith)) refl
]

-- no plus stands first, and no zero but alone
front_plus : (text : List ℕ) → has_needless_front text ≡ false → get_or text 0 0 ≡ 43 → ⊥
front_plus [] plain is = omega arith
front_plus (b ∷ []) plain is = eqb-false b 43 plain is
front_plus (b ∷ c ∷ bs) plain is =
    let e : eqb b 43 ≡ true = rw is refl in
    let f = rw e at plain in cc

front_zero : (text : List ℕ) → has_needless_front text ≡ false → get_or text 0 0 ≡ 48 → length text ≡ 1
front_zero [] plain is = absurd (omega arith)
front_zero (b ∷ []) plain is = refl
front_zero (b ∷ c ∷ bs) plain is =
    let e : eqb b 43 ≡ false = rw is refl in
    let z : eqb b 48 ≡ true = rw is refl in
    let f = rw (e, z) at plain in absurd cc

-- what was parsed is what is printed, and nothing that is printed is left out
pub some_parsed : {E : Type 0} (bytes text : List ℕ) (r : Result ℕ E) (o : Option ℕ) → text ≡ bytes → has_needless_front bytes ≡ false → ParsesUnsigned 64 10 text r → o ≡ result_ok r → IfSome o (λ n. bytes ≡ decimal n)
some_parsed {E} bytes text (Ok n) o same plain parsed made =
    let p = parse_plain own {E = E} 64 text (Ok n) parsed (front_plus text (rw same plain)) in
    let printed : text ≡ decimal n = sym (decimal-digits_value own text p.0.0 p.0.1 (front_zero text (rw same plain)) p.0.2) ∙ ap decimal (sym p.1) in
    rw made (sym same ∙ printed)
some_parsed bytes text (Err e) o same plain parsed made = rw made tt

pub none_parsed : {E : Type 0} (bytes text : List ℕ) (r : Result ℕ E) (o : Option ℕ) → text ≡ bytes → ParsesUnsigned 64 10 text r → o ≡ result_ok r → IfNone o ((n : ℕ) → n < 2 ^ 64 → bytes ≡ decimal n → ⊥)
none_parsed bytes text (Ok n) o same parsed made = rw made tt
none_parsed bytes text (Err e) o same parsed made = rw made (λ n lt is. let read = parse-decimal 64 n text (Err e) lt lt (same ∙ is) parsed in cc)
