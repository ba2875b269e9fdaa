-- Digits in capitals, and what four digits spell.
use Rattle.std.proofs.Common.{◌≡◌, ◌<◌, ◌≤◌, suc, ◌-◌, ℕ, List, [], ◌∷◌, length, Bool, true, false, refl, ap, arith}
use Rattle.std.specs.Prelude.{◌&&◌}
use Rattle.std.specs.Char.{to_ascii_uppercase}
use Rattle.std.specs.List.{list_all}
use Rattle.std.proofs.lemmas.Bool.Decides.{nat_tests}
use Rattle.arc_data.specs.Digits.{is_between, is_digit, is_hex, is_capital_hex, is_run, dec_value, capitals}

pub hex_is_byte : (b : ℕ) → is_hex b ≡ true → b < 256
hex_is_byte b h = grind (arith, nat_tests)

capital_one : (b : ℕ) → is_hex b ≡ true → is_capital_hex (to_ascii_uppercase b) ≡ true
capital_one b h = grind (arith, nat_tests)

pub and_front : (a b : Bool) → (a && b) ≡ true → a ≡ true
and_front true b h = refl
and_front false b h = h

pub and_back : (a b : Bool) → (a && b) ≡ true → b ≡ true
and_back true b h = h
and_back false b h = absurd (cc)

both : (a b : Bool) → a ≡ true → b ≡ true → (a && b) ≡ true
both a b p q = rw (p, q) refl

capital_all : (bs : List ℕ) → list_all is_hex bs ≡ true → list_all is_capital_hex (capitals bs) ≡ true
capital_all [] h = refl
capital_all (b ∷ bs) h = both _ _ (capital_one b (and_front _ _ h)) (capital_all bs (and_back _ _ h))

length-capitals : (bs : List ℕ) → length (capitals bs) ≡ length bs
length-capitals [] = refl
length-capitals (b ∷ bs) = ap suc (length-capitals bs)

-- a run of digits, in capitals
pub capital_run : (low high : ℕ) (bs : List ℕ) → is_run is_hex low high bs ≡ true → is_run is_capital_hex low high (capitals bs) ≡ true
capital_run low high bs h = both _ _ (rw (length-capitals bs) (and_front _ _ h)) (capital_all bs (and_back _ _ h))

digit_at_most : (b : ℕ) → is_digit b ≡ true → b - 48 ≤ 9
digit_at_most b h = grind (arith, nat_tests)

-- four digits spell at most 9999
pub four_digits_spell : (bs : List ℕ) → is_run is_digit 4 4 bs ≡ true → dec_value bs ≤ 9999
unfolding dec_value
four_digits_spell (a ∷ b ∷ c ∷ d ∷ []) h =
    let pa = digit_at_most a (and_front _ _ h) in
    let pb = digit_at_most b (and_front _ _ (and_back (is_digit a) _ h)) in
    let pc = digit_at_most c (and_front _ _ (and_back (is_digit b) _ (and_back (is_digit a) _ h))) in
    let pd = digit_at_most d (and_front _ _ (and_back (is_digit c) _ (and_back (is_digit b) _ (and_back (is_digit a) _ h)))) in
    omega arith
four_digits_spell [] h = absurd (cc)
four_digits_spell (a ∷ []) h = absurd (cc)
four_digits_spell (a ∷ b ∷ []) h = absurd (cc)
four_digits_spell (a ∷ b ∷ c ∷ []) h = absurd (cc)
four_digits_spell (a ∷ b ∷ c ∷ d ∷ e ∷ more) h = absurd (too_long (length more) (and_front _ _ h))
  where
    too_long : (n : ℕ) → is_between 4 4 (suc (suc (suc (suc (suc n))))) ≡ true → ⊥
    too_long n h = grind (arith, nat_tests)
