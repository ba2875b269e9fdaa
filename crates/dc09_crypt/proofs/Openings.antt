-- What the digits of a sealed message open to.
use Rattle.std.proofs.Common.{◌≡◌, ◌≢◌, ℕ, ◌%◌, ◌<◌, ◌≤◌, true, false, List, length, refl, arith}
use Rattle.std.specs.List.{list_all, position}
use Rattle.std.proofs.lemmas.Bool.{and_from, le-leb, eq-eqb}
use Rattle.std.proofs.lemmas.Bool.Decides.{nat_tests}
use Rattle.arc_data.specs.Digits.{is_hex}
use Rattle.dc09_crypt.specs.declared.opening.Opening.TheVariants.{NotCipher}
use Rattle.dc09_crypt.specs.Sealed.{is_cipher, text_under, is_bar, opened_at, opening_of}

pub no_cipher : (key digits : List ℕ) → is_cipher digits ≡ false → NotCipher ≡ opening_of key digits
unfolding opening_of
no_cipher key digits is = rw is refl

pub cipher_text : (key digits text : List ℕ) → is_cipher digits ≡ true → text ≡ text_under key digits → opened_at text (position is_bar text) ≡ opening_of key digits
unfolding opening_of
cipher_text key digits text is e = rw (is, e) refl

pub short_cipher : (digits : List ℕ) → length digits < 32 → is_cipher digits ≡ false
short_cipher digits lt = grind (arith, nat_tests)

pub odd_cipher : (digits : List ℕ) → length digits % 32 ≢ 0 → is_cipher digits ≡ false
odd_cipher digits ne = grind (arith, nat_tests)

pub other_cipher : (digits : List ℕ) → list_all is_hex digits ≡ false → is_cipher digits ≡ false
other_cipher digits none = rw none refl

pub all_cipher : (digits : List ℕ) → list_all is_hex digits ≡ true → 32 ≤ length digits → length digits % 32 ≡ 0 → is_cipher digits ≡ true
all_cipher digits all long whole = and_from _ _ (and_from _ _ all (le-leb 32 (length digits) long)) (eq-eqb (length digits % 32) 0 whole)
