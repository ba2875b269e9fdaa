-- The key that digits spell.
use Rattle.std.proofs.Common.{◌≡◌, ◌*◌, ◌/◌, ◌%◌, ◌==◌, inl, inr, ℕ, List, Bool, true, false, Option, Some, None, Ok, Err, length, refl, sym, ap, ◌∙◌, arith}
use Rattle.std.specs.Prelude.{◌&&◌, ◌||◌, ◌↔◌, if◌then◌else◌, IsSome, IfSome}
use Rattle.std.specs.List.{list_all}
use Rattle.std.specs.Option.{option_map}
use Rattle.std.proofs.lemmas.Bool.{and_parts}
use Rattle.std.proofs.lemmas.Bool.Decides.{nat_tests}
use Rattle.aes_chain.specs.Laws.{IsKeyLen}
use Rattle.hex.specs.Hex.{decode_sized}
use Rattle.hex.specs.declared.error.FromHexError.{FromHexError}
use Rattle.arc_data.specs.Digits.{is_hex, bytes_spelled}
use Rattle.alarm_rules.specs.SetupWords.{is_key, key_spelled}
use Rattle.accounts.proofs.KeyDigits.{IsSpelled, is-spelled, not-spelled}

abbrev is_length : ℕ → Bool
is_length n = (n == 32) || (n == 48) || (n == 64)

even : (n : ℕ) → is_length n ≡ true → n % 2 ≡ 0
even n is = grind (arith, nat_tests)

length-key : (n : ℕ) → IsKeyLen n → is_length (2 * n) ≡ true
length-key n (inl is) = rw is refl
length-key n (inr (inl is)) = rw is refl
length-key n (inr (inr is)) = rw is refl

key-length : (n : ℕ) → is_length (2 * n) ≡ true → IsKeyLen n
key-length n is = grind (arith, nat_tests)

chosen : (digits : List ℕ) (b : Bool) → is_key digits ≡ b → key_spelled digits ≡ option_map bytes_spelled (if b then Some digits else None)
chosen digits b is = ap (λ c. option_map bytes_spelled (if c then Some digits else None)) is

-- what does not decode is no key
pub no-key : (digits : List ℕ) (n : ℕ) (e : FromHexError) → n ≡ length digits / 2 → decode_sized digits n ≡ Err e → None ≡ key_spelled digits
no-key digits n e half is = by (is_key digits) refl
  where
    by : (b : Bool) → is_key digits ≡ b → None ≡ key_spelled digits
    by false is_none = sym (chosen digits false is_none)
    by true is_one =
        let parts = and_parts (list_all is_hex digits) (is_length (length digits)) is_one in
        cc (sym parts.0 ∙ not-spelled digits n e (omega (arith, half, even (length digits) parts.1)) is)

-- what decodes is one where it has a key's length
module _ (digits : List ℕ) (n : ℕ) (bytes : List ℕ) (is : decode_sized digits n ≡ Ok bytes) where
  spelled : IsSpelled digits n bytes
  spelled = is-spelled digits n bytes is

  pub a-key : (key : Option (List ℕ)) → IsSome key ↔ IsKeyLen (length bytes) → IfSome key (λ k. k ≡ bytes) → key ≡ key_spelled digits
  a-key (Some k) permitted same =
      let long : is_length (length digits) ≡ true = rw spelled.twice (length-key (length bytes) (permitted.0 refl)) in
      ap Some (same ∙ spelled.bytes_are) ∙ sym (chosen digits true (λ i. spelled.all i && long i))
  a-key None permitted same = by (is_key digits) refl
    where
      by : (b : Bool) → is_key digits ≡ b → None ≡ key_spelled digits
      by false is_none = sym (chosen digits false is_none)
      by true is_one =
          let parts = and_parts (list_all is_hex digits) (is_length (length digits)) is_one in
          cc (permitted.1 (key-length (length bytes) (rw spelled.twice at parts.1)))
