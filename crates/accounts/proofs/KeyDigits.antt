-- The digits of a key: what decodes is what they spell, and where nothing decodes, not all are digits.
use Rattle.std.proofs.Common.{◌≡◌, ◌*◌, ℕ, List, length, Bool, true, false, Result, Ok, Err, refl, sym, ap, ◌∙◌}
use Rattle.std.specs.Prelude.{is_ok, MatchResult}
use Rattle.std.specs.List.{list_all}
use Rattle.hex.specs.Hex.{decode_sized}
use Rattle.hex.specs.declared.error.FromHexError.{FromHexError}
use Rattle.hex.proofs.HexLemmas.{decode_of-ok, decode_sized-twice, IsOk-decode_sized}
use Rattle.arc_data.specs.Digits.{is_hex, bytes_spelled}
use Rattle.arc_text.proofs.DigitPairs.{all_hex, decode_sized-spelled}

-- what decodes into room for n bytes
pub record IsSpelled (digits : List ℕ) (n : ℕ) (bytes : List ℕ) : Type 0 where
  pub all : list_all is_hex digits ≡ true
  pub room : length digits ≡ 2 * n
  pub twice : length digits ≡ 2 * length bytes
  pub bytes_are : bytes ≡ bytes_spelled digits

pub is-spelled : (digits : List ℕ) (n : ℕ) (bytes : List ℕ) → decode_sized digits n ≡ Ok bytes → IsSpelled digits n bytes
is-spelled digits n bytes is =
    let room = ((IsOk-decode_sized digits n).0 (ap is_ok is)).0 in
    let all = all_hex digits n (ap is_ok is) in
    record {
      all = all;
      room = room;
      twice = (decode_of-ok digits bytes (sym (decode_sized-twice digits n room) ∙ is)).2;
      bytes_are = cc (sym is ∙ decode_sized-spelled digits n room all);
    }

-- where the length fits and nothing decodes, not all are digits
pub not-spelled : (digits : List ℕ) (n : ℕ) (e : FromHexError) → length digits ≡ 2 * n → decode_sized digits n ≡ Err e → list_all is_hex digits ≡ false
not-spelled digits n e twice is = by (list_all is_hex digits) refl
  where
    by : (all : Bool) → list_all is_hex digits ≡ all → list_all is_hex digits ≡ false
    by false not_all = not_all
    by true all = cc (sym is ∙ decode_sized-spelled digits n twice all)

-- what decoding into a slice answers, by what it wrote
abbrev Decodes : Result (List ℕ) FromHexError → Result Unit FromHexError → List ℕ → Type 0
Decodes decoded answer out = MatchResult decoded (λ bytes. (answer ≡ Ok tt) × (out ≡ bytes)) (λ e. answer ≡ Err e)

pub decoded-ok : (decoded : Result (List ℕ) FromHexError) (answer : Result Unit FromHexError) (out : List ℕ) → Decodes decoded answer out → true ≡ is_ok answer → decoded ≡ Ok out
decoded-ok (Ok bytes) answer out is ok = ap Ok (sym is.1)
decoded-ok (Err e) answer out is ok = cc (ok ∙ ap is_ok is)

pub decoded-err : (decoded : Result (List ℕ) FromHexError) (answer : Result Unit FromHexError) (out : List ℕ) → Decodes decoded answer out → false ≡ is_ok answer → (e : FromHexError) × (decoded ≡ Err e)
decoded-err (Ok bytes) answer out is err = cc (err ∙ ap is_ok is.0)
decoded-err (Err e) answer out is err = (e, refl)
