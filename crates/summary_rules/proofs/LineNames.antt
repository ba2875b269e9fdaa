-- The name of a line is a short text of bytes.
use Rattle.std.proofs.Common.{◌≡◌, ◌<◌, ℕ, List, [], ◌∷◌, length, true, leb, arith}
use Rattle.std.specs.Prelude.{◌&&◌}
use Rattle.std.specs.List.{list_all}
use Rattle.std.proofs.lemmas.Bool.{leb-true, and_parts}
use Rattle.std.proofs.lemmas.Bool.Decides.{nat_tests}
use Rattle.arc_data.specs.Digits.{is_name, is_name_byte, AreBytes}
use Rattle.summary_rules.specs.Fields.{IsTextUpTo}

name_byte : (b : ℕ) → is_name_byte b ≡ true → b < 256
name_byte b h = grind (arith, nat_tests)

name_bytes : (text : List ℕ) → list_all is_name_byte text ≡ true → AreBytes text
name_bytes [] h = tt
name_bytes (b ∷ bs) h = let p = and_parts (is_name_byte b) (list_all is_name_byte bs) h in (name_byte b p.0, name_bytes bs p.1)

pub line_short : (via : List ℕ) → is_name via ≡ true → IsTextUpTo 16 via
line_short via h =
    let p = and_parts (leb 1 (length via) && leb (length via) 16) (list_all is_name_byte via) h in
    let q = and_parts (leb 1 (length via)) (leb (length via) 16) p.0 in
    record { size = leb-true _ _ q.1; bytes = name_bytes via p.1 }
