-- The body of a sealed acknowledgement.
use Rattle.std.proofs.Common.{◌≡◌, ℕ, true, List, [], ◌∷◌, ◌++◌, length, drop, refl, ap, ◌∙◌, arith, append_assoc}
use Rattle.std.specs.Prelude.{codes}
use Rattle.std.specs.List.{list_all}
use Rattle.dc09_frame.specs.declared.header.Header.{Header}
use Rattle.dc09_frame.specs.Frames.{is_clean, IsBody}
use Rattle.dc09_frame.specs.Headers.{IsHeader, fields}
use Rattle.dc09_frame.proofs.FrameLaws.{behind_nine, fields_short, short-append, short-cons}

pub ack_is_body : (h : Header) (digits : List ℕ) → IsHeader h → length digits ≡ 64 → list_all is_clean digits ≡ true → IsBody (codes "\"*ACK\"" ++ fields h ++ 91 ∷ digits)
ack_is_body h digits is size clean =
    let front = short-append 6 35 (codes "\"*ACK\"") (fields h) (record { size = omega arith; clean = refl }) (fields_short h is) in
    let most = short-append 41 65 (codes "\"*ACK\"" ++ fields h) (91 ∷ digits) front (short-cons 64 91 digits refl (record { size = omega arith; clean = clean })) in
    record { some = omega arith; size = omega (arith, most.size); quote = refl; clean = most.clean }

regrouped : (head word middle digits : List ℕ) → (((head ++ word) ++ middle) ++ 91 ∷ []) ++ digits ≡ head ++ (word ++ middle ++ 91 ∷ digits)
regrouped head word middle digits = simp append_assoc

-- what stands behind the nine bytes is the acknowledgement's body
pub ack_stands : (h : Header) (head a b c d digits : List ℕ) → length head ≡ 9 → a ≡ head ++ codes "\"*ACK\"" → b ≡ a ++ fields h → c ≡ b ++ 91 ∷ [] → d ≡ c ++ digits → drop 9 d ≡ codes "\"*ACK\"" ++ fields h ++ 91 ∷ digits
ack_stands h head a b c d digits nine ea eb ec ed =
    let body : List ℕ = codes "\"*ACK\"" ++ fields h ++ 91 ∷ digits in
    let whole : d ≡ head ++ body = rw (ed, ec, eb, ea) (regrouped head (codes "\"*ACK\"") (fields h) digits) in
    ap (drop 9) whole ∙ behind_nine head body nine
