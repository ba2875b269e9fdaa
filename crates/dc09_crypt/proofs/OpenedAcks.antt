-- A sealed acknowledgement opens to the bracket and the stamp.
use Rattle.std.proofs.Common.{◌≡◌, ℕ, ◌+◌, ◌-◌, ◌%◌, ◌<◌, true, false, List, [], ◌∷◌, ◌++◌, length, drop, map, Some, refl, sym, ap, ◌∙◌, arith, append_assoc, length-append}
use Rattle.std.specs.List.{position, position_or_len}
use Rattle.std.proofs.lemmas.Bool.{ne_eqb}
use Rattle.std.proofs.lemmas.List.Elements.{All-append, All-cons, All-nil}
use Rattle.std.proofs.lemmas.List.{length-map}
use Rattle.std.proofs.Math.Seq.{drop-append_seam}
use Rattle.aes_chain.specs.Laws.{IsKey, AreBytes, IsWhole}
use Rattle.aes_chain.specs.Chain.{chain_encrypted, chain_decrypted}
use Rattle.aes_chain.proofs.States.{byte_lt}
use Rattle.aes_chain.proofs.Chaining.{chain_decrypted-chain_encrypted, length-chain_encrypted, IsWhole-chain_encrypted}
use Rattle.civil_time.specs.Stamp.{stamp, stamp_time, IsMoment}
use Rattle.civil_time.proofs.StampLemmas.{length-stamp, stamp_time-stamp}
use Rattle.dc09_crypt.specs.declared.opening.Opening.TheVariants.{Text}
use Rattle.dc09_crypt.specs.Sealed.{is_cipher, text_under, is_bar, stamp_behind, opened_at, opened_with, pad_letter, ack_text, sealed_digits, OpensAgain}
use Rattle.dc09_crypt.proofs.Openings.{cipher_text, all_cipher}
use Rattle.dc09_crypt.proofs.StampBytes.{stamp_bytes}
use Rattle.dc09_crypt.proofs.UpperDigits.{spelled_again}

pub length-ack_text : (stamp noise : List ℕ) → length stamp ≡ 20 → length noise ≡ 10 → length (ack_text stamp noise) ≡ 32
length-ack_text stamp noise twenty ten = omega (arith, length-append (map pad_letter noise) (124 ∷ 93 ∷ stamp), length-map noise pad_letter, twenty, ten)

-- no letter of the pad is a bar
bar_place : (noise rest : List ℕ) → position_or_len is_bar (map pad_letter noise ++ 124 ∷ rest) ≡ length noise
bar_place [] rest = refl
bar_place (n ∷ noise) rest =
    let other : is_bar (pad_letter n) ≡ false = ne_eqb (65 + n % 26) 124 (λ is. omega arith) in
    rw (other, bar_place noise rest) (omega arith)

stamp_place : (stamp noise : List ℕ) → length noise ≡ 10 → drop 12 (ack_text stamp noise) ≡ stamp
stamp_place stamp noise ten =
    let front : List ℕ = map pad_letter noise ++ 124 ∷ 93 ∷ [] in
    let size : length front ≡ 12 = omega (arith, length-append (map pad_letter noise) (124 ∷ 93 ∷ []), length-map noise pad_letter, ten) in
    ap (drop 12) (sym (append_assoc (map pad_letter noise) (124 ∷ 93 ∷ []) stamp)) ∙ ap (λ k. drop k (front ++ stamp)) (sym size) ∙ drop-append_seam front stamp

-- what the text of an acknowledgement is, cut at its first bar
text_opens : (noise : List ℕ) (t : ℕ) → length noise ≡ 10 → IsMoment t → opened_at (ack_text (stamp t) noise) (position is_bar (ack_text (stamp t) noise)) ≡ Text 11 12 t
text_opens noise t ten moment =
    let text : List ℕ = ack_text (stamp t) noise in
    let size : length text ≡ 32 = length-ack_text (stamp t) noise (length-stamp t) ten in
    let bar : position_or_len is_bar text ≡ 10 = bar_place noise (93 ∷ stamp t) ∙ ten in
    let time : stamp_time (drop 12 text) ≡ Some t = ap stamp_time (stamp_place (stamp t) noise ten) ∙ stamp_time-stamp t moment in
    let found : position is_bar text ≡ Some 10 = rw (bar, size) refl in
    let behind : stamp_behind text 11 ≡ Some t = rw size time in
    ap (opened_at text) found ∙ ap (opened_with text 11) behind ∙ ap (λ (n : ℕ). Text 11 (n - 20) t) size

pad_bytes : (noise : List ℕ) → AreBytes (map pad_letter noise)
pad_bytes [] = All-nil (λ b. b < 256)
pad_bytes (n ∷ noise) = All-cons (λ b. b < 256) (pad_letter n) (map pad_letter noise) (omega arith) (pad_bytes noise)

ack_text_whole : (noise : List ℕ) (t : ℕ) → length noise ≡ 10 → IsMoment t → IsWhole (ack_text (stamp t) noise)
ack_text_whole noise t ten moment =
    let P : ℕ → Type 0 = λ b. b < 256 in
    let end : AreBytes (124 ∷ 93 ∷ stamp t) = All-cons P 124 (93 ∷ stamp t) (omega arith) (All-cons P 93 (stamp t) (omega arith) (stamp_bytes t moment)) in
    (All-append P (map pad_letter noise) (124 ∷ 93 ∷ stamp t) (pad_bytes noise) end, omega (arith, length-ack_text (stamp t) noise (length-stamp t) ten))

pub ack_opens : (key noise : List ℕ) (t : ℕ) → IsKey key → length noise ≡ 10 → IsMoment t → OpensAgain key noise t
ack_opens key noise t k ten moment =
    let text : List ℕ = ack_text (stamp t) noise in
    let cipher : List ℕ = chain_encrypted key text in
    let digits : List ℕ = sealed_digits key (stamp t) noise in
    let whole = ack_text_whole noise t ten moment in
    let bytes = IsWhole-chain_encrypted key text k whole in
    let again = spelled_again cipher (byte_lt cipher bytes.0) in
    let size : length digits ≡ 64 = omega (arith, again.size, length-chain_encrypted key text k whole, length-ack_text (stamp t) noise (length-stamp t) ten) in
    let opened : text_under key digits ≡ text = ap (chain_decrypted key) again.spelled ∙ chain_decrypted-chain_encrypted key text k whole in
    let is : is_cipher digits ≡ true = all_cipher digits again.hex (omega arith) (omega arith) in
    record { text = opened; opening = sym (cipher_text key digits text is (sym opened)) ∙ text_opens noise t ten moment }
