-- Sealed messages. Their layout is this project's own profile of DC-09's encryption: the bytes after the header are
-- hexadecimal digits, which spell chained AES blocks; the text is a pad, a bar, the rest and a stamp.
use Rattle.std.specs.Prelude.{◌≡◌, ℕ, ◌+◌, ◌-◌, ◌/◌, ◌%◌, ◌≤◌, ◌==◌, ◌&&◌, ◌++◌, nat_le, List, [], ◌∷◌, Bool, if◌then◌else◌}
use Rattle.std.specs.Prelude.{Option, Some, None, length, drop, map, codes}
use Rattle.std.specs.List.{list_all, flat_map, position}
use Rattle.arc_data.specs.Digits.{is_hex, bytes_spelled}
use Rattle.aes_chain.specs.Chain.{chain_encrypted, chain_decrypted}
use Rattle.aes_chain.specs.Laws.{IsKey}
use Rattle.civil_time.specs.Stamp.{stamp, stamp_time, IsMoment}
use Rattle.dc09_frame.specs.Frames.{digit_of}
use Rattle.dc09_frame.specs.Headers.{fields}
use Rattle.dc09_frame.specs.declared.header.Header.{Header}
use Rattle.dc09_crypt.specs.declared.opening.Opening.{Opening}
use Rattle.dc09_crypt.specs.declared.opening.Opening.TheVariants.{NotCipher, NoBar, NoStamp, Text}

-- cipher digits: hexadecimal digits in either case, at least 32, and a multiple of 32
abbrev pub is_cipher : List ℕ → Bool
is_cipher digits = list_all is_hex digits && nat_le 32 (length digits) && (length digits % 32 == 0)

-- the text that cipher digits stand for under a key
abbrev pub text_under : List ℕ → List ℕ → List ℕ
text_under key digits = chain_decrypted key (bytes_spelled digits)

abbrev pub is_bar : ℕ → Bool
is_bar b = b == 124

-- the moment of the stamp that the last 20 bytes of a text are, where so many stand behind a place and are a stamp
abbrev pub stamp_behind : List ℕ → ℕ → Option ℕ
stamp_behind text from = if nat_le (from + 20) (length text) then stamp_time (drop (length text - 20) text) else None

abbrev pub opened_with : List ℕ → ℕ → Option ℕ → Opening
opened_with text from None = NoStamp
opened_with text from (Some t) = Text from (length text - 20) t

abbrev pub opened_at : List ℕ → Option ℕ → Opening
opened_at text None = NoBar
opened_at text (Some bar) = opened_with text (bar + 1) (stamp_behind text (bar + 1))

-- What the digits are: no cipher digits; a text without a bar; a text that has no readable stamp behind its first bar; or a
-- text, of which the rest goes from behind the first bar to the stamp, its last 20 bytes.
unfoldable pub opening_of : List ℕ → List ℕ → Opening
opening_of key digits = if is_cipher digits then opened_at (text_under key digits) (position is_bar (text_under key digits)) else NotCipher

-- the places of a text's rest lie in the text, and its stamp is a moment
abbrev pub LiesIn : Opening → List ℕ → Type 0
LiesIn NotCipher text = Unit {0}
LiesIn NoBar text = Unit {0}
LiesIn NoStamp text = Unit {0}
LiesIn (Text from to t) text = (from ≤ to) × (to + 20 ≡ length text) × IsMoment t

-- The sealed acknowledgement.

-- a noise byte as a letter from `A` to `Z`
abbrev pub pad_letter : ℕ → ℕ
pad_letter noise = 65 + noise % 26

-- what an acknowledgement seals: ten letters, a bar, a closing bracket, and the stamp
abbrev pub ack_text : List ℕ → List ℕ → List ℕ
ack_text stamp noise = map pad_letter noise ++ 124 ∷ 93 ∷ stamp

-- bytes as pairs of upper-case hexadecimal digits
abbrev pub upper_digits : List ℕ → List ℕ
upper_digits bytes = flat_map (λ b. digit_of (b / 16) ∷ digit_of (b % 16) ∷ []) bytes

-- the digits of an acknowledgement
abbrev pub sealed_digits : List ℕ → List ℕ → List ℕ → List ℕ
sealed_digits key stamp noise = upper_digits (chain_encrypted key (ack_text stamp noise))

-- the body of a sealed acknowledgement: `"*ACK"`, the header's fields as they came, `[` and the digits
abbrev pub sealed_ack_body : List ℕ → Header → List ℕ → List ℕ → List ℕ
sealed_ack_body key h stamp noise = codes "\"*ACK\"" ++ fields h ++ 91 ∷ sealed_digits key stamp noise

-- What is sealed opens, under the same key, to the bracket and the stamp.
pub record OpensAgain (key noise : List ℕ) (t : ℕ) : Type 0 where
  pub text : text_under key (sealed_digits key (stamp t) noise) ≡ ack_text (stamp t) noise
  pub opening : opening_of key (sealed_digits key (stamp t) noise) ≡ Text 11 12 t

abbrev pub AcksOpenAgain : Type 0
AcksOpenAgain = (key noise : List ℕ) (t : ℕ) → IsKey key → length noise ≡ 10 → IsMoment t → OpensAgain key noise t
