-- The header of a body (DC-09, the message's fields).
use Rattle.std.specs.Prelude.{◌≡◌, ℕ, ◌-◌, ◌==◌, ◌||◌, ◌++◌, List, [], ◌∷◌, Bool, true, false, if◌then◌else◌, Option, Some, None}
use Rattle.std.specs.Prelude.{option_and_then, length, drop, codes}
use Rattle.std.specs.List.{take_while}
use Rattle.std.specs.Option.{option_map, option_map_or}
use Rattle.arc_data.specs.Digits.{is_between, is_digit, is_hex, is_run}
use Rattle.arc_data.specs.WellFormed.{is_receiver}
use Rattle.dc09_frame.specs.declared.header.Header.{Header}
use Rattle.dc09_frame.specs.declared.header.Echo.{Echo}
use Rattle.dc09_frame.specs.declared.header.Echo.TheVariants.{Ack, Duh}

-- `A` to `Z`, `0` to `9` and `-`
abbrev pub is_token_byte : ℕ → Bool
is_token_byte b = is_between 65 90 b || is_digit b || (b == 45)

-- the fields are in their ranges: a token of 1 to 16 bytes, four digits, no `R` field or 1 to 6 hexadecimal digits, an `L`
-- field of 1 to 6, an account of 3 to 16
pub record IsHeader (h : Header) : Type 0 where
  pub token : is_run is_token_byte 1 16 h.token ≡ true
  pub sequence : is_run is_digit 4 4 h.seq ≡ true
  pub receiver : is_receiver h.receiver ≡ true
  pub line : is_run is_hex 1 6 h.line ≡ true
  pub account : is_run is_hex 3 16 h.account ≡ true

-- `*`, which says that the message is sealed
abbrev pub star : Bool → List ℕ
star sealed = if sealed then 42 ∷ [] else []

-- the `R` field, where there is one
abbrev pub receiver_field : Option (List ℕ) → List ℕ
receiver_field receiver = option_map_or (λ digits. 82 ∷ digits) receiver []

-- sequence, `R` field, `L` field, `#` and account, as they came
abbrev pub fields : Header → List ℕ
fields h = h.seq ++ receiver_field h.receiver ++ 76 ∷ h.line ++ 35 ∷ h.account

-- the bytes of a header: a double quote, the star, the token, a double quote, the fields, `[`
abbrev pub header_bytes : Header → List ℕ
header_bytes h = 34 ∷ star h.sealed ++ h.token ++ 34 ∷ fields h ++ 91 ∷ []

-- Reading a header from the front of a body. Each part gives what it read and what is left.

-- what follows this byte, where the bytes begin with it
abbrev pub after_byte : ℕ → List ℕ → Option (List ℕ)
after_byte b [] = None
after_byte b (x ∷ xs) = if x == b then Some xs else None

-- the longest run of bytes that pass the test, where it has between so many and so many bytes, and what follows it
unfoldable pub run_at : (ℕ → Bool) → ℕ → ℕ → List ℕ → Option (List ℕ × List ℕ)
run_at test low high xs =
    let run = take_while test xs in
    if is_between low high (length run) then Some (run, drop (length run) xs) else None

-- the star, where there is one
abbrev pub star_at : List ℕ → Bool × List ℕ
star_at [] = (false, [])
star_at (x ∷ xs) = if x == 42 then (true, xs) else (false, x ∷ xs)

-- the `R` field, where there is one
abbrev pub receiver_at : List ℕ → Option (Option (List ℕ) × List ℕ)
receiver_at [] = Some (None, [])
receiver_at (x ∷ xs) =
    if x == 82 then option_map (λ found. (Some found.0, found.1)) (run_at is_hex 1 6 xs) else Some (None, x ∷ xs)

infixl 10 ◌>>=◌
abbrev pub ◌>>=◌ : {A B : Type 0} → Option A → (A → Option B) → Option B
part >>= f = option_and_then f part

-- the header that begins a body, and how many bytes it has
unfoldable pub header_at : List ℕ → Option (Header × ℕ)
header_at body = do
  after_quote ← after_byte 34 body
  token ← run_at is_token_byte 1 16 (star_at after_quote).1
  after_token ← after_byte 34 token.1
  sequence ← run_at is_digit 4 4 after_token
  receiver ← receiver_at sequence.1
  after_l ← after_byte 76 receiver.1
  line ← run_at is_hex 1 6 after_l
  after_hash ← after_byte 35 line.1
  account ← run_at is_hex 3 16 after_hash
  rest ← after_byte 91 account.1
  Some (
    record {
      sealed = (star_at after_quote).0;
      token = token.0;
      seq = sequence.0;
      receiver = receiver.0;
      line = line.0;
      account = account.0;
    },
    length body - length rest,
  )

-- What is read is spelled so.
pub record IsReadFrom (body : List ℕ) (h : Header) (n : ℕ) : Type 0 where
  pub header : IsHeader h
  pub count : length (header_bytes h) ≡ n
  pub spelled : body ≡ header_bytes h ++ drop n body

abbrev pub ReadIsSpelled : Type 0
ReadIsSpelled = (body : List ℕ) (h : Header) (n : ℕ) → header_at body ≡ Some (h, n) → IsReadFrom body h n

-- What is spelled so is read, whatever follows.
abbrev pub SpelledIsRead : Type 0
SpelledIsRead = (h : Header) (rest : List ℕ) → IsHeader h → header_at (header_bytes h ++ rest) ≡ Some (h, length (header_bytes h))

-- Replies.

abbrev pub word_of : Echo → List ℕ
word_of Ack = codes "ACK"
word_of Duh = codes "DUH"

-- the body of a reply that echoes a header: its word in double quotes, the fields as they came, `[]`
abbrev pub echo_body : Echo → Header → List ℕ
echo_body word h = 34 ∷ word_of word ++ 34 ∷ fields h ++ codes "[]"

-- the body of the reply that refuses a message for its time: `"NAK"`, fields of zeros, `[]`, the receiver's stamp
abbrev pub nak_body : List ℕ → List ℕ
nak_body stamp = codes "\"NAK\"0000R0L0A0[]" ++ stamp
