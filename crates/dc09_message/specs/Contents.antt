-- What a message keeps of its blocks. A plain message is all that stands behind the header. Of a sealed one it is what the
-- decrypted text has between its first bar and its stamp.
use Rattle.std.specs.Prelude.{◌≡◌, ℕ, ◌+◌, ◌==◌, ◌&&◌, ◌++◌, ◌⊎◌, List, [], ◌∷◌, Bool, true, false, if◌then◌else◌, Option, Some}
use Rattle.std.specs.Prelude.{None, length, take, codes}
use Rattle.std.specs.List.{list_all}
use Rattle.std.specs.Str.{bytes_eq}
use Rattle.arc_data.specs.Digits.{capitals, is_account, is_hex}
use Rattle.arc_data.specs.declared.event.Token.{Token}
use Rattle.arc_data.specs.declared.event.Token.TheVariants.{SiaDcs, AdmCid}
use Rattle.alarm_rules.specs.SetupLines.{is_nil}
use Rattle.alarm_rules.specs.Signals.{has_signals}
use Rattle.dc09_frame.specs.Headers.{◌>>=◌, after_byte, run_at}
use Rattle.dc09_frame.specs.declared.header.Header.{Header}
use Rattle.dc09_message.specs.Blocks.{Blocks, are_free, blocks_bytes, blocks_at}
use Rattle.dc09_message.specs.declared.kind.MessageKind.{MessageKind}
use Rattle.dc09_message.specs.declared.kind.MessageKind.TheVariants.{Heartbeat, Report}

-- what kind of message a token announces, where it is read at all
abbrev pub kind_of : List ℕ → Option MessageKind
kind_of token =
    if bytes_eq token (codes "NULL") then Some Heartbeat
    else if bytes_eq token (codes "ADM-CID") then Some (Report AdmCid)
    else if bytes_eq token (codes "SIA-DCS") then Some (Report SiaDcs)
    else None

-- a tail: nothing, or `_` and 19 bytes of any kind
abbrev pub is_tail : List ℕ → Bool
is_tail [] = true
is_tail (b ∷ rest) = (b == 95) && (length rest == 19)

-- only a plain message may have a tail: in a sealed one the stamp stands in its place
abbrev pub fits_tail : Header → List ℕ → Bool
fits_tail h tail = if h.sealed then is_nil tail else is_tail tail

-- the bytes begin with `#`
abbrev pub begins_account : List ℕ → Bool
begins_account [] = false
begins_account (b ∷ rest) = b == 35

-- what follows `#`, the header's account in either case, and `|`
unfoldable pub after_account : Header → List ℕ → Option (List ℕ)
after_account h bytes = do
  after_hash ← after_byte 35 bytes
  digits ← run_at is_hex 3 16 after_hash
  after_bar ← after_byte 124 digits.1
  if bytes_eq (capitals digits.0) (capitals h.account) then Some after_bar else None

-- what follows the bar of the first block: in a plain message the bar stands there, behind `#` and the account or alone; in
-- a sealed one it is cut off already
abbrev pub after_bar : Header → List ℕ → Option (List ℕ)
after_bar h first = if h.sealed then Some first else if begins_account first then after_account h first else after_byte 124 first

-- the data behind the bar: all of it, or what follows the account, where one stands there
abbrev pub data_behind : Header → List ℕ → Option (List ℕ)
data_behind h rest = if begins_account rest then after_account h rest else Some rest

-- the data and the further blocks, without the last `]`
abbrev pub kept : List ℕ → List (List ℕ) → List ℕ
kept contents further = take (length contents + length (blocks_bytes further)) (contents ++ 93 ∷ blocks_bytes further)

abbrev pub kept_if : Token → List ℕ → List (List ℕ) → Option (List ℕ)
kept_if token contents further = if has_signals token contents then Some (kept contents further) else None

-- what is kept of the blocks: of a heartbeat nothing, of a report its data and further blocks, where the data has signals
unfoldable pub content_of : MessageKind → Header → Blocks → Option (List ℕ)
content_of Heartbeat h blocks = Some []
content_of (Report token) h blocks =
    after_bar h blocks.first >>= (λ rest. data_behind h rest >>= (λ contents. kept_if token contents blocks.further))

-- the content that a message keeps, where its blocks can be read
unfoldable pub content_in : MessageKind → Header → List ℕ → Option (List ℕ)
content_in kind h bytes = blocks_at bytes >>= (λ found. if fits_tail h found.1 then content_of kind h found.0 else None)

-- The same as a relation on bytes.

-- `#`, the header's account in either case, `|`
pub record IsAccountEcho (h : Header) (echo : List ℕ) : Type 0 where
  pub digits : List ℕ
  pub is_account : is_account digits ≡ true
  pub same : capitals digits ≡ capitals h.account
  pub spelled : echo ≡ 35 ∷ digits ++ 124 ∷ []

-- what stands before the rest of the first block: nothing in a sealed message, and in a plain one a bar, with or without the
-- account before it
abbrev pub IsFront : Bool → Header → List ℕ → Type 0
IsFront true h front = front ≡ []
IsFront false h front = (front ≡ 124 ∷ []) ⊎ IsAccountEcho h front

-- A report of this token: a front, the account again or not, the data, `]`, further blocks, and a tail that fits. It keeps
-- the data and the further blocks without their last `]`.
pub record IsReport (token : Token) (h : Header) (bytes content : List ℕ) : Type 0 where
  pub front : List ℕ
  pub echo : List ℕ
  pub contents : List ℕ
  pub further : List (List ℕ)
  pub tail : List ℕ
  pub front_is : IsFront h.sealed h front
  pub echo_is : (echo ≡ []) ⊎ IsAccountEcho h echo
  pub contents_free : are_free contents ≡ true
  pub further_free : list_all are_free further ≡ true
  pub tail_fits : fits_tail h tail ≡ true
  pub contents_signal : has_signals token contents ≡ true
  pub spelled : bytes ≡ front ++ echo ++ contents ++ 93 ∷ blocks_bytes further ++ tail
  pub keeps : content ++ 93 ∷ [] ≡ contents ++ 93 ∷ blocks_bytes further

-- a heartbeat: any blocks, and a tail that fits
pub record IsHeartbeat (h : Header) (bytes : List ℕ) : Type 0 where
  pub first : List ℕ
  pub further : List (List ℕ)
  pub tail : List ℕ
  pub first_free : are_free first ≡ true
  pub further_free : list_all are_free further ≡ true
  pub tail_fits : fits_tail h tail ≡ true
  pub spelled : bytes ≡ first ++ 93 ∷ blocks_bytes further ++ tail

abbrev pub IsContent : MessageKind → Header → List ℕ → List ℕ → Type 0
IsContent Heartbeat h bytes content = IsHeartbeat h bytes × (content ≡ [])
IsContent (Report token) h bytes content = IsReport token h bytes content

-- What is read is written so.
abbrev pub ContentIsWritten : Type 0
ContentIsWritten =
    (kind : MessageKind) (h : Header) (bytes content : List ℕ) → content_in kind h bytes ≡ Some content →
    IsContent kind h bytes content

-- What is written so is read.
abbrev pub WrittenContentIsRead : Type 0
WrittenContentIsRead =
    (kind : MessageKind) (h : Header) (bytes content : List ℕ) → IsContent kind h bytes content →
    content_in kind h bytes ≡ Some content
