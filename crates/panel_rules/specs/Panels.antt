-- Panels: what happens to one, and what it does then.
use Rattle.std.specs.Prelude.{◌≡◌, ℕ, zero, suc, ◌+◌, ◌-◌, ◌/◌, ◌%◌, ◌==◌, ◌&&◌, ◌||◌, ◌++◌, Bool, true, false, not, if◌then◌else◌}
use Rattle.std.specs.Prelude.{List, [], ◌∷◌, Option, Some, None, codes, nat_le, nat_lt, length}
use Rattle.std.specs.List.{list_any}
use Rattle.std.specs.Option.{option_and_then, option_map, option_map_or}
use Rattle.std.specs.Str.{bytes_eq}
use Rattle.arc_data.specs.Digits.{is_capital_hex, is_between, is_hex, is_run, two_digits}
use Rattle.arc_data.specs.declared.event.Token.{Token}
use Rattle.arc_data.specs.declared.event.Token.TheVariants.{SiaDcs, AdmCid}
use Rattle.alarm_rules.specs.Signals.{has_signals}
use Rattle.dc09_frame.specs.Headers.{header_bytes, echo_body}
use Rattle.dc09_frame.specs.declared.header.Echo.TheVariants.{Ack}
use Rattle.dc09_frame.specs.declared.header.Header.{Header}
use Rattle.panel_rules.specs.declared.Heard.{Heard}
use Rattle.panel_rules.specs.declared.Heard.TheVariants.{Acked, Other}
use Rattle.panel_rules.specs.declared.Queued.{Queued}
use Rattle.panel_rules.specs.declared.Queued.TheVariants.{Taken, Full, BadData}
use Rattle.panel_rules.specs.Marks.{Report, Mark, Takes, Steps, Acks, count, in_flight, numbered, sends, taken, waiting}

-- how a panel is set up: its account, its line number, and the number of its first message
pub record Setting : Type 0 where
  pub account : List ℕ
  pub line : List ℕ
  pub first : ℕ

-- 3 to 16 hexadecimal digits in capitals, 1 to 6 hexadecimal digits, and 1 to 9999
abbrev pub is_setting : Setting → Bool
is_setting s = is_run is_capital_hex 3 16 s.account && is_run is_hex 1 6 s.line && is_between 1 9999 s.first

-- What happens to a panel: it is given an event to send, it does a step at a moment, it hears the body of a reply.
pub data Happening : Type 0 where
  Queue : (token : Token) (content : List ℕ) → Happening
  Step : (now : ℕ) → Happening
  Hear : (body : List ℕ) → Happening

-- Messages.

-- the number that follows: 9999 is followed by 1
abbrev pub next_number : ℕ → ℕ
next_number number = if number == 9999 then 1 else number + 1

-- the number of the message that so many went before: the first, and then always the next
abbrev pub number_after : Setting → ℕ → ℕ
number_after s zero = s.first
number_after s (suc before) = next_number (number_after s before)

-- the number of the message of event n, counted from 1
abbrev pub number : Setting → ℕ → ℕ
number s n = number_after s (n - 1)

-- a number in four digits
abbrev pub sequence : ℕ → List ℕ
sequence k = two_digits (k / 100) ++ two_digits (k % 100)

abbrev pub token_bytes : Token → List ℕ
token_bytes SiaDcs = codes "SIA-DCS"
token_bytes AdmCid = codes "ADM-CID"

-- the header of a message, by its account, line, number and token
abbrev pub header_of : List ℕ → List ℕ → ℕ → Token → Header
header_of account line number token = record {
  sealed = false;
  token = token_bytes token;
  seq = sequence number;
  receiver = None;
  line = line;
  account = account;
}

-- The body of a message: a double quote, the token, a double quote, four digits, `L` and the line, `#` and the account, `[`, `#` and the
-- account, `|`, the data, `]`.
abbrev pub body_of : List ℕ → List ℕ → ℕ → Report → List ℕ
body_of account line number report =
    header_bytes (header_of account line number report.token) ++ 35 ∷ account ++ 124 ∷ report.content ++ 93 ∷ []

-- the header and the body of the message of event n
abbrev pub header : Setting → ℕ → Token → Header
header s n token = header_of s.account s.line (number s n) token

abbrev pub message_body : Setting → ℕ → Report → List ℕ
message_body s n report = body_of s.account s.line (number s n) report

-- the body of the plain acknowledgement of the message of event n: its word and the header's fields as they were sent
abbrev pub ack_body : Setting → ℕ → Token → List ℕ
ack_body s n token = echo_body Ack (header s n token)

-- What is taken.

-- `[`, `]`, a line feed or a carriage return
abbrev pub is_barred : ℕ → Bool
is_barred b = (b == 91) || (b == 93) || (b == 10) || (b == 13)

-- data that no message of a panel carries: more than 3900 bytes, a barred byte, or no signals
abbrev pub is_bad : Token → List ℕ → Bool
is_bad token content = nat_lt 3900 (length content) || list_any is_barred content || not (has_signals token content)

-- 1,000 events wait
abbrev pub is_full : List Mark → Bool
is_full ms = nat_le 1000 (length (waiting ms))

-- what comes of an event that is given to a panel with these marks
abbrev pub queued : List Mark → Token → List ℕ → Queued
queued ms token content =
    if is_bad token content then BadData else if is_full ms then Full else Taken (count ms + 1)

-- What is heard.

-- there is an event n, and a body acknowledges its message
abbrev pub is_ack : Setting → List Mark → ℕ → List ℕ → Bool
is_ack s ms n body = option_map_or (λ report. bytes_eq body (ack_body s n report.token)) (numbered n (taken ms)) false

-- what a body tells a panel with these marks: that the message in flight is acknowledged, where it is the plain acknowledgement of it
abbrev pub heard : Setting → List Mark → List ℕ → Heard
heard s ms body = option_map_or (λ n. if is_ack s ms n body then Acked n else Other) (in_flight ms) Other

-- The marks that what happened leaves, the newest first.

abbrev pub marks_queued : Token → List ℕ → Queued → List Mark
marks_queued token content (Taken n) = Takes (record { token = token; content = content }) ∷ []
marks_queued token content other = []

abbrev pub marks_heard : Heard → List Mark
marks_heard (Acked n) = Acks n ∷ []
marks_heard Other = []

-- the marks of a panel to which all this happened, the newest first
abbrev pub marks : Setting → List Happening → List Mark
marks s [] = []
marks s (Queue token content ∷ h) = let ms = marks s h in marks_queued token content (queued ms token content) ++ ms
marks s (Step now ∷ h) = let ms = marks s h in Steps now (sends ms now) ∷ ms
marks s (Hear body ∷ h) = let ms = marks s h in marks_heard (heard s ms body) ++ ms

-- the body that is sent of an event, where there is one
abbrev pub body_of_event : Setting → List Mark → Option ℕ → Option (List ℕ)
body_of_event s ms sent = option_and_then (λ n. option_map (message_body s n) (numbered n (taken ms))) sent

-- the body that a step at a moment sends, where it sends one, after all this happened
abbrev pub body_sent : Setting → List Happening → ℕ → Option (List ℕ)
body_sent s h now = body_of_event s (marks s h) (sends (marks s h) now)
