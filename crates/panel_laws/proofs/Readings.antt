-- What a centre reads of a frame of a panel: its header, and the data behind it.
use Rattle.std.proofs.Common.{◌≡◌, ◌≤◌, ◌<◌, ◌+◌, ◌*◌, ◌-◌, ℕ, List, [], ◌∷◌, ◌++◌, length, Bool, true, false, ◌&&◌, ◌||◌, refl, sym, ap, ◌∙◌, true≢false, inl, inr, append_assoc, append-nil, arith}
use Rattle.std.specs.Prelude.{Option, Some, None, is_some, not, nat_lt, option_and_then, ◌/◌, ◌%◌}
use Rattle.std.specs.List.{list_all, list_any}
use Rattle.std.proofs.Math.Seq.{drop-append_seam}
use Rattle.std.proofs.lemmas.Bool.{and_parts, and_from, or_parts}
use Rattle.std.proofs.lemmas.Bool.Decides.{nat_tests}
use Rattle.std.specs.Char.{to_ascii_uppercase}
use Rattle.arc_data.specs.Digits.{capitals, dec_value, is_between, is_capital_hex, is_digit, is_hex, is_run}
use Rattle.arc_data.specs.declared.event.Token.{Token}
use Rattle.arc_data.specs.declared.event.Token.TheVariants.{SiaDcs, AdmCid}
use Rattle.alarm_rules.specs.Setups.{Setup, Account, account_of, has_account, key_of}
use Rattle.alarm_rules.specs.Signals.{has_signals}
use Rattle.dc09_frame.specs.Headers.{IsHeader, SpelledIsRead, header_at, header_bytes, is_token_byte}
use Rattle.dc09_message.specs.Blocks.{are_free, is_free}
use Rattle.dc09_message.specs.Contents.{IsReport, WrittenContentIsRead, content_in, kind_of}
use Rattle.dc09_message.specs.Verdicts.{verdict_of, on_header, on_kind, on_account, on_blocks, on_plain}
use Rattle.dc09_message.specs.declared.kind.MessageKind.TheVariants.{Report as Reports}
use Rattle.dc09_message.specs.declared.outcome.Verdict.TheVariants.{Numbered}
use Rattle.panel_rules.specs.declared.Report.{Report}
use Rattle.panel_rules.specs.Panels.{Setting, is_setting, is_barred, number, sequence, token_bytes, header, message_body}
use Rattle.panel_laws.specs.Worlds.{message_of}
use Rattle.panel_laws.proofs.Numbering.{gone}
use Rattle.panel_laws.proofs.Holds.{IsGood, signals_of}

-- Runs.

-- from one test to another
pub all_pass : (test other : ℕ → Bool) → ((b : ℕ) → test b ≡ true → other b ≡ true) → (bytes : List ℕ) → list_all test bytes ≡ true
    → list_all other bytes ≡ true
all_pass test other f [] all = refl
all_pass test other f (b ∷ bytes) all =
    let parts = and_parts (test b) (list_all test bytes) all in
    and_from (other b) (list_all other bytes) (f b parts.0) (all_pass test other f bytes parts.1)

capital_is_hex : (b : ℕ) → is_capital_hex b ≡ true → is_hex b ≡ true
capital_is_hex b is = grind (arith, nat_tests)

capital_stays : (b : ℕ) → is_capital_hex b ≡ true → to_ascii_uppercase b ≡ b
capital_stays b is = grind (arith, nat_tests)

-- an account in capitals
capitals_stay : (bytes : List ℕ) → list_all is_capital_hex bytes ≡ true → capitals bytes ≡ bytes
capitals_stay [] all = refl
capitals_stay (b ∷ bytes) all =
    let parts = and_parts (is_capital_hex b) (list_all is_capital_hex bytes) all in
    ap (λ c. c ∷ capitals bytes) (capital_stays b parts.0) ∙ ap (λ l. b ∷ l) (capitals_stay bytes parts.1)

-- the parts of a setting
pub record IsSet (s : Setting) : Type 0 where
  pub account : is_run is_capital_hex 3 16 s.account ≡ true
  pub line : is_run is_hex 1 6 s.line ≡ true

pub set_of : (s : Setting) → is_setting s ≡ true → IsSet s
set_of s ok =
    let outer = and_parts (is_run is_capital_hex 3 16 s.account && is_run is_hex 1 6 s.line) (is_between 1 9999 s.first) ok in
    let parts = and_parts (is_run is_capital_hex 3 16 s.account) (is_run is_hex 1 6 s.line) outer.0 in
    record { account = parts.0; line = parts.1 }

pub account_hex : (s : Setting) → IsSet s → is_run is_hex 3 16 s.account ≡ true
account_hex s set =
    let parts = and_parts (is_between 3 16 (length s.account)) (list_all is_capital_hex s.account) set.account in
    and_from (is_between 3 16 (length s.account)) (list_all is_hex s.account) parts.0
    (all_pass is_capital_hex is_hex capital_is_hex s.account parts.1)

-- The header.

digit_low : (n : ℕ) → n < 10 → is_digit (48 + n) ≡ true
digit_low n low = grind (arith, nat_tests)

four_digits : (a b c d : ℕ) → a < 10 → b < 10 → c < 10 → d < 10
    → is_run is_digit 4 4 ((48 + a) ∷ (48 + b) ∷ (48 + c) ∷ (48 + d) ∷ []) ≡ true
four_digits a b c d la lb lc ld = rw (digit_low a la, digit_low b lb, digit_low c lc, digit_low d ld) refl

pub sequence_run : (k : ℕ) → k ≤ 9999 → is_run is_digit 4 4 (sequence k) ≡ true
sequence_run k high = four_digits (k / 100 / 10) (k / 100 % 10) (k % 100 / 10) (k % 100 % 10) (omega arith) (omega arith) (omega arith) (omega arith)

spelled_by : (a b c d : ℕ) → dec_value ((48 + a) ∷ (48 + b) ∷ (48 + c) ∷ (48 + d) ∷ []) ≡ a * 1000 + b * 100 + c * 10 + d
unfolding dec_value
spelled_by a b c d = omega arith

sequence_spells : (k : ℕ) → dec_value (sequence k) ≡ k
sequence_spells k = spelled_by (k / 100 / 10) (k / 100 % 10) (k % 100 / 10) (k % 100 % 10) ∙ omega arith

token_run : (t : Token) → is_run is_token_byte 1 16 (token_bytes t) ≡ true
token_run SiaDcs = refl
token_run AdmCid = refl

token_kind : (t : Token) → kind_of (token_bytes t) ≡ Some (Reports t)
token_kind SiaDcs = refl
token_kind AdmCid = refl

number_high : (s : Setting) (n : ℕ) → is_setting s ≡ true → number s n ≤ 9999
number_high s n ok = (gone s ok (n - 1)).high

header_good : (s : Setting) (n : ℕ) (t : Token) → is_setting s ≡ true → IsHeader (header s n t)
header_good s n t ok = let set = set_of s ok in record {
  token = token_run t;
  sequence = sequence_run (number s n) (number_high s n ok);
  receiver = refl;
  line = set.line;
  account = account_hex s set;
}

-- The data.

free_by : (b : ℕ) → is_barred b ≡ false → is_free b ≡ true
free_by b is = grind (arith, nat_tests)

free_of : (bytes : List ℕ) → list_any is_barred bytes ≡ false → are_free bytes ≡ true
free_of [] none = refl
free_of (b ∷ bytes) none =
    let parts = or_parts (is_barred b) (list_any is_barred bytes) none in
    and_from (is_free b) (are_free bytes) (free_by b parts.0) (free_of bytes parts.1)

-- no byte of the data is barred
pub unbarred : (r : Report) → IsGood r → list_any is_barred r.content ≡ false
unbarred r good =
    (or_parts (nat_lt 3900 (length r.content)) (list_any is_barred r.content)
    (or_parts (nat_lt 3900 (length r.content) || list_any is_barred r.content) (not (has_signals r.token r.content)) good).0).1

-- what stands behind the header
abbrev pub behind : Setting → Report → List ℕ
behind s r = 35 ∷ (s.account ++ 124 ∷ (r.content ++ 93 ∷ []))

-- it is the account again, the data, and what ends the block
joined : (account content : List ℕ) → 35 ∷ (account ++ 124 ∷ (content ++ 93 ∷ [])) ≡ 35 ∷ account ++ 124 ∷ [] ++ [] ++ content ++ 93 ∷ [] ++ []
joined account content =
    let front = 35 ∷ account ++ 124 ∷ [] in
    let end = 93 ∷ [] in
    sym (append-nil (front ++ [] ++ content ++ end) ∙ ap (λ (l : List ℕ). l ++ content ++ end) (append-nil front)
    ∙ append_assoc front content end ∙ ap (λ (l : List ℕ). 35 ∷ l) (append_assoc account (124 ∷ []) (content ++ end)))

-- the body is the header, and that behind it
parted : (front account content : List ℕ)
    → front ++ 35 ∷ account ++ 124 ∷ content ++ 93 ∷ [] ≡ front ++ 35 ∷ (account ++ 124 ∷ (content ++ 93 ∷ []))
parted front account content = simp append_assoc

content_read : WrittenContentIsRead → (s : Setting) (n : ℕ) (r : Report) → is_setting s ≡ true → IsGood r
    → content_in (Reports r.token) (header s n r.token) (behind s r) ≡ Some r.content
content_read law s n r ok good =
    let report : IsReport r.token (header s n r.token) (behind s r) r.content = record {
      front = 35 ∷ s.account ++ 124 ∷ [];
      echo = [];
      contents = r.content;
      further = [];
      tail = [];
      front_is = inr (record { digits = s.account; is_account = account_hex s (set_of s ok); same = refl; spelled = refl });
      echo_is = inl refl;
      contents_free = free_of r.content (unbarred r good);
      further_free = refl;
      tail_fits = refl;
      contents_signal = signals_of r good;
      spelled = joined s.account r.content;
      keeps = refl;
    } in
    law (Reports r.token) (header s n r.token) (behind s r) r.content report

-- The account.

-- an account that has no key
pub record IsKeyless (setup : Setup) (number : List ℕ) : Type 0 where
  pub account : Account
  pub there : account_of setup number ≡ Some account
  pub keyless : account.key ≡ None

keyless_by : (setup : Setup) (number : List ℕ) (o : Option Account) → account_of setup number ≡ o → is_some o ≡ true
    → option_and_then (λ (a : Account). a.key) o ≡ None → IsKeyless setup number
keyless_by setup number None is has none = absurd (true≢false (sym has))
keyless_by setup number (Some account) is has none = record { account = account; there = is; keyless = none }

keyless : (setup : Setup) (number : List ℕ) → has_account setup number ≡ true → key_of setup number ≡ None → IsKeyless setup number
keyless setup number has none = keyless_by setup number (account_of setup number) refl has none

-- The verdict.

-- of what stands behind the header
behind_read : WrittenContentIsRead → (setup : Setup) (s : Setting) (n : ℕ) (r : Report) (now : ℕ) → is_setting s ≡ true → IsGood r
    → has_account setup s.account ≡ true → key_of setup s.account ≡ None
    → on_kind setup now (header s n r.token) (behind s r) (kind_of (token_bytes r.token))
    ≡ Numbered (header s n r.token) (message_of s n r)
behind_read law setup s n r now ok good has none =
    let set = set_of s ok in
    let capital : capitals s.account ≡ s.account =
    capitals_stay s.account (and_parts (is_between 3 16 (length s.account)) (list_all is_capital_hex s.account) set.account).1 in
    let a = keyless setup s.account has none in
    let h = header s n r.token in
    ap (on_kind setup now h (behind s r)) (token_kind r.token)
    ∙ ap (λ (number : List ℕ). on_account now h (Reports r.token) (behind s r) (account_of setup number)) capital
    ∙ ap (on_account now h (Reports r.token) (behind s r)) a.there
    ∙ ap (on_plain h (Reports r.token) (behind s r)) a.keyless
    ∙ ap (on_blocks h (Reports r.token)) (content_read law s n r ok good)
    ∙ ap (λ (account : List ℕ). Numbered h (record {
      account = account;
      receiver = None;
      line = s.line;
      seq = dec_value (sequence (number s n));
      token = r.token;
      content = r.content;
    })) capital
    ∙ ap (λ (seq : ℕ). Numbered h (record {
      account = s.account;
      receiver = None;
      line = s.line;
      seq = seq;
      token = r.token;
      content = r.content;
    })) (sequence_spells (number s n))

-- of the whole body
pub body_read : SpelledIsRead → WrittenContentIsRead → (setup : Setup) (s : Setting) (n : ℕ) (r : Report) (now : ℕ) → is_setting s ≡ true
    → IsGood r → has_account setup s.account ≡ true → key_of setup s.account ≡ None
    → verdict_of setup now (message_body s n r) ≡ Numbered (header s n r.token) (message_of s n r)
unfolding verdict_of
body_read spelled written setup s n r now ok good has none =
    let h = header s n r.token in
    let body = header_bytes h ++ behind s r in
    ap (λ (bytes : List ℕ). on_header setup now bytes (header_at bytes)) (parted (header_bytes h) s.account r.content)
    ∙ ap (on_header setup now body) (spelled h (behind s r) (header_good s n r.token ok))
    ∙ ap (λ (rest : List ℕ). on_kind setup now h rest (kind_of (token_bytes r.token))) (drop-append_seam (header_bytes h) (behind s r))
    ∙ behind_read written setup s n r now ok good has none
