-- The body of a panel's message is one that a frame can have.
use Rattle.std.proofs.Common.{◌≡◌, ◌≤◌, ◌+◌, ℕ, List, [], ◌∷◌, ◌++◌, length, Bool, true, false, ◌||◌, refl, ◌∙◌, arith, length-append}
use Rattle.std.specs.Prelude.{not, nat_le, nat_lt, ◌/◌, ◌%◌}
use Rattle.std.specs.List.{list_all, list_any}
use Rattle.std.proofs.lemmas.Bool.{and_parts, and_from, or_parts, leb-true, ltb-false}
use Rattle.std.proofs.lemmas.Bool.Decides.{nat_tests}
use Rattle.std.proofs.lemmas.List.Folds.{list_all-append}
use Rattle.arc_data.specs.Digits.{is_between, is_hex, is_run}
use Rattle.arc_data.specs.declared.event.Token.{Token}
use Rattle.arc_data.specs.declared.event.Token.TheVariants.{SiaDcs, AdmCid}
use Rattle.alarm_rules.specs.Signals.{has_signals}
use Rattle.dc09_frame.specs.Frames.{IsBody, is_clean}
use Rattle.panel_rules.specs.declared.Report.{Report}
use Rattle.panel_rules.specs.Panels.{Setting, is_setting, is_barred, number, sequence, token_bytes, message_body}
use Rattle.panel_laws.proofs.Holds.{IsGood}
use Rattle.panel_laws.proofs.Readings.{set_of, account_hex, all_pass, unbarred}

-- no line feed and no carriage return

hex_clean : (b : ℕ) → is_hex b ≡ true → is_clean b ≡ true
hex_clean b is = grind (arith, nat_tests)

unbarred_clean : (b : ℕ) → is_barred b ≡ false → is_clean b ≡ true
unbarred_clean b is = grind (arith, nat_tests)

digit_clean : (n : ℕ) → is_clean (48 + n) ≡ true
digit_clean n = grind (arith, nat_tests)

content_clean : (bytes : List ℕ) → list_any is_barred bytes ≡ false → list_all is_clean bytes ≡ true
content_clean [] none = refl
content_clean (b ∷ bytes) none =
    let parts = or_parts (is_barred b) (list_any is_barred bytes) none in
    and_from (is_clean b) (list_all is_clean bytes) (unbarred_clean b parts.0) (content_clean bytes parts.1)

run_clean : (low high : ℕ) (bytes : List ℕ) → is_run is_hex low high bytes ≡ true → list_all is_clean bytes ≡ true
run_clean low high bytes run = all_pass is_hex is_clean hex_clean bytes (and_parts (is_between low high (length bytes)) (list_all is_hex bytes) run).1

-- two lists in a row
both_clean : (xs ys : List ℕ) → list_all is_clean xs ≡ true → list_all is_clean ys ≡ true → list_all is_clean (xs ++ ys) ≡ true
both_clean xs ys p q = list_all-append is_clean xs ys ∙ and_from (list_all is_clean xs) (list_all is_clean ys) p q

four_clean : (a b c d : ℕ) → list_all is_clean ((48 + a) ∷ (48 + b) ∷ (48 + c) ∷ (48 + d) ∷ []) ≡ true
four_clean a b c d = rw (digit_clean a, digit_clean b, digit_clean c, digit_clean d) refl

token_clean : (t : Token) → list_all is_clean (token_bytes t) ≡ true
token_clean SiaDcs = refl
token_clean AdmCid = refl

token_length : (t : Token) → length (token_bytes t) ≡ 7
token_length SiaDcs = refl
token_length AdmCid = refl

-- the length of a run
run_length : (test : ℕ → Bool) (low high : ℕ) (bytes : List ℕ) → is_run test low high bytes ≡ true → length bytes ≤ high
run_length test low high bytes run =
    let parts = and_parts (is_between low high (length bytes)) (list_all test bytes) run in
    leb-true (length bytes) high (and_parts (nat_le low (length bytes)) (nat_le (length bytes) high) parts.0).1

-- the parts of a body
abbrev body_by : List ℕ → List ℕ → List ℕ → List ℕ → List ℕ → List ℕ
body_by token digits line account content =
    (34 ∷ token ++ 34 ∷ (digits ++ 76 ∷ line ++ 35 ∷ account) ++ 91 ∷ []) ++ 35 ∷ account ++ 124 ∷ content ++ 93 ∷ []

length_by : (token digits line account content : List ℕ) → length token ≡ 7 → length digits ≡ 4 → length line ≤ 6 → length account ≤ 16
    → length content ≤ 3900 → length (body_by token digits line account content) ≤ 4095
length_by token digits line account content a b c d e = simp length-append (omega arith)

clean_by : (token digits line account content : List ℕ) → list_all is_clean token ≡ true → list_all is_clean digits ≡ true
    → list_all is_clean line ≡ true → list_all is_clean account ≡ true → list_all is_clean content ≡ true
    → list_all is_clean (body_by token digits line account content) ≡ true
clean_by token digits line account content a b c d e =
    let fields = digits ++ 76 ∷ line ++ 35 ∷ account in
    let front = 34 ∷ token ++ 34 ∷ fields ++ 91 ∷ [] in
    let fields_clean : list_all is_clean fields ≡ true =
    both_clean (digits ++ 76 ∷ line) (35 ∷ account) (both_clean digits (76 ∷ line) b c) d in
    let front_clean : list_all is_clean front ≡ true =
    both_clean (34 ∷ token ++ 34 ∷ fields) (91 ∷ []) (both_clean (34 ∷ token) (34 ∷ fields) a fields_clean) refl in
    both_clean (front ++ 35 ∷ account ++ 124 ∷ content) (93 ∷ [])
    (both_clean (front ++ 35 ∷ account) (124 ∷ content) (both_clean front (35 ∷ account) front_clean d) e) refl

size_of : (r : Report) → IsGood r → length r.content ≤ 3900
size_of r good =
    let parts = or_parts (nat_lt 3900 (length r.content)) (list_any is_barred r.content)
    (or_parts (nat_lt 3900 (length r.content) || list_any is_barred r.content) (not (has_signals r.token r.content)) good).0 in
    ltb-false 3900 (length r.content) parts.0

pub is_body : (s : Setting) (n : ℕ) (r : Report) → is_setting s ≡ true → IsGood r → IsBody (message_body s n r)
is_body s n r ok good =
    let set = set_of s ok in
    let hex = account_hex s set in
    let k = number s n in
    record {
      some = omega arith;
      size = length_by (token_bytes r.token) (sequence k) s.line s.account r.content (token_length r.token) refl
          (run_length is_hex 1 6 s.line set.line) (run_length is_hex 3 16 s.account hex) (size_of r good);
      quote = refl;
      clean = clean_by (token_bytes r.token) (sequence k) s.line s.account r.content (token_clean r.token)
          (four_clean (k / 100 / 10) (k / 100 % 10) (k % 100 / 10) (k % 100 % 10))
          (run_clean 1 6 s.line set.line) (run_clean 3 16 s.account hex) (content_clean r.content (unbarred r good));
    }
