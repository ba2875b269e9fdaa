-- The bytes of a message make a body.
use Rattle.std.proofs.Common.{◌≡◌, ◌≢◌, ℕ, ◌+◌, ◌/◌, ◌%◌, ◌≤◌, List, [], ◌∷◌, ◌++◌, length, drop, Bool, true, false, not, eqb, ltb, ◌&&◌, ◌||◌, refl, sym, ap, ◌∙◌, arith, append_assoc}
use Rattle.std.specs.Prelude.{codes}
use Rattle.std.specs.List.{list_all, list_any}
use Rattle.std.proofs.lemmas.Bool.{and_from, ltb-false, ne_eqb, not_from_false, or_left, or_parts}
use Rattle.arc_data.specs.Digits.{is_capital_hex, is_hex, is_run}
use Rattle.arc_data.specs.declared.event.Token.{Token}
use Rattle.arc_data.specs.declared.event.Token.TheVariants.{SiaDcs, AdmCid}
use Rattle.alarm_rules.specs.Signals.{has_signals}
use Rattle.dc09_frame.specs.Frames.{IsBody, is_clean}
use Rattle.dc09_frame.proofs.FrameLaws.{IsShort, behind_nine, clean_hex, run_short, short-append, short-cons}
use Rattle.panel_rules.specs.declared.Report.{Report}
use Rattle.panel_rules.specs.Panels.{body_of, is_bad, is_barred, sequence, token_bytes}
use Rattle.panel_core.specs.Sending.{IsGood}

-- The parts of a message, each with what stands behind it.

abbrev behind_account : List ℕ → List ℕ → List ℕ
behind_account account content = 91 ∷ (35 ∷ (account ++ (124 ∷ (content ++ (93 ∷ [])))))

abbrev behind_digits : List ℕ → List ℕ → List ℕ → List ℕ
behind_digits line account rest = 76 ∷ (line ++ (35 ∷ (account ++ rest)))

abbrev pub message : List ℕ → List ℕ → List ℕ → List ℕ → List ℕ → List ℕ
message token digits line account content = 34 ∷ (token ++ (34 ∷ (digits ++ behind_digits line account (behind_account account content))))

-- what stands before some bytes, and sequence, line and account before them
fields_behind : (front digits line account rest : List ℕ) → (front ++ digits ++ 76 ∷ line ++ 35 ∷ account) ++ rest ≡ front ++ (digits ++ behind_digits line account rest)
fields_behind front digits line account rest =
    append_assoc (front ++ digits ++ 76 ∷ line) (35 ∷ account) rest
    ∙ append_assoc (front ++ digits) (76 ∷ line) (35 ∷ (account ++ rest))
    ∙ append_assoc front digits (behind_digits line account rest)

flat : (token digits line account content : List ℕ) → ((34 ∷ token ++ 34 ∷ (digits ++ 76 ∷ line ++ 35 ∷ account) ++ 91 ∷ []) ++ 35 ∷ account) ++ 124 ∷ content ++ 93 ∷ [] ≡ message token digits line account content
flat token digits line account content =
    let fields = digits ++ 76 ∷ line ++ 35 ∷ account in
    let front = 34 ∷ token ++ 34 ∷ fields in
    let block = 124 ∷ (content ++ (93 ∷ [])) in
    append_assoc (front ++ 91 ∷ [] ++ 35 ∷ account) (124 ∷ content) (93 ∷ [])
    ∙ append_assoc (front ++ 91 ∷ []) (35 ∷ account) block
    ∙ append_assoc front (91 ∷ []) (35 ∷ (account ++ block))
    ∙ append_assoc (34 ∷ token) (34 ∷ fields) (behind_account account content)
    ∙ ap (λ l. 34 ∷ (token ++ (34 ∷ l))) (fields_behind [] digits line account (behind_account account content))

pub message_is : (account line : List ℕ) (number : ℕ) (report : Report) → body_of account line number report ≡ message (token_bytes report.token) (sequence number) line account report.content
message_is account line number report = flat (token_bytes report.token) (sequence number) line account report.content

-- what stands in a buffer once the parts were put behind a head
pub built : (head quoted token digits line account content a b c d e f g : List ℕ) → quoted ≡ 34 ∷ token ++ 34 ∷ [] → a ≡ head ++ quoted → b ≡ a ++ digits ++ 76 ∷ line ++ 35 ∷ account → c ≡ b ++ codes "[#" → d ≡ c ++ account → e ≡ d ++ codes "|" → f ≡ e ++ content → g ≡ f ++ codes "]" → g ≡ head ++ message token digits line account content
built head quoted token digits line account content a b c d e f g eq ea eb ec ed ee ef eg =
    let block = 124 ∷ (content ++ (93 ∷ [])) in
    let rest = behind_account account content in
    let behind = digits ++ behind_digits line account rest in
    let of_e : g ≡ e ++ (content ++ (93 ∷ [])) = eg ∙ ap (λ x. x ++ (93 ∷ [])) ef ∙ append_assoc e content (93 ∷ []) in
    let of_d : g ≡ d ++ block = of_e ∙ ap (λ x. x ++ (content ++ (93 ∷ []))) ee ∙ append_assoc d (124 ∷ []) (content ++ (93 ∷ [])) in
    let of_c : g ≡ c ++ (account ++ block) = of_d ∙ ap (λ x. x ++ block) ed ∙ append_assoc c account block in
    let of_b : g ≡ b ++ rest = of_c ∙ ap (λ x. x ++ (account ++ block)) ec ∙ append_assoc b (91 ∷ 35 ∷ []) (account ++ block) in
    let of_a : g ≡ a ++ behind = of_b ∙ ap (λ x. x ++ rest) eb ∙ fields_behind a digits line account rest in
    let of_head : g ≡ head ++ (quoted ++ behind) = of_a ∙ ap (λ x. x ++ behind) ea ∙ append_assoc head quoted behind in
    let of_token : quoted ++ behind ≡ message token digits line account content = ap (λ x. x ++ behind) eq ∙ append_assoc (34 ∷ token) (34 ∷ []) behind in
    of_head ∙ ap (λ x. head ++ x) of_token

-- Each part is short and has neither a line feed nor a carriage return.

clean_capital : (b : ℕ) → is_capital_hex b ≡ true → is_clean b ≡ true
clean_capital b h = clean_hex b (or_left _ _ h)

clean_unbarred : (b : ℕ) → is_barred b ≡ false → is_clean b ≡ true
clean_unbarred b none =
    let h = or_parts (eqb b 91 || eqb b 93 || eqb b 10) (eqb b 13) none in
    let g = or_parts (eqb b 91 || eqb b 93) (eqb b 10) h.0 in
    and_from _ _ (not_from_false _ g.1) (not_from_false _ h.1)

clean_content : (content : List ℕ) → list_any is_barred content ≡ false → list_all is_clean content ≡ true
clean_content [] none = refl
clean_content (b ∷ content) none = let h = or_parts (is_barred b) (list_any is_barred content) none in and_from _ _ (clean_unbarred b h.0) (clean_content content h.1)

pub content_short : (report : Report) → IsGood report → IsShort 3900 report.content
content_short report good =
    let h = or_parts (ltb 3900 (length report.content) || list_any is_barred report.content) (not (has_signals report.token report.content)) good in
    let g = or_parts (ltb 3900 (length report.content)) (list_any is_barred report.content) h.0 in
    record { size = ltb-false 3900 (length report.content) g.0; clean = clean_content report.content g.1 }

clean_figure : (x : ℕ) → is_clean (48 + x) ≡ true
clean_figure x = rw (ne_eqb (48 + x) 10 (λ is. omega arith), ne_eqb (48 + x) 13 (λ is. omega arith)) refl

digits_short : (number : ℕ) → IsShort 4 (sequence number)
digits_short number = record {
  size = omega arith;
  clean = rw (clean_figure (number / 100 / 10), clean_figure (number / 100 % 10), clean_figure (number % 100 / 10), clean_figure (number % 100 % 10)) refl;
}

token_short : (token : Token) → IsShort 7 (token_bytes token)
token_short SiaDcs = record { size = omega arith; clean = refl }
token_short AdmCid = record { size = omega arith; clean = refl }

pub message_is_body : (account line : List ℕ) (number : ℕ) (report : Report) → is_run is_capital_hex 3 16 account ≡ true → is_run is_hex 1 6 line ≡ true → IsGood report → IsBody (message (token_bytes report.token) (sequence number) line account report.content)
message_is_body account line number report of_account of_line good =
    let digits = sequence number in
    let token = token_bytes report.token in
    let content = report.content in
    let block = 124 ∷ (content ++ (93 ∷ [])) in
    let rest = behind_account account content in
    let account_short = run_short is_capital_hex clean_capital 3 16 account of_account in
    let block_short = short-cons 3901 124 (content ++ (93 ∷ [])) refl (short-append 3900 1 content (93 ∷ []) (content_short report good) (record { size = omega arith; clean = refl })) in
    let rest_short = short-cons 3919 91 (35 ∷ (account ++ block)) refl (short-cons 3918 35 (account ++ block) refl (short-append 16 3902 account block account_short block_short)) in
    let hash_short = short-cons 3936 35 (account ++ rest) refl (short-append 16 3920 account rest account_short rest_short) in
    let line_short = short-cons 3943 76 (line ++ (35 ∷ (account ++ rest))) refl (short-append 6 3937 line (35 ∷ (account ++ rest)) (run_short is_hex clean_hex 1 6 line of_line) hash_short) in
    let behind = behind_digits line account rest in
    let quote_short = short-cons 3948 34 (digits ++ behind) refl (short-append 4 3944 digits behind (digits_short number) line_short) in
    let whole = short-cons 3956 34 (token ++ (34 ∷ (digits ++ behind))) refl (short-append 7 3949 token (34 ∷ (digits ++ behind)) (token_short report.token) quote_short) in
    record { some = omega arith; size = omega (arith, whole.size); quote = refl; clean = whole.clean }
