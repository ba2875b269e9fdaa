-- Digits that are written are read again, and a body's frame is cut as its one whole piece.
use Rattle.std.proofs.Common.{◌≡◌, ℕ, ◌+◌, ◌-◌, ◌*◌, ◌/◌, ◌%◌, ◌^◌, ◌<◌, ◌≤◌, List, [], ◌∷◌, ◌++◌, length, take, drop, get_or, Bool, true, false, eqb, ltb, leb, refl, sym, ◌∙◌, ap, subst, arith, inl, inr, length-append}
use Rattle.std.specs.Prelude.{codes, Option, Some, None}
use Rattle.std.specs.List.{list_all}
use Rattle.std.proofs.Math.Seq.{drop-append_seam, take-append-add}
use Rattle.std.proofs.lemmas.List.{drop-take}
use Rattle.std.proofs.lemmas.Bool.{lt-ltb, le-ltb, le-leb, lt-leb, eq-eqb, ne_eqb, leb-true, and_parts, and_from, or_left, cases_lt}
use Rattle.std.proofs.lemmas.List.Folds.{list_all-append}
use Rattle.arc_data.specs.Digits.{is_between, is_digit, is_hex, digit_value, hex_value, is_run}
use Rattle.dc09_frame.specs.declared.limits.TheConstants.{PIECE_LIMIT}
use Rattle.dc09_frame.specs.declared.cut.Cut.TheVariants.{Whole}
use Rattle.dc09_frame.specs.Check.{divisor, all_bits, check_of}
use Rattle.dc09_frame.specs.Polynomial.{remainder, zeros, number}
use Rattle.dc09_frame.specs.Frames.{digit_of, four_digits, is_clean, IsBody, piece_of, head_of, frame_of, do_spell, has_length, has_check, cut}
use Rattle.arc_data.specs.WellFormed.{is_receiver}
use Rattle.dc09_frame.specs.declared.header.Header.{Header}
use Rattle.dc09_frame.specs.declared.header.Echo.{Echo}
use Rattle.dc09_frame.specs.declared.header.Echo.TheVariants.{Ack, Duh}
use Rattle.dc09_frame.specs.Headers.{IsHeader, receiver_field, fields, word_of, echo_body, nak_body}
use Rattle.dc09_frame.proofs.Division.{divides}
use Rattle.dc09_frame.proofs.Polynomials.{number-lt, length-all_bits}

-- The check is below 2 ^ 16.

sixteen : length divisor ≡ 16
unfolding divisor
sixteen = refl

pub check-lt : (bytes : List ℕ) → check_of bytes < 65536
check-lt bytes =
    let places = 8 * length bytes in
    let p = all_bits bytes ++ zeros 16 in
    let long : length p ≡ places + 16 = omega (arith, length-append (all_bits bytes) (zeros 16), length-all_bits bytes) in
    let rest : List Bool = remainder places divisor p in
    let d = divides places divisor p (omega (arith, long, sixteen)) in
    let size : length rest ≡ 16 = omega (arith, d.1, long) in
    let P : ℕ → Type 0 = λ k. number rest < 2 ^ k in
    subst P size (number-lt rest)

-- Digits.

-- what a digit that is written stands for
pub record IsDigitOf (n b : ℕ) : Type 0 where
  pub hex : is_hex b ≡ true
  pub value : digit_value b ≡ n
  pub clean : is_clean b ≡ true

pub digit_again : (n : ℕ) → n < 16 → IsDigitOf n (digit_of n)
digit_again n lt = elim (cases_lt n 10) [
  | inl low ↦ rw (lt-ltb n 10 low) (low_digit n low)
  | inr high ↦ rw (le-ltb n 10 high) (high_digit n high lt)
]
  where
    low_digit : (n : ℕ) → n < 10 → IsDigitOf n (n + 48)
    low_digit n lt =
        let from : leb 48 (n + 48) ≡ true = le-leb 48 (n + 48) (omega arith) in
        let to : leb (n + 48) 57 ≡ true = le-leb (n + 48) 57 (omega arith) in
        record {
          hex = rw (from, to) refl;
          value = rw (from, to) (omega arith);
          clean = rw (ne_eqb (n + 48) 10 (λ is. omega arith), ne_eqb (n + 48) 13 (λ is. omega arith)) refl;
        }

    high_digit : (n : ℕ) → 10 ≤ n → n < 16 → IsDigitOf n (n + 55)
    high_digit n le lt =
        let from : leb 48 (n + 55) ≡ true = le-leb 48 (n + 55) (omega arith) in
        let above : leb (n + 55) 57 ≡ false = lt-leb (n + 55) 57 (omega arith) in
        let after : leb 65 (n + 55) ≡ true = le-leb 65 (n + 55) (omega arith) in
        let to : leb (n + 55) 70 ≡ true = le-leb (n + 55) 70 (omega arith) in
        record {
          hex = rw (from, above, after, to) refl;
          value = rw (from, above, after, to) (omega arith);
          clean = rw (ne_eqb (n + 55) 10 (λ is. omega arith), ne_eqb (n + 55) 13 (λ is. omega arith)) refl;
        }

pub four_again : (n : ℕ) → n < 65536 → do_spell (four_digits n) n ≡ true
unfolding hex_value
four_again n lt =
    let a = digit_again (n / 4096 % 16) (omega arith) in
    let b = digit_again (n / 256 % 16) (omega arith) in
    let c = digit_again (n / 16 % 16) (omega arith) in
    let d = digit_again (n % 16) (omega arith) in
    rw (a.hex, b.hex, c.hex, d.hex, a.value, b.value, c.value, d.value) (eq-eqb _ n (omega arith))

pub four_clean : (n : ℕ) → list_all is_clean (four_digits n) ≡ true
four_clean n =
    let a = digit_again (n / 4096 % 16) (omega arith) in
    let b = digit_again (n / 256 % 16) (omega arith) in
    let c = digit_again (n / 16 % 16) (omega arith) in
    let d = digit_again (n % 16) (omega arith) in
    rw (a.clean, b.clean, c.clean, d.clean) refl

-- A body's piece.

length_spelled : (body : List ℕ) → IsBody body → has_length (piece_of body) ≡ true
length_spelled body is =
    let long : leb 9 (length (piece_of body)) ≡ true = le-leb 9 (length (piece_of body)) (omega (arith, is.some)) in
    let none : length body / 4096 % 16 ≡ 0 = omega (arith, is.size) in
    let zero_first : eqb (digit_of (length body / 4096 % 16)) 48 ≡ true = rw none refl in
    and_from _ _ (and_from _ _ (and_from _ _ long zero_first) (four_again (length body) (omega (arith, is.size)))) (eq-eqb (get_or body 0 0) 34 is.quote)

pub piece_whole : (body : List ℕ) → IsBody body → cut (piece_of body) ≡ Whole
unfolding cut
piece_whole body is =
    let short : ltb PIECE_LIMIT (length (piece_of body)) ≡ false = le-ltb PIECE_LIMIT (length (piece_of body)) (omega (arith, is.size)) in
    let spelled : has_length (piece_of body) ≡ true = length_spelled body is in
    let checked : has_check (piece_of body) ≡ true = four_again (check_of body) (check-lt body) in
    rw (short, spelled, checked) refl

pub piece_clean : (body : List ℕ) → IsBody body → list_all is_clean (piece_of body) ≡ true
piece_clean body is =
    list_all-append is_clean (four_digits (check_of body) ++ four_digits (length body)) body
    ∙ and_from _ _ (list_all-append is_clean (four_digits (check_of body)) (four_digits (length body)) ∙ and_from _ _ (four_clean (check_of body)) (four_clean (length body))) is.clean

-- What a buffer holds whose head is written in front of a body.

pub behind_nine : (head body : List ℕ) → length head ≡ 9 → drop 9 (head ++ body) ≡ body
behind_nine head body nine = ap (λ k. drop k (head ++ body)) (sym nine) ∙ drop-append_seam head body

pub framed : (old bytes head : List ℕ) (len : ℕ) → take len bytes ≡ old → 9 ≤ len → head ≡ head_of (check_of (drop 9 old)) (length (drop 9 old)) → take len (head ++ drop 9 bytes) ++ 13 ∷ [] ≡ frame_of (drop 9 old)
unfolding frame_of
framed old bytes head len is long made =
    let k : ℕ = len - 9 in
    let body : List ℕ = drop 9 old in
    let size : len ≡ 9 + k = omega arith in
    let rest : take k (drop 9 bytes) ≡ body = sym (drop-take 9 k bytes) ∙ ap (λ n. drop 9 (take n bytes)) (sym size) ∙ ap (drop 9) is in
    let h : List ℕ = head_of (check_of body) (length body) in
    let whole : take len (head ++ drop 9 bytes) ≡ h ++ body = ap (λ l. take len (l ++ drop 9 bytes)) made ∙ ap (λ n. take n (h ++ drop 9 bytes)) size ∙ take-append-add h (drop 9 bytes) k ∙ ap (λ l. h ++ l) rest in
    ap (λ l. l ++ 13 ∷ []) whole

-- A reply's body.

pub clean_hex : (b : ℕ) → is_hex b ≡ true → is_clean b ≡ true
clean_hex b h =
    let feed : eqb b 10 ≡ false = ne_eqb b 10 (λ is. let no : is_hex 10 ≡ true = ap is_hex (sym is) ∙ h in cc) in
    let return : eqb b 13 ≡ false = ne_eqb b 13 (λ is. let no : is_hex 13 ≡ true = ap is_hex (sym is) ∙ h in cc) in
    rw (feed, return) refl

pub clean_digit : (b : ℕ) → is_digit b ≡ true → is_clean b ≡ true
clean_digit b h = clean_hex b (or_left _ _ (or_left _ _ h))

pub all_clean : (test : ℕ → Bool) → ((b : ℕ) → test b ≡ true → is_clean b ≡ true) → (text : List ℕ) → list_all test text ≡ true → list_all is_clean text ≡ true
all_clean test passes [] all = refl
all_clean test passes (b ∷ text) all =
    let h = and_parts (test b) (list_all test text) all in
    and_from _ _ (passes b h.0) (all_clean test passes text h.1)

-- a text without ends, of so many bytes at most
pub record IsShort (most : ℕ) (text : List ℕ) : Type 0 where
  pub size : length text ≤ most
  pub clean : list_all is_clean text ≡ true

pub run_short : (test : ℕ → Bool) → ((b : ℕ) → test b ≡ true → is_clean b ≡ true) → (low high : ℕ) (text : List ℕ) → is_run test low high text ≡ true → IsShort high text
run_short test passes low high text run =
    let h = and_parts (is_between low high (length text)) (list_all test text) run in
    let sizes = and_parts (leb low (length text)) (leb (length text) high) h.0 in
    record { size = leb-true (length text) high sizes.1; clean = all_clean test passes text h.1 }

pub short-append : (m n : ℕ) (xs ys : List ℕ) → IsShort m xs → IsShort n ys → IsShort (m + n) (xs ++ ys)
short-append m n xs ys p q = record { size = omega (arith, length-append xs ys, p.size, q.size); clean = list_all-append is_clean xs ys ∙ and_from _ _ p.clean q.clean }

pub short-cons : (m x : ℕ) (xs : List ℕ) → is_clean x ≡ true → IsShort m xs → IsShort (m + 1) (x ∷ xs)
short-cons m x xs is p = record { size = omega (arith, p.size); clean = and_from _ _ is p.clean }

receiver_short : (r : Option (List ℕ)) → is_receiver r ≡ true → IsShort 7 (receiver_field r)
receiver_short None is = record { size = omega arith; clean = refl }
receiver_short (Some digits) is = short-cons 6 82 digits refl (run_short is_hex clean_hex 1 6 digits is)

pub fields_short : (h : Header) → IsHeader h → IsShort 35 (fields h)
fields_short h is =
    short-append 18 17 (h.seq ++ receiver_field h.receiver ++ 76 ∷ h.line) (35 ∷ h.account)
    (short-append 11 7 (h.seq ++ receiver_field h.receiver) (76 ∷ h.line) (short-append 4 7 h.seq (receiver_field h.receiver) (run_short is_digit clean_digit 4 4 h.seq is.sequence) (receiver_short h.receiver is.receiver)) (short-cons 6 76 h.line refl (run_short is_hex clean_hex 1 6 h.line is.line)))
    (short-cons 16 35 h.account refl (run_short is_hex clean_hex 3 16 h.account is.account))

word_short : (word : Echo) → IsShort 4 (34 ∷ word_of word)
word_short Ack = record { size = omega arith; clean = refl }
word_short Duh = record { size = omega arith; clean = refl }

pub echo_is_body : (word : Echo) (h : Header) → IsHeader h → IsBody (echo_body word h)
echo_is_body word h is =
    let most = short-append 40 2 (34 ∷ word_of word ++ 34 ∷ fields h) (codes "[]") (short-append 4 36 (34 ∷ word_of word) (34 ∷ fields h) (word_short word) (short-cons 35 34 (fields h) refl (fields_short h is))) (record { size = omega arith; clean = refl }) in
    record { some = omega arith; size = omega (arith, most.size); quote = refl; clean = most.clean }

-- a reply's body, from its parts
pub echo_parts : (word : Echo) (h : Header) → (34 ∷ word_of word ++ 34 ∷ []) ++ fields h ++ codes "[]" ≡ echo_body word h
echo_parts Ack h = refl
echo_parts Duh h = refl

pub nak_is_body : (stamp : List ℕ) → length stamp ≡ 20 → list_all is_clean stamp ≡ true → IsBody (nak_body stamp)
nak_is_body stamp twenty clean = record {
  some = omega arith;
  size = omega (arith, twenty);
  quote = refl;
  clean = clean;
}
