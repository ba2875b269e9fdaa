-- What is read as a header is spelled so, and what is spelled so is read.
use Rattle.std.proofs.Common.{◌≡◌, ℕ, suc, ◌-◌, List, [], ◌∷◌, ◌++◌, length, drop, Bool, true, false, cond, eqb, Option, Some, None, refl, sym, ◌∙◌, ap, subst, arith, append_assoc, length-append, take-append-drop}
use Rattle.std.specs.Prelude.{IfSome}
use Rattle.std.specs.List.{take_while, prefix_len, list_all}
use Rattle.std.specs.Option.{option_map}
use Rattle.std.proofs.lemmas.Bool.{eqb-true, ne_eqb, and_parts, and_from}
use Rattle.std.proofs.lemmas.List.Sums.{take_while-cons}
use Rattle.std.proofs.lemmas.List.Folds.{length-prefix_len}
use Rattle.arc_data.specs.Digits.{is_between, is_digit, is_hex, is_run}
use Rattle.arc_data.specs.WellFormed.{is_receiver}
use Rattle.dc09_frame.specs.declared.header.Header.{Header}
use Rattle.dc09_frame.specs.Headers.{◌>>=◌, is_token_byte, IsHeader, star, receiver_field, header_bytes, after_byte, run_at, star_at, receiver_at, header_at, IsReadFrom}

-- Steps that did not fail.

pub bind_some : {A B : Type 0} (o : Option A) (f : A → Option B) (y : B) → (o >>= f) ≡ Some y → (x : A) × (o ≡ Some x) × (f x ≡ Some y)
bind_some None f y e = absurd cc
bind_some (Some x) f y e = (x, refl, e)

pub some_if : {A : Type 0} (t : Bool) (y x : A) → cond t (Some y) None ≡ Some x → (t ≡ true) × (y ≡ x)
some_if true y x e = (refl, cc)
some_if false y x e = absurd cc

abbrev found : {A : Type 0} → A → Option A
found x = Some x

pub some_is : {A : Type 0} (x y : A) → found x ≡ found y → x ≡ y
some_is x y e = cc

-- One byte.

pub after_byte_takes : (b : ℕ) (xs rest : List ℕ) → after_byte b xs ≡ Some rest → xs ≡ b ∷ rest
after_byte_takes b [] rest e = absurd cc
after_byte_takes b (x ∷ xs) rest e =
    let g = some_if (eqb x b) xs rest e in
    let same : x ≡ b = eqb-true x b g.0 in
    rw (same, g.1) refl

-- A run.

all_front_step : (test : ℕ → Bool) (x : ℕ) (front : List ℕ) (t : Bool) → test x ≡ t → list_all test front ≡ true → list_all test (cond t (x ∷ front) []) ≡ true
all_front_step test x front true e all = rw e all
all_front_step test x front false e all = refl

all_front : (test : ℕ → Bool) (xs : List ℕ) → list_all test (take_while test xs) ≡ true
all_front test [] = refl
all_front test (x ∷ xs) = rw take_while-cons (all_front_step test x (take_while test xs) (test x) refl (all_front test xs))

pub run_takes : (test : ℕ → Bool) (low high : ℕ) (xs : List ℕ) (x : List ℕ × List ℕ) → run_at test low high xs ≡ Some x → (xs ≡ x.0 ++ x.1) × (is_run test low high x.0 ≡ true)
unfolding run_at
run_takes test low high xs x e =
    let run : List ℕ = take_while test xs in
    let g = some_if (is_between low high (length run)) (run, drop (length run) xs) x e in
    let whole : xs ≡ run ++ drop (length run) xs = sym (ap (λ n. run ++ drop n xs) (length-prefix_len test xs) ∙ take-append-drop (prefix_len test xs) xs) in
    subst (λ (y : List ℕ × List ℕ). (xs ≡ y.0 ++ y.1) × (is_run test low high y.0 ≡ true)) g.1 (whole, and_from _ _ g.0 (all_front test xs))

front_again : (test : ℕ → Bool) (text : List ℕ) (y : ℕ) (ys : List ℕ) → list_all test text ≡ true → test y ≡ false → take_while test (text ++ y ∷ ys) ≡ text
front_again test [] y ys all stops = rw (take_while-cons, stops) refl
front_again test (x ∷ text) y ys all stops =
    let h = and_parts (test x) (list_all test text) all in
    rw (take_while-cons, h.0, front_again test text y ys h.1 stops) refl

drop_front : (text rest : List ℕ) → drop (length text) (text ++ rest) ≡ rest
drop_front [] rest = refl
drop_front (x ∷ text) rest = drop_front text rest

pub run_again : (test : ℕ → Bool) (low high : ℕ) (text : List ℕ) (y : ℕ) (ys : List ℕ) → is_run test low high text ≡ true → test y ≡ false → run_at test low high (text ++ y ∷ ys) ≡ Some (text, y ∷ ys)
unfolding run_at
run_again test low high text y ys run stops =
    let h = and_parts (is_between low high (length text)) (list_all test text) run in
    rw (front_again test text y ys h.1 stops, h.0, drop_front text (y ∷ ys)) refl

-- The star.

star_step : (x : ℕ) (xs : List ℕ) (t : Bool) (p : Bool × List ℕ) → eqb x 42 ≡ t → p ≡ cond t (true, xs) (false, x ∷ xs) → x ∷ xs ≡ star p.0 ++ p.1
star_step x xs true p e is = rw is (ap (λ y. y ∷ xs) (eqb-true x 42 e))
star_step x xs false p e is = rw is refl

star_takes : (xs : List ℕ) → xs ≡ star (star_at xs).0 ++ (star_at xs).1
star_takes [] = refl
star_takes (x ∷ xs) = star_step x xs (eqb x 42) (star_at (x ∷ xs)) refl refl

star_again : (sealed : Bool) (token ys : List ℕ) → is_run is_token_byte 1 16 token ≡ true → star_at (star sealed ++ (token ++ ys)) ≡ (sealed, token ++ ys)
star_again true token ys run = refl
star_again false [] ys run = absurd cc
star_again false (t ∷ token) ys run =
    let h = and_parts (is_between 1 16 (suc (length token))) (list_all is_token_byte (t ∷ token)) run in
    let first = (and_parts (is_token_byte t) (list_all is_token_byte token) h.1).0 in
    let other : eqb t 42 ≡ false = ne_eqb t 42 (λ is. let no : is_token_byte 42 ≡ true = ap is_token_byte (sym is) ∙ first in cc) in
    rw other refl

-- The `R` field.

receiver_takes : (xs : List ℕ) (x : Option (List ℕ) × List ℕ) → receiver_at xs ≡ Some x → (xs ≡ receiver_field x.0 ++ x.1) × (is_receiver x.0 ≡ true)
receiver_takes [] x e = subst (λ (y : Option (List ℕ) × List ℕ). ([] ≡ receiver_field y.0 ++ y.1) × (is_receiver y.0 ≡ true)) (some_is (None, []) x e) (refl, refl)
receiver_takes (r ∷ xs) x e = step (eqb r 82) refl e
  where
    digits_take : (o : Option (List ℕ × List ℕ)) → run_at is_hex 1 6 xs ≡ o → r ≡ 82 → option_map (λ (f : List ℕ × List ℕ). (Some f.0, f.1)) o ≡ Some x → (r ∷ xs ≡ receiver_field x.0 ++ x.1) × (is_receiver x.0 ≡ true)
    digits_take None is same e = absurd cc
    digits_take (Some found) is same e =
        let t = run_takes is_hex 1 6 xs found is in
        subst (λ (y : Option (List ℕ) × List ℕ). (r ∷ xs ≡ receiver_field y.0 ++ y.1) × (is_receiver y.0 ≡ true)) (some_is (Some found.0, found.1) x e) (rw same (ap (λ (l : List ℕ). 82 ∷ l) t.0), t.1)

    step : (t : Bool) → eqb r 82 ≡ t → cond t (option_map (λ (f : List ℕ × List ℕ). (Some f.0, f.1)) (run_at is_hex 1 6 xs)) (Some (None, r ∷ xs)) ≡ Some x → (r ∷ xs ≡ receiver_field x.0 ++ x.1) × (is_receiver x.0 ≡ true)
    step true is e = digits_take (run_at is_hex 1 6 xs) refl (eqb-true r 82 is) e
    step false is e = subst (λ (y : Option (List ℕ) × List ℕ). (r ∷ xs ≡ receiver_field y.0 ++ y.1) × (is_receiver y.0 ≡ true)) (some_is (None, r ∷ xs) x e) (refl, refl)

receiver_again : (r : Option (List ℕ)) (ys : List ℕ) → is_receiver r ≡ true → receiver_at (receiver_field r ++ 76 ∷ ys) ≡ Some (r, 76 ∷ ys)
receiver_again None ys fits = refl
receiver_again (Some digits) ys fits = rw (run_again is_hex 1 6 digits 76 ys fits refl) refl

sequence_again : (seq : List ℕ) (r : Option (List ℕ)) (ys : List ℕ) → is_run is_digit 4 4 seq ≡ true → run_at is_digit 4 4 (seq ++ (receiver_field r ++ 76 ∷ ys)) ≡ Some (seq, receiver_field r ++ 76 ∷ ys)
sequence_again seq None ys fits = run_again is_digit 4 4 seq 76 ys fits refl
sequence_again seq (Some digits) ys fits = run_again is_digit 4 4 seq 82 (digits ++ 76 ∷ ys) fits refl

-- The whole header.

abbrev header_made : Bool → List ℕ → List ℕ → Option (List ℕ) → List ℕ → List ℕ → Header
header_made sealed token seq receiver line account = record { sealed = sealed; token = token; seq = seq; receiver = receiver; line = line; account = account }

abbrev from_account : List ℕ → (List ℕ → Header) → List ℕ → Option (Header × ℕ)
from_account body made xs = run_at is_hex 3 16 xs >>= λ account. after_byte 91 account.1 >>= λ rest. Some (made account.0, length body - length rest)

abbrev from_line : List ℕ → (List ℕ → List ℕ → Header) → List ℕ → Option (Header × ℕ)
from_line body made xs = run_at is_hex 1 6 xs >>= λ line. after_byte 35 line.1 >>= λ after_hash. from_account body (made line.0) after_hash

abbrev from_receiver : List ℕ → (Option (List ℕ) → List ℕ → List ℕ → Header) → List ℕ → Option (Header × ℕ)
from_receiver body made xs = receiver_at xs >>= λ receiver. after_byte 76 receiver.1 >>= λ after_l. from_line body (made receiver.0) after_l

abbrev from_sequence : List ℕ → (List ℕ → Option (List ℕ) → List ℕ → List ℕ → Header) → List ℕ → Option (Header × ℕ)
from_sequence body made xs = run_at is_digit 4 4 xs >>= λ sequence. from_receiver body (made sequence.0) sequence.1

abbrev from_token : List ℕ → (List ℕ → List ℕ → Option (List ℕ) → List ℕ → List ℕ → Header) → List ℕ → Option (Header × ℕ)
from_token body made xs = run_at is_token_byte 1 16 xs >>= λ token. after_byte 34 token.1 >>= λ after_token. from_sequence body (made token.0) after_token

-- the bytes of a header and what follows, one behind the other
spelled_flat : (s t q r l n z : List ℕ) → (34 ∷ s ++ t ++ 34 ∷ (q ++ r ++ 76 ∷ l ++ 35 ∷ n) ++ 91 ∷ []) ++ z ≡ 34 ∷ (s ++ (t ++ 34 ∷ (q ++ (r ++ 76 ∷ (l ++ 35 ∷ (n ++ 91 ∷ z))))))
spelled_flat s t q r l n z =
    let part : List ℕ = q ++ r ++ 76 ∷ l ++ 35 ∷ n in
    ap (λ (g : List ℕ). 34 ∷ g) (append_assoc (s ++ t ++ 34 ∷ part) (91 ∷ []) z ∙ append_assoc (s ++ t) (34 ∷ part) (91 ∷ z) ∙ append_assoc s t (34 ∷ (part ++ 91 ∷ z)))
    ∙ ap (λ (g : List ℕ). 34 ∷ (s ++ (t ++ 34 ∷ g))) (append_assoc (q ++ r ++ 76 ∷ l) (35 ∷ n) (91 ∷ z) ∙ append_assoc (q ++ r) (76 ∷ l) (35 ∷ (n ++ 91 ∷ z)) ∙ append_assoc q r (76 ∷ (l ++ 35 ∷ (n ++ 91 ∷ z))))

account_takes : (body : List ℕ) (made : List ℕ → Header) (xs : List ℕ) (x : Header × ℕ) → from_account body made xs ≡ Some x
    → (account rest : List ℕ) × (xs ≡ account ++ 91 ∷ rest) × (is_run is_hex 3 16 account ≡ true) × ((made account, length body - length rest) ≡ x)
account_takes body made xs x e =
    let n = bind_some (run_at is_hex 3 16 xs) (λ account. after_byte 91 account.1 >>= λ rest. Some (made account.0, length body - length rest)) x e in
    let z = bind_some (after_byte 91 n.0.1) (λ rest. Some (made n.0.0, length body - length rest)) x n.2 in
    let t = run_takes is_hex 3 16 xs n.0 n.1 in
    (n.0.0, z.0, t.0 ∙ ap (λ (l : List ℕ). n.0.0 ++ l) (after_byte_takes 91 n.0.1 z.0 z.1), t.1, some_is (made n.0.0, length body - length z.0) x z.2)

line_takes : (body : List ℕ) (made : List ℕ → List ℕ → Header) (xs : List ℕ) (x : Header × ℕ) → from_line body made xs ≡ Some x
    → (line account rest : List ℕ) × (xs ≡ line ++ 35 ∷ (account ++ 91 ∷ rest)) × (is_run is_hex 1 6 line ≡ true) × (is_run is_hex 3 16 account ≡ true) × ((made line account, length body - length rest) ≡ x)
line_takes body made xs x e =
    let n = bind_some (run_at is_hex 1 6 xs) (λ line. after_byte 35 line.1 >>= λ after_hash. from_account body (made line.0) after_hash) x e in
    let z = bind_some (after_byte 35 n.0.1) (λ after_hash. from_account body (made n.0.0) after_hash) x n.2 in
    let k = account_takes body (made n.0.0) z.0 x z.2 in
    let t = run_takes is_hex 1 6 xs n.0 n.1 in
    (n.0.0, k.0, k.1, t.0 ∙ ap (λ (l : List ℕ). n.0.0 ++ l) (after_byte_takes 35 n.0.1 z.0 z.1 ∙ ap (λ (l : List ℕ). 35 ∷ l) k.2), t.1, k.3, k.4)

fields_take : (body : List ℕ) (made : Option (List ℕ) → List ℕ → List ℕ → Header) (xs : List ℕ) (x : Header × ℕ) → from_receiver body made xs ≡ Some x
    → (receiver : Option (List ℕ)) × (line account rest : List ℕ) × (xs ≡ receiver_field receiver ++ 76 ∷ (line ++ 35 ∷ (account ++ 91 ∷ rest))) × (is_receiver receiver ≡ true) × (is_run is_hex 1 6 line ≡ true) × (is_run is_hex 3 16 account ≡ true) × ((made receiver line account, length body - length rest) ≡ x)
fields_take body made xs x e =
    let n = bind_some (receiver_at xs) (λ receiver. after_byte 76 receiver.1 >>= λ after_l. from_line body (made receiver.0) after_l) x e in
    let z = bind_some (after_byte 76 n.0.1) (λ after_l. from_line body (made n.0.0) after_l) x n.2 in
    let k = line_takes body (made n.0.0) z.0 x z.2 in
    let t = receiver_takes xs n.0 n.1 in
    (n.0.0, k.0, k.1, k.2, t.0 ∙ ap (λ (l : List ℕ). receiver_field n.0.0 ++ l) (after_byte_takes 76 n.0.1 z.0 z.1 ∙ ap (λ (l : List ℕ). 76 ∷ l) k.3), t.1, k.4, k.5, k.6)

sequence_takes : (body : List ℕ) (made : List ℕ → Option (List ℕ) → List ℕ → List ℕ → Header) (xs : List ℕ) (x : Header × ℕ) → from_sequence body made xs ≡ Some x
    → (seq : List ℕ) × (receiver : Option (List ℕ)) × (line account rest : List ℕ) × (xs ≡ seq ++ (receiver_field receiver ++ 76 ∷ (line ++ 35 ∷ (account ++ 91 ∷ rest)))) × (is_run is_digit 4 4 seq ≡ true) × (is_receiver receiver ≡ true) × (is_run is_hex 1 6 line ≡ true) × (is_run is_hex 3 16 account ≡ true) × ((made seq receiver line account, length body - length rest) ≡ x)
sequence_takes body made xs x e =
    let n = bind_some (run_at is_digit 4 4 xs) (λ sequence. from_receiver body (made sequence.0) sequence.1) x e in
    let k = fields_take body (made n.0.0) n.0.1 x n.2 in
    let t = run_takes is_digit 4 4 xs n.0 n.1 in
    (n.0.0, k.0, k.1, k.2, k.3, t.0 ∙ ap (λ (l : List ℕ). n.0.0 ++ l) k.4, t.1, k.5, k.6, k.7, k.8)

read_from : (body : List ℕ) (h : Header) (n : ℕ) (rest : List ℕ) → IsHeader h → body ≡ header_bytes h ++ rest → length body - length rest ≡ n → IsReadFrom body h n
read_from body h n rest fits whole is =
    let count : length (header_bytes h) ≡ n = omega (arith, length-append (header_bytes h) rest, ap length whole, is) in
    record {
      header = fits;
      count = count;
      spelled = whole ∙ ap (λ r. header_bytes h ++ r) (sym (drop_front (header_bytes h) rest) ∙ ap (drop (length (header_bytes h))) (sym whole) ∙ ap (λ k. drop k body) count);
    }

made_is : (sealed : Bool) (token seq : List ℕ) (receiver : Option (List ℕ)) (line account rest xs body : List ℕ) (h : Header) (n : ℕ)
    → xs ≡ token ++ 34 ∷ (seq ++ (receiver_field receiver ++ 76 ∷ (line ++ 35 ∷ (account ++ 91 ∷ rest))))
    → is_run is_token_byte 1 16 token ≡ true → is_run is_digit 4 4 seq ≡ true → is_receiver receiver ≡ true → is_run is_hex 1 6 line ≡ true → is_run is_hex 3 16 account ≡ true
    → ◌≡◌ {A = Header × ℕ} (header_made sealed token seq receiver line account, length body - length rest) (h, n)
    → (rest : List ℕ) × (34 ∷ (star sealed ++ xs) ≡ header_bytes h ++ rest) × IsHeader h × (length body - length rest ≡ n)
made_is sealed token seq receiver line account rest xs body h n whole t s r l a is =
    let bytes : 34 ∷ (star sealed ++ xs) ≡ header_bytes (header_made sealed token seq receiver line account) ++ rest =
    ap (λ (l : List ℕ). 34 ∷ (star sealed ++ l)) whole ∙ sym (spelled_flat (star sealed) token seq (receiver_field receiver) line account rest) in
    subst (λ (x : Header × ℕ). (rest : List ℕ) × (34 ∷ (star sealed ++ xs) ≡ header_bytes x.0 ++ rest) × IsHeader x.0 × (length body - length rest ≡ x.1)) is
    (rest, bytes, record { token = t; sequence = s; receiver = r; line = l; account = a }, refl)

-- what was read from behind the star on
token_takes : (body : List ℕ) (sealed : Bool) (xs : List ℕ) (h : Header) (n : ℕ) → from_token body (header_made sealed) xs ≡ Some (h, n)
    → (rest : List ℕ) × (34 ∷ (star sealed ++ xs) ≡ header_bytes h ++ rest) × IsHeader h × (length body - length rest ≡ n)
token_takes body sealed xs h count e =
    let n = bind_some (run_at is_token_byte 1 16 xs) (λ token. after_byte 34 token.1 >>= λ after_token. from_sequence body (header_made sealed token.0) after_token) (h, count) e in
    let z = bind_some (after_byte 34 n.0.1) (λ after_token. from_sequence body (header_made sealed n.0.0) after_token) (h, count) n.2 in
    let t = run_takes is_token_byte 1 16 xs n.0 n.1 in
    let k = sequence_takes body (header_made sealed n.0.0) z.0 (h, count) z.2 in
    let whole : xs ≡ n.0.0 ++ 34 ∷ (k.0 ++ (receiver_field k.1 ++ 76 ∷ (k.2 ++ 35 ∷ (k.3 ++ 91 ∷ k.4)))) = t.0 ∙ ap (λ (l : List ℕ). n.0.0 ++ l) (after_byte_takes 34 n.0.1 z.0 z.1 ∙ ap (λ (l : List ℕ). 34 ∷ l) k.5) in
    made_is sealed n.0.0 k.0 k.1 k.2 k.3 k.4 xs body h count whole t.1 k.6 k.7 k.8 k.9 k.10

pub header_takes : (body : List ℕ) (h : Header) (n : ℕ) → header_at body ≡ Some (h, n) → IsReadFrom body h n
unfolding header_at
header_takes body h n e =
    let a = bind_some (after_byte 34 body) (λ after_quote. from_token body (header_made (star_at after_quote).0) (star_at after_quote).1) (h, n) e in
    let t = token_takes body (star_at a.0).0 (star_at a.0).1 h n a.2 in
    let whole : body ≡ header_bytes h ++ t.0 = after_byte_takes 34 body a.0 a.1 ∙ ap (λ (l : List ℕ). 34 ∷ l) (star_takes a.0) ∙ t.1 in
    read_from body h n t.0 t.2 whole t.3

pub header_again : (h : Header) (rest : List ℕ) → IsHeader h → header_at (header_bytes h ++ rest) ≡ Some (h, length (header_bytes h))
unfolding header_at
header_again h rest fits =
    let from_account : List ℕ = h.account ++ 91 ∷ rest in
    let from_line : List ℕ = h.line ++ 35 ∷ from_account in
    let from_receiver : List ℕ = receiver_field h.receiver ++ 76 ∷ from_line in
    let from_token : List ℕ = h.token ++ 34 ∷ (h.seq ++ from_receiver) in
    let regrouped : header_bytes h ++ rest ≡ 34 ∷ (star h.sealed ++ from_token) = spelled_flat (star h.sealed) h.token h.seq (receiver_field h.receiver) h.line h.account rest in
    let count : length (34 ∷ (star h.sealed ++ from_token)) - length rest ≡ length (header_bytes h) = omega (arith, ap length regrouped, length-append (header_bytes h) rest) in
    ap header_at regrouped
    ∙ rw (
      star_again h.sealed h.token (34 ∷ (h.seq ++ from_receiver)) fits.token,
      run_again is_token_byte 1 16 h.token 34 (h.seq ++ from_receiver) fits.token refl,
      sequence_again h.seq h.receiver from_line fits.sequence,
      receiver_again h.receiver from_line fits.receiver,
      run_again is_hex 1 6 h.line 35 from_account fits.line refl,
      run_again is_hex 3 16 h.account 91 rest fits.account refl,
    ) (ap (λ (k : ℕ). Some (h, k)) count)

pub is_read : (body : List ℕ) (o : Option (Header × ℕ)) → o ≡ header_at body → IfSome o (λ r. IsReadFrom body r.0 r.1)
is_read body None e = tt
is_read body (Some r) e = header_takes body r.0 r.1 (sym e)
