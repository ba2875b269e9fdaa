-- What is read as blocks is written so, and what is written so is read.
use Rattle.std.proofs.Common.{◌≡◌, ◌≤◌, ◌+◌, ℕ, zero, suc, List, [], ◌∷◌, ◌++◌, length, drop, Bool, true, false, cond, eqb, Option, Some, None, refl, sym, ◌∙◌, ap, subst, arith, append_assoc, length-append, take-append-drop}
use Rattle.std.specs.Prelude.{not}
use Rattle.std.specs.List.{take_while, prefix_len, list_all}
use Rattle.std.specs.Option.{option_map}
use Rattle.std.proofs.lemmas.Bool.{and_parts, and_from}
use Rattle.std.proofs.lemmas.List.Sums.{take_while-cons}
use Rattle.std.proofs.lemmas.List.Folds.{length-prefix_len}
use Rattle.std.proofs.Math.Seq.{drop-append_seam}
use Rattle.dc09_frame.specs.Headers.{◌>>=◌, after_byte}
use Rattle.dc09_frame.proofs.HeaderLaws.{bind_some, some_is, after_byte_takes}
use Rattle.dc09_message.specs.Blocks.{is_free, are_free, blocks_bytes, Blocks, IsBlocks, is_end, content_at, block_at, blocks_or, further_below, further_at, blocks_at}

pub map_some : {A B : Type 0} (o : Option A) (f : A → B) (y : B) → option_map f o ≡ Some y → (x : A) × (o ≡ Some x) × (f x ≡ y)
map_some None f y e = absurd cc
map_some (Some x) f y e = (x, refl, some_is (f x) y e)

-- A content and its `]`.

all_front_step : (x : ℕ) (front : List ℕ) (t : Bool) → is_free x ≡ t → are_free front ≡ true → are_free (cond t (x ∷ front) []) ≡ true
all_front_step x front true e all = and_from (is_free x) (are_free front) e all
all_front_step x front false e all = refl

all_front : (xs : List ℕ) → are_free (take_while is_free xs) ≡ true
all_front [] = refl
all_front (x ∷ xs) = rw take_while-cons (all_front_step x (take_while is_free xs) (is_free x) refl (all_front xs))

front_again : (text ys : List ℕ) → are_free text ≡ true → take_while is_free (text ++ 93 ∷ ys) ≡ text
front_again [] ys all = rw take_while-cons refl
front_again (x ∷ text) ys all =
    let h = and_parts (is_free x) (are_free text) all in
    rw (take_while-cons, h.0, front_again text ys h.1) refl

pub content_takes : (bytes : List ℕ) (x : List ℕ × List ℕ) → content_at bytes ≡ Some x → (bytes ≡ x.0 ++ 93 ∷ x.1) × (are_free x.0 ≡ true)
unfolding content_at
content_takes bytes x e =
    let run : List ℕ = take_while is_free bytes in
    let m = map_some (after_byte 93 (drop (length run) bytes)) (λ rest. (run, rest)) x e in
    let whole : bytes ≡ run ++ drop (length run) bytes = sym (ap (λ n. run ++ drop n bytes) (length-prefix_len is_free bytes) ∙ take-append-drop (prefix_len is_free bytes) bytes) in
    let full : bytes ≡ run ++ 93 ∷ m.0 = whole ∙ ap (λ (l : List ℕ). run ++ l) (after_byte_takes 93 (drop (length run) bytes) m.0 m.1) in
    subst (λ (y : List ℕ × List ℕ). (bytes ≡ y.0 ++ 93 ∷ y.1) × (are_free y.0 ≡ true)) m.2 (full, all_front bytes)

pub content_again : (content rest : List ℕ) → are_free content ≡ true → content_at (content ++ 93 ∷ rest) ≡ Some (content, rest)
unfolding content_at
content_again content rest free = rw (front_again content rest free, drop-append_seam content (93 ∷ rest)) refl

-- what follows a content is shorter by its `]` at least
pub content_shorter : (bytes : List ℕ) (x : List ℕ × List ℕ) → content_at bytes ≡ Some x → length x.1 + 1 ≤ length bytes
content_shorter bytes x e = omega (arith, ap length (content_takes bytes x e).0, length-append x.0 (93 ∷ x.1))

-- A further block.

pub block_takes : (bytes : List ℕ) (x : List ℕ × List ℕ) → block_at bytes ≡ Some x → (bytes ≡ 91 ∷ (x.0 ++ 93 ∷ x.1)) × (are_free x.0 ≡ true)
block_takes bytes x e =
    let a = bind_some (after_byte 91 bytes) content_at x e in
    let c = content_takes a.0 x a.2 in
    (after_byte_takes 91 bytes a.0 a.1 ∙ ap (λ (l : List ℕ). 91 ∷ l) c.0, c.1)

-- what follows a further block is shorter by its brackets at least
pub block_shorter : (bytes : List ℕ) (x : List ℕ × List ℕ) → block_at bytes ≡ Some x → length x.1 + 2 ≤ length bytes
block_shorter bytes x e = omega (arith, ap length (block_takes bytes x e).0, length-append x.0 (93 ∷ x.1))

no_block : (tail : List ℕ) → is_end tail ≡ true → block_at tail ≡ None
no_block [] ends = refl
no_block (b ∷ rest) ends = step (eqb b 91) ends
  where
    step : (t : Bool) → not t ≡ true → (cond t (Some rest) None >>= content_at) ≡ None
    step true is = absurd cc
    step false is = refl

-- Further blocks.

flat : (content more tail : List ℕ) → ((91 ∷ content ++ 93 ∷ []) ++ more) ++ tail ≡ 91 ∷ (content ++ 93 ∷ (more ++ tail))
flat content more tail = append_assoc (91 ∷ content ++ 93 ∷ []) more tail ∙ append_assoc (91 ∷ content) (93 ∷ []) (more ++ tail)

-- the bytes are these blocks and what follows them
abbrev TakesBlocks : List ℕ → List (List ℕ) × List ℕ → Type 0
TakesBlocks bytes found = (bytes ≡ blocks_bytes found.0 ++ found.1) × (list_all are_free found.0 ≡ true)

takes_step : (count : ℕ) (bytes : List ℕ) (o : Option (List ℕ × List ℕ)) → ((xs : List ℕ) → TakesBlocks xs (further_below count xs)) → block_at bytes ≡ o → TakesBlocks bytes (blocks_or (further_below count) bytes o)
takes_step count bytes None later is = (refl, refl)
takes_step count bytes (Some x) later is =
    let t = block_takes bytes x is in
    let l = later x.1 in
    let found : List (List ℕ) × List ℕ = further_below count x.1 in
    (t.0 ∙ ap (λ (g : List ℕ). 91 ∷ (x.0 ++ 93 ∷ g)) l.0 ∙ sym (flat x.0 (blocks_bytes found.0) found.1), and_from (are_free x.0) (list_all are_free found.0) t.1 l.1)

pub further_take : (count : ℕ) (bytes : List ℕ) → TakesBlocks bytes (further_below count bytes)
unfolding further_below
further_take zero bytes = (refl, refl)
further_take (suc count) bytes = takes_step count bytes (block_at bytes) (further_take count) refl

pub further_again : (further : List (List ℕ)) (tail : List ℕ) (count : ℕ) → list_all are_free further ≡ true → is_end tail ≡ true → length further ≤ count → further_below count (blocks_bytes further ++ tail) ≡ (further, tail)
unfolding further_below
further_again [] tail zero free ends fits = refl
further_again [] tail (suc count) free ends fits = ap (blocks_or (further_below count) tail) (no_block tail ends)
further_again (c ∷ cs) tail zero free ends fits = absurd (omega arith)
further_again (c ∷ cs) tail (suc count) free ends fits =
    let h = and_parts (are_free c) (list_all are_free cs) free in
    let rest : List ℕ = blocks_bytes cs ++ tail in
    let later : further_below count rest ≡ (cs, tail) = further_again cs tail count h.1 ends (omega arith) in
    ap (further_below (suc count)) (flat c (blocks_bytes cs) tail)
    ∙ ap (blocks_or (further_below count) (91 ∷ (c ++ 93 ∷ rest))) (block_again_at c rest h.0)
    ∙ ap (λ (r : List (List ℕ) × List ℕ). (c ∷ r.0, r.1)) later
  where
    block_again_at : (content rest : List ℕ) → are_free content ≡ true → block_at (91 ∷ (content ++ 93 ∷ rest)) ≡ Some (content, rest)
    block_again_at content rest free = content_again content rest free

-- there are no more blocks than bytes
count_fits : (further : List (List ℕ)) (tail : List ℕ) → length further ≤ length (blocks_bytes further ++ tail)
count_fits [] tail = omega arith
count_fits (c ∷ cs) tail = omega (arith, ap length (flat c (blocks_bytes cs) tail), length-append c (93 ∷ (blocks_bytes cs ++ tail)), count_fits cs tail)

-- How many blocks may be read makes no difference, where they are as many as there are bytes.

stable_step : (n m : ℕ) (bytes : List ℕ) (o : Option (List ℕ × List ℕ)) → ((xs : List ℕ) → length xs ≤ n → length xs ≤ m → further_below n xs ≡ further_below m xs) → block_at bytes ≡ o → length bytes ≤ suc n → length bytes ≤ suc m
    → blocks_or (further_below n) bytes o ≡ blocks_or (further_below m) bytes o
stable_step n m bytes None later is p q = refl
stable_step n m bytes (Some x) later is p q =
    let s = block_shorter bytes x is in
    ap (λ (r : List (List ℕ) × List ℕ). (x.0 ∷ r.0, r.1)) (later x.1 (omega arith) (omega arith))

pub further_stable : (n m : ℕ) (bytes : List ℕ) → length bytes ≤ n → length bytes ≤ m → further_below n bytes ≡ further_below m bytes
unfolding further_below
further_stable zero zero bytes p q = refl
further_stable zero (suc m) [] p q = refl
further_stable zero (suc m) (b ∷ bytes) p q = absurd (omega arith)
further_stable (suc n) zero [] p q = refl
further_stable (suc n) zero (b ∷ bytes) p q = absurd (omega arith)
further_stable (suc n) (suc m) bytes p q = stable_step n m bytes (block_at bytes) (further_stable n m) refl p q

one_more : (bytes : List ℕ) → further_at bytes ≡ blocks_or (further_below (length bytes)) bytes (block_at bytes)
unfolding further_below
one_more bytes = further_stable (length bytes) (suc (length bytes)) bytes (omega arith) (omega arith)

-- what follows all blocks, behind the first of them
pub further_step : (bytes : List ℕ) (x : List ℕ × List ℕ) → block_at bytes ≡ Some x → (further_at bytes).1 ≡ (further_at x.1).1
further_step bytes x is =
    let s = block_shorter bytes x is in
    ap (λ (r : List (List ℕ) × List ℕ). r.1) (one_more bytes ∙ ap (blocks_or (further_below (length bytes)) bytes) is)
    ∙ ap (λ (r : List (List ℕ) × List ℕ). r.1) (further_stable (length bytes) (length x.1) x.1 (omega arith) (omega arith))

pub further_none : (bytes : List ℕ) → block_at bytes ≡ None → (further_at bytes).1 ≡ bytes
further_none bytes is = ap (λ (r : List (List ℕ) × List ℕ). r.1) (one_more bytes ∙ ap (blocks_or (further_below (length bytes)) bytes) is)

-- All blocks.

abbrev pub made_of : List ℕ × List ℕ → Blocks × List ℕ
made_of first = (record { first = first.0; further = (further_at first.1).0 }, (further_at first.1).1)

pub blocks_take : (bytes : List ℕ) (blocks : Blocks) (tail : List ℕ) → blocks_at bytes ≡ Some (blocks, tail) → IsBlocks blocks tail bytes
unfolding blocks_at
blocks_take bytes blocks tail e =
    let m = map_some (content_at bytes) made_of (blocks, tail) e in
    let c = content_takes bytes m.0 m.1 in
    let f = further_take (length m.0.1) m.0.1 in
    let found : List (List ℕ) × List ℕ = further_at m.0.1 in
    let whole : bytes ≡ m.0.0 ++ 93 ∷ blocks_bytes found.0 ++ found.1 = c.0 ∙ ap (λ (l : List ℕ). m.0.0 ++ 93 ∷ l) f.0 ∙ sym (append_assoc m.0.0 (93 ∷ blocks_bytes found.0) found.1) in
    subst (λ (p : Blocks × List ℕ). IsBlocks p.0 p.1 bytes) m.2 (record { first_free = c.1; further_free = f.1; spelled = whole })

pub blocks_again : (bytes : List ℕ) (blocks : Blocks) (tail : List ℕ) → IsBlocks blocks tail bytes → is_end tail ≡ true → blocks_at bytes ≡ Some (blocks, tail)
unfolding blocks_at
blocks_again bytes blocks tail w ends =
    let more : List ℕ = blocks_bytes blocks.further in
    let is : bytes ≡ blocks.first ++ 93 ∷ (more ++ tail) = w.spelled ∙ append_assoc blocks.first (93 ∷ more) tail in
    ap blocks_at is
    ∙ ap (option_map made_of) (content_again blocks.first (more ++ tail) w.first_free)
    ∙ ap (λ (r : List (List ℕ) × List ℕ). Some (record { first = blocks.first; further = r.0 }, r.1)) (further_again blocks.further tail (length (more ++ tail)) w.further_free ends (count_fits blocks.further tail))
