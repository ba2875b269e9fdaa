-- The lines of a script with their numbers, one line after another.
use Rattle.std.proofs.Common.{◌≡◌, ◌+◌, ◌++◌, ◌∷◌, ℕ, suc, List, [], Bool, true, false, not, cond, filter, length, ap, ◌∙◌, append-nil, arith}
use Rattle.std.proofs.lemmas.List.Elements.{filter-append}
use Rattle.arc_script.specs.Texts.{counted, is_passed, numbered_from}

-- the line is not skipped
abbrev pub is_played : ℕ × List ℕ → Bool
is_played line = not (is_passed line.1)

numbered-append : (n : ℕ) (xs ys : List (List ℕ)) → numbered_from n (xs ++ ys) ≡ numbered_from n xs ++ numbered_from (n + length xs) ys
numbered-append n [] ys = let e : n ≡ n + 0 = omega arith in ap (λ k. numbered_from k ys) e
numbered-append n (x ∷ xs) ys =
    let e : n + 1 + length xs ≡ n + suc (length xs) = omega arith in
    ap (λ l. (n, x) ∷ l) (numbered-append (n + 1) xs ys ∙ ap (λ k. numbered_from (n + 1) xs ++ numbered_from k ys) e)

-- those of more lines stand behind
pub counted_more : (xs ys : List (List ℕ)) → counted (xs ++ ys) ≡ counted xs ++ filter is_played (numbered_from (1 + length xs) ys)
counted_more xs ys = ap (filter is_played) (numbered-append 1 xs ys) ∙ filter-append is_played (numbered_from 1 xs) (numbered_from (1 + length xs) ys)

one_line : (t : Bool) (n : ℕ) (line : List ℕ) (rest : List (ℕ × List ℕ)) → is_passed line ≡ t
    → filter is_played ((n, line) ∷ rest) ≡ cond t (filter is_played rest) ((n, line) ∷ filter is_played rest)
one_line true n line rest is = ap (λ (t : Bool). cond (not t) ((n, line) ∷ filter is_played rest) (filter is_played rest)) is
one_line false n line rest is = ap (λ (t : Bool). cond (not t) ((n, line) ∷ filter is_played rest) (filter is_played rest)) is

-- a line that is skipped
pub counted_passed : (xs : List (List ℕ)) (line : List ℕ) → is_passed line ≡ true → counted (xs ++ line ∷ []) ≡ counted xs
counted_passed xs line is =
    counted_more xs (line ∷ []) ∙ ap (λ l. counted xs ++ l) (one_line true (1 + length xs) line [] is) ∙ append-nil (counted xs)

-- and one that is not
pub counted_next : (xs : List (List ℕ)) (line : List ℕ) (ys : List (List ℕ)) → is_passed line ≡ false
    → counted (xs ++ line ∷ ys) ≡ counted xs ++ (1 + length xs, line) ∷ filter is_played (numbered_from (1 + length xs + 1) ys)
counted_next xs line ys is =
    counted_more xs (line ∷ ys) ∙ ap (λ l. counted xs ++ l) (one_line false (1 + length xs) line (numbered_from (1 + length xs + 1) ys) is)
