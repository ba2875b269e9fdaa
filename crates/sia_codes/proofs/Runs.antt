-- The longest run that begins a text, and the longest among its first bytes.
use Rattle.std.proofs.Common.{◌≡◌, ℕ, suc, ◌≤◌, List, [], ◌∷◌, ◌++◌, length, take, drop, Bool, true, false, cond, refl, sym, ◌∙◌, ap, arith, inl, inr, take-append-drop}
use Prim.Native.Nat.{zero}
use Rattle.std.specs.Prelude.{◌⊎◌}
use Rattle.std.specs.List.{take_while, prefix_len, list_all}
use Rattle.std.proofs.lemmas.Bool.{and_parts}
use Rattle.std.proofs.lemmas.List.Sums.{take_while-cons}
use Rattle.std.proofs.lemmas.List.Folds.{length-prefix_len}
use Rattle.alarm_rules.specs.SiaGrammar.{begins}

all_front_step : (test : ℕ → Bool) (x : ℕ) (front : List ℕ) (t : Bool) → test x ≡ t → list_all test front ≡ true → list_all test (cond t (x ∷ front) []) ≡ true
all_front_step test x front true e all = rw e all
all_front_step test x front false e all = refl

pub all_front : (test : ℕ → Bool) (xs : List ℕ) → list_all test (take_while test xs) ≡ true
all_front test [] = refl
all_front test (x ∷ xs) = rw take_while-cons (all_front_step test x (take_while test xs) (test x) refl (all_front test xs))

ends_step : (test : ℕ → Bool) (x : ℕ) (xs front : List ℕ) (t : Bool) → test x ≡ t → begins test (drop (length front) xs) ≡ false → begins test (drop (length (cond t (x ∷ front) [])) (x ∷ xs)) ≡ false
ends_step test x xs front true e ends = ends
ends_step test x xs front false e ends = e

pub front_ends : (test : ℕ → Bool) (xs : List ℕ) → begins test (drop (length (take_while test xs)) xs) ≡ false
front_ends test [] = refl
front_ends test (x ∷ xs) = rw take_while-cons (ends_step test x xs (take_while test xs) (test x) refl (front_ends test xs))

pub front_whole : (test : ℕ → Bool) (xs : List ℕ) → xs ≡ take_while test xs ++ drop (length (take_while test xs)) xs
front_whole test xs = sym (ap (λ n. take_while test xs ++ drop n xs) (length-prefix_len test xs) ∙ take-append-drop (prefix_len test xs) xs)

pub front_again : (test : ℕ → Bool) (run rest : List ℕ) → list_all test run ≡ true → begins test rest ≡ false → take_while test (run ++ rest) ≡ run
front_again test [] [] all stops = refl
front_again test [] (y ∷ ys) all stops = rw (take_while-cons, stops) refl
front_again test (x ∷ run) rest all stops =
    let h = and_parts (test x) (list_all test run) all in
    rw (take_while-cons, h.0, front_again test run rest h.1 stops) refl

-- Among the first n bytes.

abbrev pub first_run : (ℕ → Bool) → ℕ → List ℕ → List ℕ
first_run test n xs = take_while test (take n xs)

ends_first_step : (test : ℕ → Bool) (n x : ℕ) (xs front : List ℕ) (t : Bool) → test x ≡ t → (length front ≡ n) ⊎ (begins test (drop (length front) xs) ≡ false)
    → (length (cond t (x ∷ front) []) ≡ suc n) ⊎ (begins test (drop (length (cond t (x ∷ front) [])) (x ∷ xs)) ≡ false)
ends_first_step test n x xs front true e (inl full) = inl (ap suc full)
ends_first_step test n x xs front true e (inr ends) = inr ends
ends_first_step test n x xs front false e either = inr e

pub first_ends : (test : ℕ → Bool) (n : ℕ) (xs : List ℕ) → (length (first_run test n xs) ≡ n) ⊎ (begins test (drop (length (first_run test n xs)) xs) ≡ false)
first_ends test zero xs = inl refl
first_ends test (suc n) [] = inr refl
first_ends test (suc n) (x ∷ xs) = rw take_while-cons (ends_first_step test n x xs (first_run test n xs) (test x) refl (first_ends test n xs))

whole_step : (x : ℕ) (xs front : List ℕ) (t : Bool) → xs ≡ front ++ drop (length front) xs → x ∷ xs ≡ cond t (x ∷ front) [] ++ drop (length (cond t (x ∷ front) [])) (x ∷ xs)
whole_step x xs front true whole = ap (λ ys. x ∷ ys) whole
whole_step x xs front false whole = refl

pub first_whole : (test : ℕ → Bool) (n : ℕ) (xs : List ℕ) → xs ≡ first_run test n xs ++ drop (length (first_run test n xs)) xs
first_whole test zero xs = refl
first_whole test (suc n) [] = refl
first_whole test (suc n) (x ∷ xs) = rw take_while-cons (whole_step x xs (first_run test n xs) (test x) (first_whole test n xs))

fits_step : (n x : ℕ) (front : List ℕ) (t : Bool) → length front ≤ n → length (cond t (x ∷ front) []) ≤ suc n
fits_step n x front true fits = omega arith
fits_step n x front false fits = omega arith

pub first_fits : (test : ℕ → Bool) (n : ℕ) (xs : List ℕ) → length (first_run test n xs) ≤ n
first_fits test zero xs = omega arith
first_fits test (suc n) [] = omega arith
first_fits test (suc n) (x ∷ xs) = rw take_while-cons (fits_step n x (first_run test n xs) (test x) (first_fits test n xs))

one_less : (n : ℕ) (x : ℕ) (run : List ℕ) (P : Type 0) → (length (x ∷ run) ≡ suc n) ⊎ P → (length run ≡ n) ⊎ P
one_less n x run P (inl full) = inl (omega arith)
one_less n x run P (inr ends) = inr ends

pub first_again : (test : ℕ → Bool) (n : ℕ) (run rest : List ℕ) → list_all test run ≡ true → length run ≤ n → (length run ≡ n) ⊎ (begins test rest ≡ false) → first_run test n (run ++ rest) ≡ run
first_again test zero [] rest all fits ends = refl
first_again test zero (x ∷ run) rest all fits ends = absurd (omega arith)
first_again test (suc n) [] rest all fits (inl full) = absurd (omega arith)
first_again test (suc n) [] [] all fits (inr stops) = refl
first_again test (suc n) [] (y ∷ ys) all fits (inr stops) = rw (take_while-cons, stops) refl
first_again test (suc n) (x ∷ run) rest all fits ends =
    let h = and_parts (test x) (list_all test run) all in
    rw (take_while-cons, h.0, first_again test n run rest h.1 (omega arith) (one_less n x run (begins test rest ≡ false) ends)) refl
