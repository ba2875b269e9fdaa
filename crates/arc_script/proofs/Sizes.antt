-- The lines of a stream are no longer than it, and have no line feed in them.
use Rattle.std.proofs.Common.{◌≡◌, ◌≤◌, ◌+◌, ◌-◌, ◌++◌, ◌∷◌, ◌||◌, ℕ, suc, zero, List, [], Bool, true, false, cond, eqb, length, take, refl, ap, subst, ◌∙◌, arith}
use Rattle.std.proofs.Common.{length-take}
use Rattle.std.specs.Prelude.{slice_index}
use Rattle.std.specs.List.{list_any, onto_first}
use Rattle.std.specs.Str.Lines.{lines, lines_of_parts, strip_carriage_return}
use Rattle.std.proofs.lemmas.Bool.{or_parts}
use Rattle.arc_text.specs.Lines.{is_feed, parts, ended_parts, ended_lines}
use Rattle.session_rules.specs.Inputs.{input_limit}
use Rattle.arc_script.specs.Between.{MayComeNext, size_of}

-- the bytes of parts, and one for each
weight : List (List ℕ) → ℕ
weight [] = 0
weight (p ∷ ps) = length p + 1 + weight ps

onto_weight : (x : ℕ) (ps : List (List ℕ)) → weight (onto_first x ps) ≤ weight ps + 2
unfolding weight
onto_weight x [] = omega arith
onto_weight x (p ∷ ps) = omega arith

some_weight : (x : ℕ) (p : List ℕ) (ps : List (List ℕ)) → weight (onto_first x (p ∷ ps)) ≤ weight (p ∷ ps) + 1
unfolding weight
some_weight x p ps = omega arith

parts_step : (x n : ℕ) (t : Bool) (ps : List (List ℕ)) → weight ps ≤ n + 1 → weight (cond t ([] ∷ ps) (onto_first x ps)) ≤ n + 2
unfolding weight
parts_step x n true ps fits = omega (arith, fits)
parts_step x n false [] fits = omega arith
parts_step x n false (p ∷ ps) fits = omega (arith, fits, some_weight x p ps)

parts_weight : (s : List ℕ) → weight (parts s) ≤ length s + 1
unfolding weight
parts_weight [] = omega arith
parts_weight (x ∷ s) =
    let e : weight (parts (x ∷ s)) ≤ length s + 2 = parts_step x (length s) (is_feed x) (parts s) (parts_weight s) in
    omega (arith, e)

strip_step : (l : List ℕ) (t : Bool) → length (cond t (take (length l - 1) l) l) ≤ length l
strip_step l true = omega (arith, length-take (length l - 1) l)
strip_step l false = omega arith

strip_shorter : (l : List ℕ) → length (strip_carriage_return l) ≤ length l
strip_shorter l = strip_step l (eqb (slice_index l (length l - 1)) 13)

ended_small : (ps : List (List ℕ)) → length (ended_parts ps) + size_of (ended_parts ps) ≤ weight ps
unfolding weight
ended_small [] = omega arith
ended_small (p ∷ []) = omega arith
ended_small (p ∷ q ∷ ps) =
    let rest = ended_small (q ∷ ps) in
    let one = strip_shorter p in
    omega (arith, rest, one)

last_step : (p : List ℕ) (t : Bool) → length (cond t [] (p ∷ [])) + size_of (cond t [] (p ∷ [])) ≤ length p + 1
last_step p true = omega arith
last_step p false = omega arith

lines_small : (ps : List (List ℕ)) → length (lines_of_parts ps) + size_of (lines_of_parts ps) ≤ weight ps
unfolding weight
lines_small [] = omega arith
lines_small (p ∷ []) =
    let one = last_step p (eqb (length p) 0) in
    omega (arith, one)
lines_small (p ∷ q ∷ ps) =
    let rest = lines_small (q ∷ ps) in
    let one = strip_shorter p in
    omega (arith, rest, one)

pub length_last : (xs : List (List ℕ)) (line : List ℕ) → length (xs ++ line ∷ []) ≡ length xs + 1
length_last [] line = refl
length_last (x ∷ xs) line =
    let rest = length_last xs line in
    omega (arith, rest)

pub size_last : (xs : List (List ℕ)) (line : List ℕ) → size_of (xs ++ line ∷ []) ≡ size_of xs + length line
size_last [] line = omega arith
size_last (x ∷ xs) line =
    let rest = size_last xs line in
    omega (arith, rest)

-- No line feed is in them.

Clean : List (List ℕ) → Type 0
Clean [] = Unit {0}
Clean (p ∷ ps) = (list_any is_feed p ≡ false) × Clean ps

clean_onto : (x : ℕ) (ps : List (List ℕ)) → is_feed x ≡ false → Clean ps → Clean (onto_first x ps)
unfolding Clean
clean_onto x [] is clean = (ap (λ b. b || false) is, tt)
clean_onto x (p ∷ ps) is clean = (ap (λ b. b || list_any is_feed p) is ∙ clean.0, clean.1)

clean_step : (x : ℕ) (t : Bool) (ps : List (List ℕ)) → is_feed x ≡ t → Clean ps → Clean (cond t ([] ∷ ps) (onto_first x ps))
unfolding Clean
clean_step x true ps is clean = (refl, clean)
clean_step x false ps is clean = clean_onto x ps is clean

clean_parts : (s : List ℕ) → Clean (parts s)
unfolding Clean
clean_parts [] = (refl, tt)
clean_parts (x ∷ s) = clean_step x (is_feed x) (parts s) refl (clean_parts s)

clean_take : (n : ℕ) (l : List ℕ) → list_any is_feed l ≡ false → list_any is_feed (take n l) ≡ false
clean_take zero l none = refl
clean_take (suc n) [] none = refl
clean_take (suc n) (x ∷ l) none =
    let h = or_parts (is_feed x) (list_any is_feed l) none in
    ap (λ b. b || list_any is_feed (take n l)) h.0 ∙ clean_take n l h.1

strip_clean_step : (l : List ℕ) (t : Bool) → list_any is_feed l ≡ false → list_any is_feed (cond t (take (length l - 1) l) l) ≡ false
strip_clean_step l true none = clean_take (length l - 1) l none
strip_clean_step l false none = none

strip_clean : (l : List ℕ) → list_any is_feed l ≡ false → list_any is_feed (strip_carriage_return l) ≡ false
strip_clean l none = strip_clean_step l (eqb (slice_index l (length l - 1)) 13) none

clean_ended : (ps : List (List ℕ)) → Clean ps → Clean (ended_parts ps)
unfolding Clean
clean_ended [] clean = tt
clean_ended (p ∷ []) clean = tt
clean_ended (p ∷ q ∷ ps) clean = (strip_clean p clean.0, clean_ended (q ∷ ps) clean.1)

clean_last_step : (p : List ℕ) (t : Bool) → list_any is_feed p ≡ false → Clean (cond t [] (p ∷ []))
unfolding Clean
clean_last_step p true none = tt
clean_last_step p false none = (none, tt)

clean_lines : (ps : List (List ℕ)) → Clean ps → Clean (lines_of_parts ps)
unfolding Clean
clean_lines [] clean = tt
clean_lines (p ∷ []) clean = clean_last_step p (eqb (length p) 0) clean.0
clean_lines (p ∷ q ∷ ps) clean = (strip_clean p clean.0, clean_lines (q ∷ ps) clean.1)

last_clean : (xs : List (List ℕ)) (line : List ℕ) → Clean (xs ++ line ∷ []) → list_any is_feed line ≡ false
unfolding Clean
last_clean [] line clean = clean.0
last_clean (x ∷ xs) line clean = last_clean xs line clean.1

may_come : (xs : List (List ℕ)) (line s : List ℕ) (all : List (List ℕ)) → all ≡ xs ++ line ∷ [] → length all + size_of all ≤ weight (parts s)
    → Clean all → length s ≤ input_limit → MayComeNext xs line
may_come xs line s all is small clean fits =
    let bytes = size_last xs line in
    let count = length_last xs line in
    let both : length (xs ++ line ∷ []) + size_of (xs ++ line ∷ []) ≤ weight (parts s) = subst (λ (l : List (List ℕ)). length l + size_of l ≤ weight (parts s)) is small in
    let whole = parts_weight s in
    record {
      within = omega (arith, bytes, count, both, whole, fits);
      unbroken = last_clean xs line (subst Clean is clean);
    }

-- the last line that a line feed ended
pub ended_next : (xs : List (List ℕ)) (line s : List ℕ) → ended_lines s ≡ xs ++ line ∷ [] → length s ≤ input_limit → MayComeNext xs line
ended_next xs line s is fits = may_come xs line s (ended_lines s) is (ended_small (parts s)) (clean_ended (parts s) (clean_parts s)) fits

-- the last line of all
pub line_last : (xs : List (List ℕ)) (line s : List ℕ) → lines s ≡ xs ++ line ∷ [] → length s ≤ input_limit → MayComeNext xs line
line_last xs line s is fits = may_come xs line s (lines s) is (lines_small (parts s)) (clean_lines (parts s) (clean_parts s)) fits
