-- Lists, place by place and backwards, and numbers that rise.
use Rattle.std.proofs.Common.{◌≡◌, ◌≤◌, ◌<◌, ◌+◌, ℕ, zero, suc, List, [], ◌∷◌, ◌++◌, Option, Some, None, length, refl, sym, ap, ◌∙◌, subst, arith}
use Rattle.std.proofs.lemmas.List.{reverse-append}
use Rattle.std.specs.List.{AllZip}
use Rattle.std.specs.List.Sorted.{IsStrictlyIncreasing}
use Rattle.std.specs.Option.{option_to_list}
use Rattle.std.specs.Prelude.{map, reverse, slice_index, slice_index_or}
use Rattle.arc_serving.specs.Jobs.{AreRising}

-- what holds at each place of two lists of one length holds of them place by place
pub zipped : {X : Type 0} (R : X → X → Type 0) (xs ys : List X) → length ys ≡ length xs
    → ((k : ℕ) (d : X) → k < length xs → R (slice_index_or xs k d) (slice_index_or ys k d)) → AllZip R xs ys
zipped R [] [] long at = tt
zipped R [] (y ∷ ys) long at = absurd (omega (arith, long))
zipped R (x ∷ xs) [] long at = absurd (omega (arith, long))
zipped R (x ∷ xs) (y ∷ ys) long at = (at 0 x (omega arith), zipped R xs ys (omega (arith, long)) (λ k d lt. at (suc k) d (omega (arith, lt))))

map_push : {X Y : Type 0} (f : X → Y) (xs : List X) (x : X) → map f (xs ++ x ∷ []) ≡ map f xs ++ f x ∷ []
map_push f [] x = refl
map_push {Y} f (y ∷ xs) x = ap (λ (ys : List Y). f y ∷ ys) (map_push f xs x)

pub map_reverse : {X Y : Type 0} (f : X → Y) (xs : List X) → map f (reverse xs) ≡ reverse (map f xs)
map_reverse f [] = refl
map_reverse {Y} f (x ∷ xs) = ap (map f) (reverse-append (x ∷ []) xs) ∙ map_push f (reverse xs) x ∙ ap (λ (ys : List Y). ys ++ f x ∷ []) (map_reverse f xs)
    ∙ sym (reverse-append (f x ∷ []) (map f xs))

-- a list of no length
pub nothing : {X : Type 0} (xs : List X) → length xs ≡ 0 → xs ≡ []
nothing [] none = refl
nothing (x ∷ xs) none = absurd (omega (arith, none))

pub reverse_option : {X : Type 0} (o : Option X) → reverse (option_to_list o) ≡ option_to_list o
reverse_option None = refl
reverse_option (Some x) = refl

-- above a number that is no less
pub rising_wider : (low : ℕ) (ns : List ℕ) (mid high : ℕ) → AreRising low ns mid → mid ≤ high → AreRising low ns high
rising_wider low [] mid high w le = omega (arith, w, le)
rising_wider low (n ∷ ns) mid high w le = (w.0, rising_wider (n + 1) ns mid high w.1 le)

-- one number more
pub rising_more : (low : ℕ) (ns : List ℕ) (mid high n : ℕ) → AreRising low ns mid → mid ≤ n → n < high → AreRising low (ns ++ n ∷ []) high
rising_more low [] mid high n w le lt = (omega (arith, w, le), omega (arith, lt))
rising_more low (m ∷ ns) mid high n w le lt = (w.0, rising_more (m + 1) ns mid high n w.1 le lt)

rising_from : (low mid : ℕ) (ns : List ℕ) (high : ℕ) → low ≤ mid → AreRising mid ns high → AreRising low ns high
rising_from low mid [] high le w = omega (arith, le, w)
rising_from low mid (n ∷ ns) high le w = (let l = w.0 in omega (arith, le, l), w.1)

-- numbers behind one another
pub rising_both : (low : ℕ) (ns ms : List ℕ) (mid high : ℕ) → AreRising low ns mid → AreRising mid ms high → AreRising low (ns ++ ms) high
rising_both low [] ms mid high w v = rising_from low mid ms high w v
rising_both low (n ∷ ns) ms mid high w v = (w.0, rising_both (n + 1) ns ms mid high w.1 v)

-- each of them is below the next
pub rising_increases : (low : ℕ) (ns : List ℕ) (high : ℕ) → AreRising low ns high → IsStrictlyIncreasing ns
rising_increases low [] high w k lt = absurd (omega (arith, lt))
rising_increases low (n ∷ []) high w k lt = absurd (omega (arith, lt))
rising_increases low (n ∷ m ∷ ns) high w zero lt = (let l = w.1.0 in omega (arith, l))
rising_increases low (n ∷ m ∷ ns) high w (suc k) lt =
    let next : suc (k + 1) ≡ suc k + 1 = omega arith in
    subst (λ (i : ℕ). slice_index (n ∷ m ∷ ns) (suc k) < slice_index (n ∷ m ∷ ns) i) next (rising_increases (n + 1) (m ∷ ns) high w.1 k (omega (arith, lt)))
