-- What a test finds among numbers that follow one another.
use Rattle.std.proofs.Common.{◌≡◌, ℕ, zero, suc, ◌+◌, ◌-◌, ◌<◌, ◌≤◌, List, [], ◌∷◌, length, Bool, true, false, cond, ltb, Option, Some, None, refl, sym, ap, ◌∙◌, arith}
use Rattle.std.proofs.lemmas.Bool.{ltb-true, ltb-false}
use Rattle.std.specs.List.{find, filter, range_with_len}

-- none passes
pub find_nothing : (t : ℕ → Bool) (a n : ℕ) → ((k : ℕ) → a ≤ k → k < a + n → t k ≡ false) → find t (range_with_len a n) ≡ None
find_nothing t a zero none = refl
find_nothing t a (suc n) none = rw (none a (omega arith) (omega arith)) (find_nothing t (a + 1) n (λ k low high. none k (omega arith) (omega arith)))

-- m is the first that passes

find_step : (t : ℕ → Bool) (a n m : ℕ) → (a < m → t a ≡ false) → t m ≡ true → a ≤ m → (a < m → find t (range_with_len (a + 1) n) ≡ Some m) → (b : Bool) → ltb a m ≡ b → find t (range_with_len a (suc n)) ≡ Some m
find_step t a n m none is low rest true below = let lt : a < m = ltb-true a m below in rw (none lt) (rest lt)
find_step t a n m none is low rest false below = let same : a ≡ m = omega (arith, ltb-false a m below) in rw same (rw is refl)

pub find_first : (t : ℕ → Bool) (a n m : ℕ) → ((k : ℕ) → a ≤ k → k < m → t k ≡ false) → t m ≡ true → a ≤ m → m < a + n → find t (range_with_len a n) ≡ Some m
find_first t a zero m none is low high = absurd (omega arith)
find_first t a (suc n) m none is low high = find_step t a n m (none a (omega arith)) is low (λ lt. find_first t (a + 1) n m (λ k l h. none k (omega arith) h) is (omega arith) (omega arith)) (ltb a m) refl

-- all pass
pub filter_all : (t : ℕ → Bool) (a n : ℕ) → ((k : ℕ) → a ≤ k → k < a + n → t k ≡ true) → length (filter t (range_with_len a n)) ≡ n
filter_all t a zero all = refl
filter_all t a (suc n) all = rw (all a (omega arith) (omega arith)) (ap suc (filter_all t (a + 1) n (λ k low high. all k (omega arith) (omega arith))))

-- those from m on pass

filter_step : (t : ℕ → Bool) (a n m : ℕ) → (a < m → t a ≡ false) → (a ≡ m → length (filter t (range_with_len a (suc n))) ≡ suc n) → a ≤ m → (a < m → length (filter t (range_with_len (a + 1) n)) ≡ a + 1 + n - m) → (b : Bool) → ltb a m ≡ b → length (filter t (range_with_len a (suc n))) ≡ a + suc n - m
filter_step t a n m none all low rest true below = let lt : a < m = ltb-true a m below in rw (none lt) (rest lt ∙ omega arith)
filter_step t a n m none all low rest false below = let same : a ≡ m = omega (arith, ltb-false a m below) in all same ∙ omega arith

pub filter_from : (t : ℕ → Bool) (a n m : ℕ) → ((k : ℕ) → a ≤ k → k < m → t k ≡ false) → ((k : ℕ) → m ≤ k → k < a + n → t k ≡ true) → a ≤ m → m ≤ a + n → length (filter t (range_with_len a n)) ≡ a + n - m
filter_from t a zero m none all low high = omega arith
filter_from t a (suc n) m none all low high = filter_step t a n m (none a (omega arith)) (λ same. filter_all t a (suc n) (λ k l h. all k (omega arith) h)) low (λ lt. filter_from t (a + 1) n m (λ k l h. none k (omega arith) h) (λ k l h. all k l (omega arith)) (omega arith) (omega arith)) (ltb a m) refl
