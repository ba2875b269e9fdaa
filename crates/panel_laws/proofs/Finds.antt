-- What is found among numbers that go up by one.
use Rattle.std.proofs.Common.{◌≡◌, ◌≤◌, ◌<◌, ◌+◌, ◌⊎◌, ℕ, zero, suc, List, [], ◌∷◌, Bool, true, false, cond, refl, sym, ap, ◌∙◌, subst, true≢false, inl, inr, arith}
use Rattle.std.specs.Prelude.{Some, None}
use Rattle.std.specs.List.{find, range_with_len, list_any, AllByRecursion}
use Rattle.std.proofs.lemmas.Option.{none-some, same_Some}
use Rattle.std.proofs.lemmas.Bool.{cases_lt, or_cases, or_left, or_right}
use Rattle.panel_laws.specs.Worlds.{IsAmong}

-- n is the first from a on, below an end, that passes the test
pub record IsFirst (test : ℕ → Bool) (a end n : ℕ) : Type 0 where
  pub from : a ≤ n
  pub below : n < end
  pub passes : test n ≡ true
  pub first : (m : ℕ) → a ≤ m → m < n → test m ≡ false

-- none passes
abbrev pub NonePasses : (ℕ → Bool) → ℕ → ℕ → Type 0
NonePasses test a end = (m : ℕ) → a ≤ m → m < end → test m ≡ false

-- a number is a or above a
least : (a m : ℕ) → a ≤ m → (a ≡ m) ⊎ (a + 1 ≤ m)
least a m le = elim (cases_lt a m) [ inl less ↦ inr (omega (arith, less)) | inr more ↦ inl (omega (arith, le, more)) ]

first_more : (test : ℕ → Bool) (a m : ℕ) → test a ≡ false → (a ≡ m) ⊎ ((a + 1 ≤ m) × (test m ≡ false)) → test m ≡ false
first_more test a m here (inl same) = subst (λ (k : ℕ). test k ≡ false) same here
first_more test a m here (inr more) = more.1

-- the step of find_some
some_step : (test : ℕ → Bool) (a c n : ℕ) (b : Bool) → test a ≡ b → cond b (Some a) (find test (range_with_len (a + 1) c)) ≡ Some n
    → (find test (range_with_len (a + 1) c) ≡ Some n → IsFirst test (a + 1) (a + 1 + c) n) → IsFirst test a (a + suc c) n
some_step test a c n true is found more =
    let same : a ≡ n = same_Some a n found in
    record {
      from = omega (arith, same);
      below = omega (arith, same);
      passes = subst (λ (k : ℕ). test k ≡ true) same is;
      first = λ m low high. absurd (omega (arith, same, low, high));
    }
some_step test a c n false is found more =
    let f = more found in
    record {
      from = omega (arith, f.from);
      below = omega (arith, f.below);
      passes = f.passes;
      first = λ m low high. first_by m low high (least a m low);
    }
  where
    first_by : (m : ℕ) → a ≤ m → m < n → (a ≡ m) ⊎ (a + 1 ≤ m) → test m ≡ false
    first_by m low high (inl same) = subst (λ (k : ℕ). test k ≡ false) same is
    first_by m low high (inr above) = (more found).first m above high

-- what is found is the first
pub find_some : (test : ℕ → Bool) (a c n : ℕ) → find test (range_with_len a c) ≡ Some n → IsFirst test a (a + c) n
find_some test a zero n found = absurd (none-some n found)
find_some test a (suc c) n found = some_step test a c n (test a) refl found (find_some test (a + 1) c n)

-- the step of find_none
none_step : (test : ℕ → Bool) (a c : ℕ) (b : Bool) → test a ≡ b → cond b (Some a) (find test (range_with_len (a + 1) c)) ≡ None
    → (find test (range_with_len (a + 1) c) ≡ None → NonePasses test (a + 1) (a + 1 + c)) → NonePasses test a (a + suc c)
none_step test a c true is found more m low high = absurd (none-some a (sym found))
none_step test a c false is found more m low high = by (least a m low)
  where
    by : (a ≡ m) ⊎ (a + 1 ≤ m) → test m ≡ false
    by (inl same) = subst (λ (k : ℕ). test k ≡ false) same is
    by (inr above) = more found m above (omega (arith, high))

-- where nothing is found, none passes
pub find_none : (test : ℕ → Bool) (a c : ℕ) → find test (range_with_len a c) ≡ None → NonePasses test a (a + c)
find_none test a zero found m low high = absurd (omega (arith, low, high))
find_none test a (suc c) found m low high = none_step test a c (test a) refl found (find_none test (a + 1) c) m low high

-- one of a list passes
pub any_among : {A : Type 0} (test : A → Bool) → (a : A) (xs : List A) → IsAmong a xs → test a ≡ true → list_any test xs ≡ true
any_among test a [] there passes = absurd there
any_among test a (b ∷ bs) (inl same) passes = or_left (test b) (list_any test bs) (ap test (sym same) ∙ passes)
any_among test a (b ∷ bs) (inr more) passes = or_right (test b) (list_any test bs) (any_among test a bs more passes)

-- what follows from each that passes
pub any_gives : {A : Type 0} (test : A → Bool) (P : A → Type 0) (Q : Type 0) → ((a : A) → test a ≡ true → P a → Q) → (xs : List A)
    → AllByRecursion P xs → list_any test xs ≡ true → Q
any_gives test P Q f [] all any = absurd (true≢false (sym any))
any_gives test P Q f (a ∷ xs) all any = elim (or_cases (test a) (list_any test xs) any) [
  | inl here ↦ f a here all.0
  | inr more ↦ any_gives test P Q f xs all.1 more
]
