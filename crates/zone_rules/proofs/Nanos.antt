-- Seconds and nanoseconds compare the same.
use Rattle.std.specs.Prelude.{int_le, int_lt}
use Rattle.std.proofs.Common.{◌≡◌, ℕ, ℤ, pos, ◌-ℤ◌, ◌<ℤ◌, ◌≤ℤ◌, ◌⊎◌, true, false, inl, inr, refl, sym, ◌∙◌, arith}
use Rattle.std.proofs.lemmas.Bool.{cases_Bool, cond-true, cond-false}
use borrow.Author.Differences.{lt-true, lt-false, le-true, le-false, lt_out, le_out, below_in, at_most_in, true_is_lt, false_is_lt, true_is_le, false_is_le}
use Rattle.jiff_core.proofs.SignedLemmas.{signed_arith}
use Rattle.jiff_core.specs.Timestamp.{nanos_of_seconds}
use Rattle.jiff_tz.specs.PosixRule.{clamp_to, in_window}

-- how a test ends
pub lt_tells : (a b : ℤ) → ((int_lt a b ≡ true) × (a <ℤ b)) ⊎ ((int_lt a b ≡ false) × (b ≤ℤ a))
lt_tells a b = elim (cases_Bool (int_lt a b)) [
  | inl less ↦ inl (less, below_in a b (lt-true a b less))
  | inr more ↦ inr (more, at_most_in b a (lt-false a b more))
]

pub le_tells : (a b : ℤ) → ((int_le a b ≡ true) × (a ≤ℤ b)) ⊎ ((int_le a b ≡ false) × (b <ℤ a))
le_tells a b = elim (cases_Bool (int_le a b)) [
  | inl less ↦ inl (less, at_most_in a b (le-true a b less))
  | inr more ↦ inr (more, below_in b a (le-false a b more))
]

pub lt-is_true : (a b : ℤ) → a <ℤ b → int_lt a b ≡ true
lt-is_true a b less = sym (true_is_lt a b (lt_out a b less))

pub lt-is_false : (a b : ℤ) → b ≤ℤ a → int_lt a b ≡ false
lt-is_false a b more = sym (false_is_lt a b (le_out b a more))

pub le-is_true : (a b : ℤ) → a ≤ℤ b → int_le a b ≡ true
le-is_true a b less = sym (true_is_le a b (le_out a b less))

pub le-is_false : (a b : ℤ) → b <ℤ a → int_le a b ≡ false
le-is_false a b more = sym (false_is_le a b (lt_out b a more))

-- a test of two numbers is that of two others
same_lt : (a b c d : ℤ) → (a <ℤ b → c <ℤ d) → (b ≤ℤ a → d ≤ℤ c) → int_lt a b ≡ int_lt c d
same_lt a b c d less more = elim (lt_tells a b) [
  | inl below ↦ below.0 ∙ sym (lt-is_true c d (less below.1))
  | inr above ↦ above.0 ∙ sym (lt-is_false c d (more above.1))
]

same_le : (a b c d : ℤ) → (a ≤ℤ b → c ≤ℤ d) → (b <ℤ a → d <ℤ c) → int_le a b ≡ int_le c d
same_le a b c d less more = elim (le_tells a b) [
  | inl below ↦ below.0 ∙ sym (le-is_true c d (less below.1))
  | inr above ↦ above.0 ∙ sym (le-is_false c d (more above.1))
]

-- A moment of a year in nanoseconds and in seconds: a whole second of the year, or its last nanosecond and its end.
abbrev pub Told : ℤ → ℤ → ℤ → Type 0
Told end nanos second =
    ((second <ℤ end) × (nanos ≡ nanos_of_seconds second)) ⊎ ((second ≡ end) × (nanos ≡ nanos_of_seconds end -ℤ pos 1))

told_le : (end n s : ℤ) (t : ℕ) → Told end n s → int_le n (nanos_of_seconds (pos t)) ≡ int_le s (pos t)
told_le end n s t (inl whole) =
    let at = whole.1 in
    same_le n (nanos_of_seconds (pos t)) s (pos t) (λ h. omega (arith, signed_arith)) (λ h. omega (arith, signed_arith))
told_le end n s t (inr last) =
    let here = last.0 in
    let at = last.1 in
    same_le n (nanos_of_seconds (pos t)) s (pos t) (λ h. omega (arith, signed_arith)) (λ h. omega (arith, signed_arith))

told_lt : (end n s : ℤ) (t : ℕ) → Told end n s → int_lt (nanos_of_seconds (pos t)) n ≡ int_lt (pos t) s
told_lt end n s t (inl whole) =
    let at = whole.1 in
    same_lt (nanos_of_seconds (pos t)) n (pos t) s (λ h. omega (arith, signed_arith)) (λ h. omega (arith, signed_arith))
told_lt end n s t (inr last) =
    let here = last.0 in
    let at = last.1 in
    same_lt (nanos_of_seconds (pos t)) n (pos t) s (λ h. omega (arith, signed_arith)) (λ h. omega (arith, signed_arith))

told_order : (end n s m u : ℤ) → Told end n s → Told end m u → int_le n m ≡ int_le s u
told_order end n s m u (inl a) (inl b) =
    let a1 = a.1 in let b1 = b.1 in
    same_le n m s u (λ h. omega (arith, signed_arith)) (λ h. omega (arith, signed_arith))
told_order end n s m u (inl a) (inr b) =
    let a0 = a.0 in let a1 = a.1 in let b0 = b.0 in let b1 = b.1 in
    same_le n m s u (λ h. omega (arith, signed_arith)) (λ h. omega (arith, signed_arith))
told_order end n s m u (inr a) (inl b) =
    let a0 = a.0 in let a1 = a.1 in let b0 = b.0 in let b1 = b.1 in
    same_le n m s u (λ h. omega (arith, signed_arith)) (λ h. omega (arith, signed_arith))
told_order end n s m u (inr a) (inr b) =
    let a0 = a.0 in let a1 = a.1 in let b0 = b.0 in let b1 = b.1 in
    same_le n m s u (λ h. omega (arith, signed_arith)) (λ h. omega (arith, signed_arith))

-- so a moment lies between two of nanoseconds where it lies between the two of seconds
pub same_window : (end n s m u : ℤ) (t : ℕ) → Told end n s → Told end m u → in_window (n, m) (nanos_of_seconds (pos t)) ≡ in_window (s, u) (pos t)
same_window end n s m u t start stop =
    let order = told_order end n s m u start stop in
    let from = told_le end n s t start in
    let to = told_lt end m u t stop in
    let past = told_le end m u t stop in
    let before = told_lt end n s t start in
    rw (order, from, to, past, before) refl

-- a number kept between two others is the one that it goes beyond, or itself
pub clamp-tells : (low high z : ℤ) → ((z <ℤ low) × (clamp_to low high z ≡ low))
    ⊎ (((high <ℤ z) × (clamp_to low high z ≡ high)) ⊎ ((low ≤ℤ z) × (z ≤ℤ high) × (clamp_to low high z ≡ z)))
clamp-tells low high z = elim (lt_tells z low) [
  | inl below ↦ inl (below.1, cond-true (int_lt z low) _ _ below.0)
  | inr above ↦ elim (lt_tells high z) [
    | inl beyond ↦ inr (inl (beyond.1, cond-false (int_lt z low) _ _ above.0 ∙ cond-true (int_lt high z) _ _ beyond.0))
    | inr within ↦ inr (inr (above.1, within.1, cond-false (int_lt z low) _ _ above.0 ∙ cond-false (int_lt high z) _ _ within.0))
  ]
]
