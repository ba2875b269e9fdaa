-- The first number of a range that passes a test, as a relation.
use Rattle.std.specs.Prelude.{Some, None, Bool}
use Rattle.std.proofs.Common.{◌≡◌, ◌<◌, ◌≤◌, ◌+◌, ℕ, zero, suc, true, false, inl, inr, refl, sym, ap, subst, ◌∙◌, arith}
use Rattle.std.proofs.lemmas.Bool.{cases_Bool, cases_lt, both_ways, cond-true, cond-false}
use Rattle.alarm_rules.specs.FirstFrom.{first_from}

-- what was found passes the test, lies in the range, and is the first there
pub record IsFirst (test : ℕ → Bool) (start more t : ℕ) : Type 0 where
  pub passes : test t ≡ true
  pub low : start ≤ t
  pub high : t < start + more
  pub first : (u : ℕ) → start ≤ u → u < t → test u ≡ false

-- where the first number does not pass, it is the same search among the others
first_from-next : (test : ℕ → Bool) (start more : ℕ) → test start ≡ false → first_from test start (suc more) ≡ first_from test (start + 1) more
unfolding first_from
first_from-next test start more fails = cond-false (test start) _ _ fails

first_from-here : (test : ℕ → Bool) (start more : ℕ) → test start ≡ true → first_from test start (suc more) ≡ Some start
unfolding first_from
first_from-here test start more passes = cond-true (test start) _ _ passes

first_from-zero : (test : ℕ → Bool) (start : ℕ) → first_from test start zero ≡ None
unfolding first_from
first_from-zero test start = refl

-- the search finds the first number in the range that passes
pub first_from-first : (test : ℕ → Bool) (start more t : ℕ) → IsFirst test start more t → first_from test start more ≡ Some t
first_from-first test start zero t is = absurd (omega (arith, is.low, is.high))
first_from-first test start (suc more) t is =
    elim (cases_Bool (test start)) [
      | inl passes ↦
          elim (cases_lt start t) [
            | inl below ↦ absurd (both_ways (test start) (is.first start (omega arith) below) passes)
            | inr here ↦
                let same : start ≡ t = omega (arith, is.low) in
                first_from-here test start more passes ∙ ap Some same
          ]
      | inr fails ↦ first_from-next test start more fails ∙ first_from-first test (start + 1) more t (past fails)
    ]
  where
    past : test start ≡ false → IsFirst test (start + 1) more t
    past fails = record {
      passes = is.passes;
      low = elim (cases_lt start t) [
        | inl below ↦ omega arith
        | inr here ↦
            let same : t ≡ start = omega (arith, is.low) in
            absurd (both_ways (test start) fails (subst (λ (u : ℕ). test u ≡ true) same is.passes))
      ];
      high = omega (arith, is.high);
      first = λ u low below. is.first u (omega arith) below;
    }

-- and nothing where none passes
pub first_from-none : (test : ℕ → Bool) (start more : ℕ) → ((u : ℕ) → start ≤ u → u < start + more → test u ≡ false) → first_from test start more ≡ None
first_from-none test start zero never = first_from-zero test start
first_from-none test start (suc more) never =
    first_from-next test start more (never start (omega arith) (omega arith))
    ∙ first_from-none test (start + 1) more (λ u low high. never u (omega arith) (omega arith))

-- and what it gave is such
pub first_from-found : (test : ℕ → Bool) (start more t : ℕ) → first_from test start more ≡ Some t → IsFirst test start more t
first_from-found test start zero t gave = let nothing = sym (first_from-zero test start) ∙ gave in absurd (cc)
first_from-found test start (suc more) t gave =
    elim (cases_Bool (test start)) [
      | inl passes ↦
          let same = sym (first_from-here test start more passes) ∙ gave in
          let here : t ≡ start = cc in
          rw here (record { passes = passes; low = omega arith; high = omega arith; first = λ u low below. absurd (omega arith) })
      | inr fails ↦ past fails (first_from-found test (start + 1) more t (sym (first_from-next test start more fails) ∙ gave))
    ]
  where
    past : test start ≡ false → IsFirst test (start + 1) more t → IsFirst test start (suc more) t
    past fails is = record {
      passes = is.passes;
      low = omega (arith, is.low);
      high = omega (arith, is.high);
      first = λ u low below. elim (cases_lt start u) [
        | inl above ↦ is.first u (omega arith) below
        | inr here ↦
            let same : u ≡ start = omega arith in
            rw same fails
      ];
    }

pub first_from-empty : (test : ℕ → Bool) (start more : ℕ) → first_from test start more ≡ None → (u : ℕ) → start ≤ u → u < start + more → test u ≡ false
first_from-empty test start zero gave u low high = absurd (omega arith)
first_from-empty test start (suc more) gave u low high =
    elim (cases_Bool (test start)) [
      | inl passes ↦ let same = sym (first_from-here test start more passes) ∙ gave in absurd (cc)
      | inr fails ↦ elim (cases_lt start u) [
        | inl above ↦ first_from-empty test (start + 1) more (sym (first_from-next test start more fails) ∙ gave) u (omega arith) (omega arith)
        | inr here ↦
            let same : u ≡ start = omega arith in
            rw same fails
      ]
    ]
