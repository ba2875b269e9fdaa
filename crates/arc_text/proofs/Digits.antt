-- As many steps as binary digits.
use Rattle.std.proofs.Common.{◌≤◌, ◌<◌, ◌+◌, ◌-◌, ◌*◌, ◌^◌, ℕ, suc, arith, ⊎_elim}
use Rattle.std.proofs.Math.Nat.{pow-le-pow_right, pow-succ'}
use Rattle.std.proofs.lemmas.Bool.{cases_lt}
use Rattle.arc_text.specs.Comparisons.{StepsAreDigits}

too_many : (digits count used : ℕ) → count < 2 ^ digits → 2 ^ used ≤ 2 * count + 1 → digits < used → ⊥
too_many digits count used fewer few more =
    let least : suc digits ≤ used = omega (arith, more) in
    let some : 0 < 2 = omega arith in
    let grown : 2 ^ suc digits ≤ 2 ^ used = pow-le-pow_right some least in
    let twice = pow-succ' 2 digits in
    omega (arith, grown, twice, fewer, few)

pub steps_are_digits : StepsAreDigits
steps_are_digits digits count before now fewer cost =
    ⊎_elim (λ h. absurd (too_many digits count (now - before) fewer cost.few h)) (λ h. omega (arith, h, cost.kept)) (cases_lt digits (now - before))
