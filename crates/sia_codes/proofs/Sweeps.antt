-- The class and kind of every code, by computation.
use Rattle.std.proofs.Common.{◌≡◌, ℕ, ◌+◌, ◌-◌, ◌≤◌, List, [], ◌∷◌, true, refl, arith}
use Rattle.std.specs.Prelude.{if◌then◌else◌, ◌==◌, ◌||◌, ◌&&◌}
use Rattle.std.proofs.lemmas.Bool.{and_parts, leb-true}
use Rattle.arc_data.specs.declared.signal.Class.{Class}
use Rattle.arc_data.specs.declared.signal.Class.TheVariants.{Fire, Medical, Panic, Gas, Burglary, Tamper, Environment, CommFail, Trouble, LateClose, Unlisted, Test, OpenClose, Bypass, Cancel}
use Rattle.arc_data.specs.declared.signal.Kind.{Kind}
use Rattle.arc_data.specs.declared.signal.Kind.TheVariants.{New, Restore, Opening, Closing, LogOnly}
use Rattle.alarm_rules.specs.SiaCodes.{is_upper, sia_meaning, sia_table}
use Rattle.alarm_rules.proofs.Agreement.{values_below, agree_below}

-- the class and kind by letters, as the code has it
abbrev pub by_letters : ℕ → ℕ → Class × Kind
by_letters a b =
    if ((a == 70) || (a == 75)) && (b == 65) then (Fire, New)
    else if ((a == 70) && (b == 72)) || (((a == 70) || (a == 75)) && (b == 82)) then (Fire, Restore)
    else if ((a == 77) || (a == 81)) && (b == 65) then (Medical, New)
    else if ((a == 77) || (a == 81)) && (b == 82) then (Medical, Restore)
    else if ((a == 72) || (a == 80)) && (b == 65) then (Panic, New)
    else if ((a == 72) || (a == 80)) && (b == 82) then (Panic, Restore)
    else if (a == 71) && (b == 65) then (Gas, New)
    else if (a == 71) && (b == 82) then (Gas, Restore)
    else if ((a == 66) && ((b == 65) || (b == 86))) || ((a == 85) && (b == 65)) then (Burglary, New)
    else if ((a == 66) || (a == 85)) && (b == 82) then (Burglary, Restore)
    else if (a == 84) && (b == 65) then (Tamper, New)
    else if (a == 84) && (b == 82) then (Tamper, Restore)
    else if ((a == 87) || (a == 90)) && (b == 65) then (Environment, New)
    else if ((a == 87) || (a == 90)) && (b == 82) then (Environment, Restore)
    else if (a == 89) && (b == 67) then (CommFail, New)
    else if (a == 89) && (b == 75) then (CommFail, Restore)
    else if ((a == 65) || (a == 66) || (a == 70) || (a == 89)) && (b == 84) then (Trouble, New)
    else if (((a == 65) || (a == 89)) && (b == 82)) || (((a == 66) || (a == 70)) && (b == 74)) then (Trouble, Restore)
    else if (a == 67) && (b == 73) then (LateClose, New)
    else if (a == 79) && ((b == 80) || (b == 71) || (b == 82)) then (OpenClose, Opening)
    else if (a == 67) && ((b == 76) || (b == 70) || (b == 71)) then (OpenClose, Closing)
    else if (a == 66) && ((b == 66) || (b == 85)) then (Bypass, LogOnly)
    else if (a == 66) && (b == 67) then (Cancel, LogOnly)
    else if (a == 82) && ((b == 80) || (b == 88)) then (Test, LogOnly)
    else (Unlisted, New)

abbrev by_table : ℕ → ℕ → Class × Kind
by_table a b = sia_meaning (a ∷ b ∷ [])

-- the values at all letters that follow a first one
abbrev row_of : (ℕ → ℕ → Class × Kind) → ℕ → List (Class × Kind)
row_of f a = values_below (λ b. f (65 + a) (65 + b)) 26

agreed : values_below (row_of by_table) 26 ≡ values_below (row_of by_letters) 26
unfolding sia_meaning sia_table
agreed = refl

pub by_letters_is : (a b : ℕ) → is_upper a ≡ true → is_upper b ≡ true → sia_meaning (a ∷ b ∷ []) ≡ by_letters a b
by_letters_is a b upper_a upper_b =
    let bounds_a = and_parts _ _ upper_a in
    let bounds_b = and_parts _ _ upper_b in
    let low_a : 65 ≤ a = leb-true 65 a bounds_a.0 in
    let high_a : a ≤ 90 = leb-true a 90 bounds_a.1 in
    let low_b : 65 ≤ b = leb-true 65 b bounds_b.0 in
    let high_b : b ≤ 90 = leb-true b 90 bounds_b.1 in
    let rows = agree_below (row_of by_table) (row_of by_letters) 26 (a - 65) agreed (omega arith) in
    let cells = agree_below (λ n. by_table (65 + (a - 65)) (65 + n)) (λ n. by_letters (65 + (a - 65)) (65 + n)) 26 (b - 65) rows (omega arith) in
    let is_a : 65 + (a - 65) ≡ a = omega arith in
    let is_b : 65 + (b - 65) ≡ b = omega arith in
    rw (is_a, is_b) at cells
