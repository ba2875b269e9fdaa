-- Fields of bytes that are compared at once.
use Rattle.std.proofs.Common.{◌≡◌, ◌∙◌, ◌+◌, ◌*◌, ℕ, List, [], ◌∷◌, Bool, true, false, not, cond, ◌&&◌, nat_eq, length, refl, arith}
use Rattle.std.specs.Str.{bytes_eq}
use Rattle.std.specs.Simd.Lanes.{zip2, mask_l}

abbrev pub differ : ℕ → ℕ → Bool
differ x y = not (nat_eq x y)

twice : (m : ℕ) → nat_eq (0 + 2 * m) 0 ≡ nat_eq m 0
twice m = grind arith

step : (same : Bool) (m : ℕ) (rest : Bool) → nat_eq m 0 ≡ rest → nat_eq (cond (not same) 1 0 + 2 * m) 0 ≡ same && rest
step true m rest e = twice m ∙ e
step false m rest e = grind arith

-- no lane differs exactly where the bytes are the same
pub no_mask-same : (xs ys : List ℕ) → length xs ≡ length ys → nat_eq (mask_l (zip2 differ xs ys)) 0 ≡ bytes_eq xs ys
no_mask-same [] [] e = refl
no_mask-same [] (y ∷ ys) e = search e
no_mask-same (x ∷ xs) [] e = search e
no_mask-same (x ∷ xs) (y ∷ ys) e = step (nat_eq x y) (mask_l (zip2 differ xs ys)) (bytes_eq xs ys) (no_mask-same xs ys (omega (arith, e)))
