-- What is left of a list of parts behind its first.
use Rattle.std.proofs.Common.{◌≡◌, ◌<◌, ℕ, ◌+◌, List, [], ◌++◌, length, drop, refl, ap, arith, add-one, length-drop}
use Rattle.std.specs.List.{flat_map, range_with_len}

-- the part of the first number, and those of the numbers behind it
pub first_part : (f : ℕ → List ℕ) (i count rest : ℕ) → count ≡ rest + 1
    → flat_map f (range_with_len i count) ≡ f i ++ flat_map f (range_with_len (i + 1) rest)
first_part f i count rest is = rw (is, add-one) refl

-- before the end of a list something is left of it
pub some_left : (xs : List ℕ) (at : ℕ) → at < length xs → drop at xs ≡ [] → ⊥
some_left xs at lt none = omega (arith, length-drop at xs, ap length none)
