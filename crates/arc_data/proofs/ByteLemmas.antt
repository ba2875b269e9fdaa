-- Lists of bytes.
use Rattle.std.proofs.Common.{◌<◌, suc, ℕ, List, [], ◌∷◌, get_or}
use Rattle.arc_data.specs.Digits.{AreBytes}

-- what is below 256 at each place is a list of bytes
pub are_bytes : (xs : List ℕ) → ((k : ℕ) → get_or xs k 0 < 256) → AreBytes xs
are_bytes [] below = tt
are_bytes (x ∷ xs) below = (below 0, are_bytes xs (λ k. below (suc k)))
