-- What a read of the next bytes in memory leaves.
use Rattle.std.proofs.Common.{◌≡◌, ℕ, ◌+◌, ◌≤◌, List, ◌++◌, length, take, drop, ◌∙◌, ap, arith, length-drop, take-append-drop}
use Rattle.std.proofs.lemmas.List.{take_at, drop-drop, length-take-le}

-- the bytes from a place on are those that were given, at the front of the buffer, and those after them
pub split_read : (xs given behind : List ℕ) (at n : ℕ) → given ≡ take n (drop at xs) → at + n ≤ length xs
    → drop at xs ≡ take n (given ++ behind) ++ drop (at + n) xs
split_read xs given behind at n is room =
    let len : length given ≡ n = ap length is ∙ length-take-le n (drop at xs) (omega (arith, length-drop at xs)) in
    let front : take n (given ++ behind) ≡ take n (drop at xs) = take_at given behind n len ∙ is in
    rw (front, ← drop-drop n at xs, take-append-drop)
