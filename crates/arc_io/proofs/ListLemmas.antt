-- What a noise gives that goes through a list.
use Rattle.std.proofs.Common.{◌≡◌, ℕ, ◌+◌, List, ◌++◌, suc, sym, ◌∙◌, ap, arith}
use Rattle.arc_io.specs.Lists.{ten_at, noise_of}

-- one ten more
pub noise_of-more : (tens : List (List ℕ)) (n m : ℕ) (ten : List ℕ) → m ≡ n + 1 → ten ≡ ten_at tens n → noise_of tens m ≡ noise_of tens n ++ ten
noise_of-more tens n m ten next is =
    let e : m ≡ suc n = omega (arith, next) in
    ap (noise_of tens) e ∙ ap (λ (l : List ℕ). noise_of tens n ++ l) (sym is)
