-- What one more mark leaves as it was.
use Rattle.std.proofs.Common.{◌≡◌, ℕ, ◌+◌, ◌≤◌, List, [], ◌∷◌, length, false, Option, Some, None, refl, arith}
use Rattle.std.specs.Prelude.{◌==◌}
use Rattle.std.specs.List.{last_or}
use Rattle.std.proofs.lemmas.Bool.{ne_eqb}
use Rattle.std.proofs.lemmas.Option.{none-some}
use Rattle.panel_rules.specs.Marks.{Report, numbered}

-- the last of a list is its last with one more in front
pub last_more : (t last : ℕ) (ts : List ℕ) → last_or None ts ≡ Some last → last_or None (t ∷ ts) ≡ Some last
last_more t last [] is = absurd (none-some last is)
last_more t last (u ∷ ts) is = is

-- what the others report is as it was with one more
pub numbered_more : (n : ℕ) (report : Report) (reports : List Report) → n ≤ length reports → numbered n (report ∷ reports) ≡ numbered n reports
numbered_more n report reports most =
    let other : (n == length reports + 1) ≡ false = ne_eqb n (length reports + 1) (omega arith) in rw other refl
