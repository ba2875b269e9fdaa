-- Counts as they are spelled.
use Rattle.std.proofs.Common.{◌≡◌, ◌<◌, ◌^◌, ℕ, Some, None, List, sym, ◌∙◌, arith}
use Rattle.std.specs.Prelude.{decimal}
use Rattle.std.specs.Str.{bytes_eq}
use Rattle.std.proofs.lemmas.Bool.{false_from_ne_true}
use Rattle.std.proofs.lemmas.Fmt.{decimal_injective}
use Rattle.std.proofs.lemmas.Slice.Eq.{bytes_eq-Decides}
use Rattle.alarm_rules.proofs.FirstNumbers.{first_from-first, first_from-none}
use Rattle.desk_said.specs.Words.{count_spelled}

pub count_found : (word : List ℕ) (n : ℕ) → word ≡ decimal n → n < 2 ^ 64 → count_spelled word ≡ Some n
count_found word n is small =
    first_from-first (λ u. bytes_eq word (decimal u)) 0 18_446_744_073_709_551_616 n (record {
      passes = (bytes_eq-Decides word (decimal n)).1 is;
      low = omega arith;
      high = omega arith;
      first = λ u from below. false_from_ne_true (bytes_eq word (decimal u)) (λ same.
          let other : u ≡ n = decimal_injective u n (omega arith) small (sym ((bytes_eq-Decides word (decimal u)).0 same) ∙ is) in
          absurd (omega arith));
    })

pub count_none : (word : List ℕ) → ((n : ℕ) → n < 2 ^ 64 → word ≡ decimal n → ⊥) → count_spelled word ≡ None
count_none word none =
    first_from-none (λ u. bytes_eq word (decimal u)) 0 18_446_744_073_709_551_616 (λ u from below.
    false_from_ne_true (bytes_eq word (decimal u)) (λ same. none u (omega arith) ((bytes_eq-Decides word (decimal u)).0 same)))
