use Rattle.std.proofs.Common.{◌≡◌, ◌+◌, ◌-◌, ◌*◌, ◌∷◌, [], ℕ, List, length, get_or, arith}
use Rattle.arc_data.specs.Digits.{dec_value}
use Rattle.dc09_message.proofs.verdicts.sequence_of.Goals as goal

four : (bs : List ℕ) → length bs ≡ 4 → (get_or bs 0 0 - 48) * 1000 + (get_or bs 1 0 - 48) * 100 + (get_or bs 2 0 - 48) * 10 + (get_or bs 3 0 - 48) ≡ dec_value bs
unfolding dec_value
four (a ∷ b ∷ c ∷ d ∷ []) e = omega arith
four other e = absurd (omega arith)

pub returns : goal.returns
returns c = rw (c.value.ensures, c.value-2.ensures, c.value-3.ensures, c.value-4.ensures) (four c.args.digits.now c.told-digits)
