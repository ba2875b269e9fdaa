use Rattle.std.proofs.Common.{◌∙◌, sym, length, get_or, arith, ℕ, ◌≡◌, ◌≤◌, List, Option, Some, None}
use Rattle.std.specs.Prelude.{unwrap_or}
use Rattle.std.specs.List.{position_or_len}
use Rattle.std.proofs.lemmas.List.Sums.{position_or_len_is}
use Rattle.std.proofs.lemmas.Bool.{false_from_ne_true}
use Rattle.memchr.specs.Find.{IsFirstByte}
use Rattle.dc09_frame.specs.Cutting.{is_end}
use Rattle.dc09_frame.proofs.cutter.run_length.Goals as goal

found : (xs : List ℕ) (r : Option ℕ) → IsFirstByte is_end xs r → (unwrap_or r (length xs) ≡ position_or_len is_end xs) × (unwrap_or r (length xs) ≤ length xs)
found xs None none =
    (sym (position_or_len_is is_end xs (length xs) 0 (omega arith) (λ k below. false_from_ne_true (is_end (get_or xs k 0)) (none k (omega arith) below)) (λ beyond. search (beyond, arith))), omega arith)
found xs (Some i) first =
    (sym (position_or_len_is is_end xs i 0 (omega (arith, first.0.high)) (λ k below. false_from_ne_true (is_end (get_or xs k 0)) (first.0.before k (omega arith) below)) (λ within. first.1)), omega (arith, first.0.high))

pub returns-clause-value : goal.returns-clause-value
returns-clause-value c = c.unwrap_or.ensures ∙ (found c.args.bytes.now c.memchr2.result c.memchr2.ensures).0

pub returns-clause-within : goal.returns-clause-within
returns-clause-within c = search (c.unwrap_or.ensures, (found c.args.bytes.now c.memchr2.result c.memchr2.ensures).1)
