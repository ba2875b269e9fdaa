-- The place of a number among others in order.
use Rattle.std.proofs.Common.{◌≡◌, ◌≤◌, ◌+◌, ℕ, suc, List, [], ◌∷◌, length, Bool, true, false, cond, refl, ap, ◌∙◌, None, Some, arith}
use Rattle.std.specs.Prelude.{not, nat_lt}
use Rattle.std.specs.List.{insert, position, position_or_len}
use Rattle.std.proofs.lemmas.Bool.Decides.{nat_tests}
use Rattle.std.proofs.lemmas.List.Sums.{prefix_len-le-length}
use Rattle.open_incidents.specs.Holding.{with_number}

last_if : (m n : ℕ) (b : Bool) → nat_lt m n ≡ b → m ≤ n → cond b (Some m) None ≡ None → n ≡ m
last_if m n true t le e = cc
last_if m n false t le e = grind (arith, nat_tests)

-- none is greater
pub place_last : (n : ℕ) (ms : List ℕ) → position (nat_lt n) ms ≡ None → length ms ≡ position_or_len (nat_lt n) ms
place_last n ms e =
    last_if (position_or_len (nat_lt n) ms) (length ms) (nat_lt (position_or_len (nat_lt n) ms) (length ms)) refl
    (prefix_len-le-length (λ m. not (nat_lt n m)) ms) e

insert_next : (n m : ℕ) (ms : List ℕ) (k : ℕ) → insert (m ∷ ms) (1 + k) n ≡ m ∷ insert ms k n
insert_next n m ms k = let next : 1 + k ≡ suc k = omega arith in rw next refl

placed_if : (n m : ℕ) (ms : List ℕ) (b : Bool) → nat_lt n m ≡ b → insert ms (position_or_len (nat_lt n) ms) n ≡ with_number n ms
    → insert (m ∷ ms) (cond (not b) (1 + position_or_len (nat_lt n) ms) 0) n ≡ cond b (n ∷ m ∷ ms) (m ∷ with_number n ms)
placed_if n m ms true e rest = refl
placed_if n m ms false e rest = insert_next n m ms (position_or_len (nat_lt n) ms) ∙ ap (λ (l : List ℕ). m ∷ l) rest

-- put in before the first that is greater
placed : (n : ℕ) (ms : List ℕ) → insert ms (position_or_len (nat_lt n) ms) n ≡ with_number n ms
placed n [] = refl
placed n (m ∷ ms) = placed_if n m ms (nat_lt n m) refl (placed n ms)

-- an insert for which there was memory
pub put_in : (n : ℕ) (ms ns : List ℕ) (k : ℕ) (b : Bool) → b ≡ true → k ≡ position_or_len (nat_lt n) ms → ns ≡ cond b (insert ms k n) ms
    → ns ≡ with_number n ms
put_in n ms ns k true t place is = is ∙ ap (λ (p : ℕ). insert ms p n) place ∙ placed n ms
put_in n ms ns k false t place is = cc
