-- What a page tells of its clock, which stands still, and of its noise, which is zero.
use Rattle.std.proofs.Common.{◌≡◌, rules, ◌-◌, ◌+◌, ◌++◌, ℕ, zero, suc, List, [], ◌∷◌, Some, length, replicate, refl, ap, sym, ◌∙◌, arith}
use Rattle.std.specs.Prelude.{min, slice_index, unwrap_or}
use Rattle.std.specs.Io.KnownBytes.{append_known}
use Rattle.std.proofs.lemmas.List.{length-replicate, replicate-append-replicate}
use Rattle.arc_io.specs.Lists.{reading_at, readings_of, noise_of}

at_first : (xs : List ℕ) (n : ℕ) → length xs ≡ 1 → reading_at xs n ≡ slice_index xs 0
at_first xs n one =
    let same : min n (length xs - 1) ≡ 0 = omega arith in
    ap (slice_index xs) same

behind_same : (n x : ℕ) → replicate n x ++ x ∷ [] ≡ x ∷ replicate n x
behind_same zero x = refl
behind_same (suc n) x = ap (λ xs. x ∷ xs) (behind_same n x)

-- each reading of a list of one is that one
readings_same : (xs : List ℕ) (n : ℕ) → length xs ≡ 1 → readings_of xs n ≡ replicate n (slice_index xs 0)
readings_same xs zero one = refl
readings_same xs (suc n) one =
    let x = slice_index xs 0 in
    ap (λ ys. ys ++ reading_at xs n ∷ []) (readings_same xs n one) ∙ ap (λ y. replicate n x ++ y ∷ []) (at_first xs n one) ∙ behind_same n x

-- readings behind the first, all the same
pub record StandsStill (moment calls : ℕ) (added : List ℕ) : Type 0 where
  pub same : added ≡ replicate (length added) moment
  pub count : calls ≡ length added + 1

head_in : List ℕ → ℕ → ℕ
head_in [] x = x
head_in (y ∷ ys) x = y

abbrev tail_in : List ℕ → List ℕ
tail_in [] = []
tail_in (y ∷ ys) = ys

behind_first : (n c moment : ℕ) (added : List ℕ) → replicate n c ≡ moment ∷ added → StandsStill moment n added
unfolding head_in
behind_first zero c moment added is = search rules
behind_first (suc n) c moment added is =
    let first : c ≡ moment = ap (λ xs. head_in xs c) is in
    let rest : replicate n c ≡ added = ap tail_in is in
    let count : length added ≡ n = ap length (sym rest) ∙ length-replicate n c in
    record {
      same = sym rest ∙ ap (λ k. replicate k c) (sym count) ∙ ap (λ x. replicate (length added) x) first;
      count = omega arith;
    }

-- of a clock that goes through a list of one, and gave this moment first
pub still : (xs : List ℕ) (calls moment : ℕ) (added : List ℕ) → length xs ≡ 1
    → Some (readings_of xs calls) ≡ append_known (Some (moment ∷ [])) added → StandsStill moment calls added
still xs calls moment added one is =
    behind_first calls (slice_index xs 0) moment added (sym (readings_same xs calls one) ∙ ap (λ k. unwrap_or k []) is)

zeros : (calls : ℕ) → noise_of [] calls ≡ replicate (calls + calls + calls + calls + calls + calls + calls + calls + calls + calls) 0
zeros zero = refl
zeros (suc n) =
    let more : n + n + n + n + n + n + n + n + n + n + 10 ≡ suc n + suc n + suc n + suc n + suc n + suc n + suc n + suc n + suc n + suc n = omega arith in
    ap (λ ys. ys ++ replicate 10 0) (zeros n) ∙ replicate-append-replicate (n + n + n + n + n + n + n + n + n + n) 10 0 ∙ ap (λ k. replicate k 0) more

-- of a noise that goes through no list
pub silent : (calls : ℕ) (added : List ℕ) → Some (noise_of [] calls) ≡ append_known (Some []) added → added ≡ replicate (length added) 0
silent calls added is =
    let n = calls + calls + calls + calls + calls + calls + calls + calls + calls + calls in
    let same : replicate n 0 ≡ added = sym (zeros calls) ∙ ap (λ k. unwrap_or k []) is in
    let count : n ≡ length added = sym (length-replicate n 0) ∙ ap length same in
    sym same ∙ ap (λ k. replicate k 0) count
